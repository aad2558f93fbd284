-- What a reader returns: a value or a fault.
use Rattle.std.specs.Prelude.{Option, Some, None, Result, Ok, Err}

infixl 10 ◌>>=◌
-- the next reader continues after a value; a fault ends the reading
abbrev pub ◌>>=◌ : {A B E : Type 0} → Result A E → (A → Result B E) → Result B E
(Ok x) >>= next = next x
(Err e) >>= next = Err e

-- the value if there is one, and else the fault
abbrev pub or_fault : {A E : Type 0} → E → Option A → Result A E
or_fault e None = Err e
or_fault e (Some x) = Ok x

-- a value that was read, without the bytes after it
abbrev pub value_of : {A R E : Type 0} → Result (A × R) E → Result A E
value_of (Ok x) = Ok x.0
value_of (Err e) = Err e

-- the bytes after a value that was read
abbrev pub rest_of : {A R E : Type 0} → Result (A × R) E → Result R E
rest_of (Ok x) = Ok x.1
rest_of (Err e) = Err e

-- a result whose value is seen through a view
abbrev pub seen : {X A E : Type 0} → (X → A) → Result X E → Result A E
seen view (Ok x) = Ok (view x)
seen view (Err e) = Err e
