-- What a verifier decides.
use Rattle.std.specs.Prelude.{ℕ, List, Bool}

-- whether it accepts the signature by a key for a transaction's id; the arguments are the key, the id and the signature
abbrev pub Accepts : Type 0
Accepts = List ℕ → List ℕ → List ℕ → Bool
