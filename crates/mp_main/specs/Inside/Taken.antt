-- What was given to a command whose words the program accepted.
use Rattle.std.specs.Prelude.{◌≡◌, ◌⊎◌, IfSome, IsSomeAnd, List, Option, None, Some, codes, is_some, true}
use Rattle.clap.specs.Values.{IsUnsignedIn}
use Rattle.clap.specs.Words.{Row, Text, first_of, one_of}
use Rattle.mp_main.specs.CommandLine.{IsSignatures}

-- the text of an option, if given, is a number that fits into a `u32`
abbrev pub IsSmall : Option Text → Type 0
IsSmall text = IfSome text (IsUnsignedIn 0 4294967295)

-- the same for a `u64`
abbrev pub IsWide : Option Text → Type 0
IsWide text = IfSome text (IsUnsignedIn 0 18446744073709551615)

-- a number of workers from 1 to 64, and either no microseconds or at most 1,000,000
pub record IsRace (rows : List Row) : Type 0 where
  pub workers : IsSomeAnd (one_of (codes "workers") rows) (IsUnsignedIn 1 64)
  pub verify_us : IfSome (one_of (codes "verify-us") rows) (IsUnsignedIn 0 1000000)

-- a file
abbrev pub IsAudit : List Row → Type 0
IsAudit rows = is_some (first_of (codes "FILE") rows) ≡ true

-- one of the names for signatures or none, a salt or none, a number of names or none, no file and no flag
pub record IsServe (rows : List Row) : Type 0 where
  pub salt : IsWide (one_of (codes "salt") rows)
  pub names : IfSome (one_of (codes "names") rows) (IsUnsignedIn 1 4294967296)
  pub file : first_of (codes "FILE") rows ≡ None
  pub explain : one_of (codes "explain") rows ≡ None

-- a run, a race, an audit or a conversation
abbrev pub IsCommand : Text → List Row → Type 0
IsCommand name rows = (name ≡ codes "run")
    ⊎ ((name ≡ codes "race") × IsRace rows)
    ⊎ ((name ≡ codes "audit") × IsAudit rows)
    ⊎ ((name ≡ codes "serve") × IsServe rows)

-- one of those, with the name of signatures or none
abbrev pub IsTaken : Option (Text × List Row) → Type 0
IsTaken None = ⊥
IsTaken (Some command) = IsCommand command.0 command.1 × IfSome (first_of (codes "signatures") command.1) IsSignatures
