-- What a salt stores.
use Rattle.std.specs.Prelude.{ℕ}
use Rattle.std.specs.declared.hash.FoldHasher.{FoldHasher}
use Rattle.std.specs.Hash.{le_bytes}
use Rattle.std.specs.Hash.FoldHasher.{initial, write}

-- a hasher that has already hashed the number
abbrev pub fed : ℕ → FoldHasher
fed number = write initial (le_bytes 8 number)
