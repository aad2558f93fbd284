-- Which words of a reference are hashed.
use Rattle.std.specs.Prelude.{◌∷◌, slice_range}
use Rattle.std.specs.Hash as fed
use Rattle.mp_tx.specs.declared.reference.OutRef.{OutRef}

-- the id, 8 bytes at a time, and then the index
abbrev pub written : OutRef → fed.HashWrites
written r =
    slice_range r.id 0 8 ∷ slice_range r.id 8 16 ∷ slice_range r.id 16 24 ∷ slice_range r.id 24 32 ∷ fed.u16 r.index
