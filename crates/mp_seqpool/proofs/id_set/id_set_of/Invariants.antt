use Rattle.std.proofs.Common.{◌≡◌, take}
use Rattle.indexmap.specs.IndexMap.{hasher_of}
use Rattle.mp_seqpool.specs.Inside.IdSet.{AreNamed}
use Rattle.mp_seqpool.proofs.id_set.id_set_of.Given as goal

-- the table has the ids before the index, and the salt
abbrev pub invariant-loop-id : goal.invariant-loop-id
invariant-loop-id l = record {
  named : AreNamed (take l.id-index l.ids) l.names.entries;
  salt : hasher_of l.names ≡ l.fn.salt;
}
