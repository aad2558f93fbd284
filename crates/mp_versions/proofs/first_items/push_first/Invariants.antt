use Rattle.std.proofs.Common.{◌≡◌, ◌-◌, ◌++◌, take}
use Rattle.mp_seqpool.specs.Item.{items_of}
use Rattle.mp_versions.proofs.first_items.push_first.Given as goal

-- the items so far, and those that may still come, are all
abbrev pub invariant-loop : goal.invariant-loop
invariant-loop l = items_of l.items.items ++ take (l.fn.count - l.counter) l.run ≡ take l.fn.count l.fn.run
