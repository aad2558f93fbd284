use Rattle.std.proofs.Common.{◌≡◌, ◌++◌, map, take}
use Rattle.mp_main.specs.Picture.{entry_mark}
use Rattle.mp_main.proofs.pictures.put_entries.Given as goal

-- the marks so far
abbrev pub invariant-loop-entry : goal.invariant-loop-entry
invariant-loop-entry l = l.marks.items ≡ l.fn.marks.items ++ map entry_mark (take l.entry-index l.told)
