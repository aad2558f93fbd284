use Rattle.std.proofs.Common.{◌≡◌, ◌++◌, map, take}
use Rattle.mp_main.specs.Picture.{refusal_mark}
use Rattle.mp_main.proofs.pictures.put_refusals.Given as goal

-- the marks so far
abbrev pub invariant-loop-refusal : goal.invariant-loop-refusal
invariant-loop-refusal l = l.marks.items ≡ l.fn.marks.items ++ map refusal_mark (take l.refusal-index l.refused)
