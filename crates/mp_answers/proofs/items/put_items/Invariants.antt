use Rattle.std.proofs.Common.{◌≡◌, ◌++◌, take}
use Rattle.mp_seqpool.specs.Item.{items_of}
use Rattle.mp_answers.specs.AnswerText.{items_text}
use Rattle.mp_answers.proofs.items.put_items.Given as goal

-- the items so far
abbrev pub invariant-loop-item : goal.invariant-loop-item
invariant-loop-item l = l.text.items ≡ l.fn.text.items ++ items_text l.names (items_of (take l.item-index l.items))
