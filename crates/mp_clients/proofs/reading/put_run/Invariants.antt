use Rattle.std.proofs.Common.{◌≡◌, ◌++◌}
use Rattle.mp_answers.specs.AnswerText.{items_text}
use Rattle.mp_clients.proofs.reading.put_run.Given as goal

-- with the remaining items it is the whole text
abbrev pub invariant-loop-item : goal.invariant-loop-item
invariant-loop-item l = l.text.items ++ items_text l.names l.item-iterator ≡ l.fn.text.items ++ items_text l.names l.fn.items
