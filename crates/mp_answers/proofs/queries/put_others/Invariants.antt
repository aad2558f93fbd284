use Rattle.std.proofs.Common.{◌≡◌, ◌++◌}
use Rattle.mp_seqpool.specs.ValidatedTx.{ticketed}
use Rattle.mp_seqpool.specs.Prepared.{apart}
use Rattle.mp_answers.specs.AnswerText.{items_text}
use Rattle.mp_answers.proofs.queries.put_others.Given as goal

-- with the remaining items it is the whole text
abbrev pub invariant-loop-ticket : goal.invariant-loop-ticket
invariant-loop-ticket l =
    l.text.items ++ items_text l.names (apart l.dropped (ticketed l.ticket-iterator)) ≡ l.fn.text.items ++ items_text l.names (apart l.dropped (ticketed l.fn.items))
