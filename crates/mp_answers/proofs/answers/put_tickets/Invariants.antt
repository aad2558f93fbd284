use Rattle.std.proofs.Common.{◌≡◌, ◌++◌, take}
use Rattle.mp_answers.specs.AnswerText.{tickets_text}
use Rattle.mp_answers.proofs.answers.put_tickets.Given as goal

-- the tickets so far
abbrev pub invariant-loop-ticket : goal.invariant-loop-ticket
invariant-loop-ticket l = l.text.items ≡ l.fn.text.items ++ tickets_text (take l.ticket-index l.tickets)
