use Rattle.std.proofs.Common.{◌≡◌, take}
use Rattle.mp_seqpool.specs.Inside.Followed.{beyond}
use Rattle.mp_seqpool.proofs.steps.beyond.Given as goal

abbrev pub invariant-loop-ticket : goal.invariant-loop-ticket
invariant-loop-ticket l = l.rest ≡ beyond l.named (take l.ticket-index l.gone)
