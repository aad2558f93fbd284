use Rattle.std.proofs.Common.{◌≡◌, length}
use Rattle.mp_serve.specs.Inside.Former.{earliest, CanAllGoBack}
use Rattle.mp_serve.proofs.former.earliest.Given as goal

-- going back over those that are left leads from here to the first state
abbrev pub invariant-loop-last : goal.invariant-loop-last
invariant-loop-last l = (earliest l.rest l.ledger ≡ earliest l.formers l.now) × CanAllGoBack l.rest l.ledger

abbrev pub decreases-loop-last : goal.decreases-loop-last
decreases-loop-last l = length l.rest
