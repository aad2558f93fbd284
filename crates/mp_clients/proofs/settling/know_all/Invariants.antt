use Rattle.std.proofs.Common.{◌≡◌, take}
use Rattle.std.specs.Prelude.{All, Any, true, false}
use Rattle.mp_clients.specs.Service.{HasSeenOf, KnowsAllOf, LacksOneOf}
use Rattle.mp_clients.proofs.settling.know_all.Given as goal

-- what the conversations so far have seen and know
abbrev pub invariant-loop-finished : goal.invariant-loop-finished
invariant-loop-finished g l =
    (l.locked ≡ l.fn.locked)
    × All (HasSeenOf l.fn.locked.log) (take l.finished-index l.done)
    × (l.is_known ≡ true → All (KnowsAllOf l.fn.locked.log) (take l.finished-index l.done))
    × (l.is_known ≡ false → Any (LacksOneOf l.fn.locked.log) l.done)
