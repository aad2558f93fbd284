use Rattle.std.proofs.Common.{◌≡◌, take}
use Rattle.mp_session.proofs.beginning.share_all.Given as goal

-- those so far
abbrev pub invariant-loop-entry : goal.invariant-loop-entry
invariant-loop-entry l = l.shares.items ≡ take l.entry-index l.entries
