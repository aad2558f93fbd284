use Rattle.std.proofs.Common.{take}
use Rattle.mp_bundle.specs.Inside.Totals.{HasRoom, KeepsTotals}
use Rattle.mp_bundle.proofs.totals.make_room.Given as goal

-- the entries before the index have room
abbrev pub invariant-loop-token : goal.invariant-loop-token
invariant-loop-token l = record { kept : KeepsTotals l.fn.totals l.totals; room : HasRoom l.totals (take l.token-index l.entries) }
