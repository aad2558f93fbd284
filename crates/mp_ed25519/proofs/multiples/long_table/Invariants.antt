use Rattle.std.proofs.Common.{◌≡◌, length}
use Rattle.mp_ed25519.specs.Curve.{multiple}
use Rattle.mp_ed25519.specs.Inside.Points.{IsCached, IsTable, point}
use Rattle.mp_ed25519.proofs.multiples.long_table.Given as goal

abbrev pub invariant-loop-i : goal.invariant-loop-i
invariant-loop-i l = record {
  sized : length l.table.items ≡ l._i;
  one : IsCached l.one (point l.p);
  next : point l.multiple ≡ multiple (point l.p) l._i;
  made : IsTable l.table.items (point l.p) l._i;
}
