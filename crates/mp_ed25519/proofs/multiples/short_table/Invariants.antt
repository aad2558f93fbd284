use Rattle.std.proofs.Common.{◌≡◌, length}
use Rattle.mp_ed25519.specs.Curve.{multiple}
use Rattle.mp_ed25519.specs.Inside.Points.{IsCached, IsTable, point}
use Rattle.mp_ed25519.proofs.multiples.short_table.Given as goal

abbrev pub invariant-loop-j : goal.invariant-loop-j
invariant-loop-j l = record {
  sized : length l.table ≡ 16;
  one : IsCached l.one (point l.p);
  next : point l.multiple ≡ multiple (point l.p) l.j;
  made : IsTable l.table (point l.p) l.j;
}
