use Rattle.std.proofs.Common.{◌≡◌, ◌≤◌, take}
use Rattle.mp_race.specs.Inside.Counts.{counts_of}
use Rattle.mp_race.proofs.report.counts_of.Given as goal

-- the replies so far
abbrev pub invariant-loop-entry : goal.invariant-loop-entry
invariant-loop-entry l =
    (l.counts ≡ counts_of (take l.entry-index l.entries))
    × (l.counts.accepted ≤ l.entry-index) × (l.counts.removes ≤ l.entry-index) × (l.counts.syncs ≤ l.entry-index)
