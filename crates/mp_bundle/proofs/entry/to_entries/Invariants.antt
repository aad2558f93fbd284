use Rattle.std.proofs.Common.{◌≡◌, take}
use Rattle.mp_bundle.specs.BundleFault.{entries_of}
use Rattle.mp_bundle.proofs.entry.to_entries.Given as goal

abbrev pub invariant-loop-entry : goal.invariant-loop-entry
invariant-loop-entry l = l.entries.items ≡ entries_of (take l.entry-index l.given)
