use Rattle.std.proofs.Common.{◌≡◌, drop}
use Rattle.mp_bundle.specs.BundleFault.{fault_after, fault_of}
use Rattle.mp_names.proofs.bundles.is_faultless.Given as goal

-- the fault in what is left is that of the whole
abbrev pub invariant-loop-entry : goal.invariant-loop-entry
invariant-loop-entry l = fault_after l.before (drop l.entry-index l.entries) ≡ fault_of l.entries
