use Rattle.std.proofs.Common.{◌≡◌, drop}
use Rattle.std.specs.Option.{option_map}
use Rattle.mp_bundle.specs.BundleFault.{token_of, entries_of, fault_after, fault_of}
use Rattle.mp_bundle.proofs.entry.first_fault.Given as goal

-- the fault of the remaining entries is the fault of all
abbrev pub invariant-loop-entry : goal.invariant-loop-entry
invariant-loop-entry l = fault_after (option_map (λ b. token_of b.now) l.before) (entries_of (drop l.entry-index l.given)) ≡ fault_of (entries_of l.given)
