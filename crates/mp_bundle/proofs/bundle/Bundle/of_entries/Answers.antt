use Rattle.std.proofs.Common.{sym, ap, ◌∙◌}
use Rattle.mp_bundle.specs.BundleFault.{entries_of, fault_of}
use Rattle.mp_bundle.proofs.Faults.{short_names}
use Rattle.mp_bundle.proofs.bundle.Bundle.of_entries.Goals as goal

pub to_entries-requires : goal.to_entries-requires
to_entries-requires c = short_names c.deref-2.result.now (ap (λ xs. fault_of (entries_of xs)) (c.deref-2.ensures.value ∙ sym c.deref.ensures.value) ∙ sym c.first_fault.ensures ∙ c.in_default.is)
