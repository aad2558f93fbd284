use Rattle.std.specs.Prelude.{None}
use Rattle.mp_tx.proofs.Entries.{no_faults}
use Rattle.mp_tx.proofs.decoding.bundle.read_bundle.Goals as goal

pub of_faultless-requires : goal.of_faultless-requires
of_faultless-requires c = no_faults c.in-Some.count None c.in-Some.rest.now _ c.in_ok-rest.ensures
