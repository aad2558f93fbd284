use Rattle.mp_seqpool.proofs.Histories.{signed}
use Rattle.mp_signatures.specs.Scheme.{accepted_by}
use Rattle.mp_session.proofs.pool.ScenarioPool.respond.Goals as goal

pub kept_line-requires : goal.kept_line-requires
kept_line-requires c = signed (accepted_by c.self.inside.signatures) c.self.inside.pool.pool c.self.invariant
