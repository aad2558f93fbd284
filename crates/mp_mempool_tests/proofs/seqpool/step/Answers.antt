use Rattle.mp_testing.proofs.Signed.{signed}
use Rattle.mp_mempool_tests.proofs.seqpool.step.Goals as goal

pub step-requires : goal.step-requires
step-requires c = signed c.args.pool.now.pool
