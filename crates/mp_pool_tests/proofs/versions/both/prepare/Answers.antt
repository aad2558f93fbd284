use Rattle.mp_testing.proofs.Signed.{signed}
use Rattle.mp_pool_tests.proofs.versions.both.prepare.Goals as goal

pub prepare_remove-requires : goal.prepare_remove-requires
prepare_remove-requires c = signed c.args.pool.now.pool

pub prepare_sync-requires : goal.prepare_sync-requires
prepare_sync-requires c = signed c.args.pool.now.pool
