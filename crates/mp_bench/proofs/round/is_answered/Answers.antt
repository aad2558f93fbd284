use Rattle.mp_bench.proofs.Signed.{each_signed}
use Rattle.mp_bench.proofs.round.is_answered.Goals as goal

pub execute-requires : goal.execute-requires
execute-requires c = each_signed _
