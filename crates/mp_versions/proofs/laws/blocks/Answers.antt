use Rattle.mp_versions.proofs.Beginnings.{valid_blocks}
use Rattle.mp_versions.proofs.laws.blocks.Goals as goal

pub returns : goal.returns
returns c = valid_blocks
