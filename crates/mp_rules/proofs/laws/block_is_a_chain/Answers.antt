use Rattle.mp_rules.proofs.Blocks.{block_is_a_chain}
use Rattle.mp_rules.proofs.laws.block_is_a_chain.Goals as goal

pub returns : goal.returns
returns c = block_is_a_chain
