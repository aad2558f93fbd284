use Rattle.mp_mempool.proofs.Succeeding.{all_new}
use Rattle.mp_mempool.proofs.opening.open_parts.Goals as goal

pub open_upon-requires-clause-fresh : goal.open_upon-requires-clause-fresh
open_upon-requires-clause-fresh g c = all_new c.args.callers c.in_ok-opened.opened.2.items c.in_ok-opened.ensures.callers
