use Rattle.std.proofs.Common.{refl}
use Rattle.mp_mempool.proofs.Entries.{foreign_told}
use Rattle.mp_mempool.proofs.under_lock.require_known.Goals as goal

pub returns-else-is_known_to-clause-foreign : goal.returns-else-is_known_to-clause-foreign
returns-else-is_known_to-clause-foreign g c command =
    (foreign_told c.args.pass.now c.is_known_to.new.self.log c.front.result c.is_known_to.ensures.own c.is_known_to.ensures.begins (c.is_known_to.ensures.foreign c.if-is_known_to.false) c.front.ensures.front, refl)
