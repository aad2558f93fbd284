use Rattle.std.proofs.Common.{subst}
use Rattle.std.specs.Prelude.{IfSome}
use Rattle.mp_seqpool.specs.ValidatedTx.{ticketed}
use Rattle.mp_seqpool.specs.Keep.{transactions}
use Rattle.mp_seqpool.specs.Parted.{IsParted}
use Rattle.mp_seqpool.specs.Pool.{Holding}
use Rattle.mp_seqpool.proofs.pool.SeqPool.prepare_adoption.Goals as goal

pub returns-in_ok-adopt_step-in-Some : goal.returns-in_ok-adopt_step-in-Some
returns-in_ok-adopt_step-in-Some c =
    let inside = c.self.inside in
    let ledger = c.args.ledger.now in
    let parted = c.in-Some.parted in
    let done = c.in_ok-adopt_step-in-Some.ensures in
    let told = subst (λ o. IfSome o (IsParted inside.overlay.ledger inside.overlay.applied ledger (ticketed inside.items))) c.in-Some.is c.in_ok-parted.ensures in
    record {
      parted = parted;
      are = subst (λ (h : Holding). IsParted h.pool.ledger (transactions h.pool.items) ledger h.pool.items parted) c.self.view_is
          (subst (λ ts. IsParted inside.overlay.ledger ts ledger (ticketed inside.items) parted) c.self.invariant.applied told);
      command = done.command;
      reply = done.reply;
      effect = done.effect;
    }
