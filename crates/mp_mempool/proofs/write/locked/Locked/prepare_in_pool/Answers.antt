use Rattle.std.proofs.Common.{refl, sym, subst}
use Rattle.std.specs.Prelude.{IfSome}
use Rattle.std.specs.Arc.{arc_value}
use Rattle.mp_rules.specs.Checked.{IsChecked}
use Rattle.mp_rules.specs.Verifier.{Accepts}
use Rattle.mp_seqpool.specs.Pool.{Pool}
use Rattle.mp_seqpool.specs.Command.{Submit}
use Rattle.mp_mempool.specs.Locked.{Locked}
use Rattle.mp_mempool.specs.Inside.Locked.{IsAt}
use Rattle.mp_mempool.proofs.Preparing.{held, prepares_held, refused_held}
use Rattle.mp_mempool.proofs.write.locked.Locked.prepare_in_pool.Goals as goal

pub prepare_submit-requires : goal.prepare_submit-requires
prepare_submit-requires g c =
    subst (λ (a : Accepts). IfSome c.args.checked (λ k. IsChecked a (arc_value c.args.tx.now) k.now)) (sym c.requires.verifier) c.requires.checked

pub invariant_of-self : goal.invariant_of-self
invariant_of-self g c = (
  subst (λ (p : Pool). IsAt g.N.PoolName.accepts g.N.PoolName.callers c.self.inside.right p c.self.inside.newest c.self.inside.places.items) (sym c.prepare_submit.ensures.same) c.self.invariant.0,
  c.self.invariant.1,
)

pub returns-clause-ready : goal.returns-clause-ready
returns-clause-ready g c =
    let l : Locked = record {
      log = c.self.inside.right;
      room = c.prepare_submit.new.self.room;
      waiting = c.self.inside.waiting;
      published = c.self.inside.publisher;
    } in
    prepares_held g.N.PoolName.accepts (g.V.Verifier.accepts c.args.verifier.now) c.prepare_submit.new.self l (Submit (arc_value c.args.tx.now)) c.prepare_submit.result c.requires.verifier
    (held g.N.PoolName.accepts g.N.PoolName.callers c.self.inside.right c.prepare_submit.new.self c.self.inside.newest c.self.inside.places.items c.self.inside.waiting c.self.inside.publisher l
    (subst (λ (p : Pool). IsAt g.N.PoolName.accepts g.N.PoolName.callers c.self.inside.right p c.self.inside.newest c.self.inside.places.items) (sym c.prepare_submit.ensures.same) c.self.invariant.0) refl) c.prepare_submit.ensures.ready

pub returns-clause-refused : goal.returns-clause-refused
returns-clause-refused g c =
    refused_held g.N.PoolName.accepts (g.V.Verifier.accepts c.args.verifier.now) c.self.inside.pool c.args.self.now (Submit (arc_value c.args.tx.now)) c.prepare_submit.result c.requires.verifier
    (held g.N.PoolName.accepts g.N.PoolName.callers c.self.inside.right c.self.inside.pool c.self.inside.newest c.self.inside.places.items c.self.inside.waiting c.self.inside.publisher c.args.self.now c.self.invariant.0 c.self.view_is)
    c.prepare_submit.ensures.refused
