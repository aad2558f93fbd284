use Rattle.std.proofs.Common.{◌<◌, ap, sym, subst, ◌∙◌}
use Rattle.mp_mempool.proofs.Entering.{is_at_next}
use Rattle.mp_mempool.proofs.write.locked.Locked.commit.Goals as goal

pub invariant_of-self : goal.invariant_of-self
invariant_of-self g c = (
  is_at_next g.N.PoolName.accepts g.N.PoolName.callers c.args.self.now c.self.inside.right c.self.inside.pool.pool c.self.inside.newest c.self.inside.places.items
      c.args.ready.outcome.entry c.args.ready.prepared c.caller-number.result c.next_place-place.result c.commit.new.right c.of.result c.take_step.new.pool.pool
      (ap (λ l. l.log) c.self.view_is) c.self.invariant.0 c.requires.prepares c.requires.tells.asked c.requires.tells.reply
      (subst (λ k. k < g.N.PoolName.callers) (sym c.requires.tells.caller) c.caller-number.ensures.known) (c.caller-number.ensures.number ∙ sym c.requires.tells.caller)
      c.next_place-place.ensures.place c.commit.ensures.right c.take_step.ensures (c.of.ensures ∙ c.front.ensures),
  c.of-2.ensures ∙ c.front-2.ensures,
)
