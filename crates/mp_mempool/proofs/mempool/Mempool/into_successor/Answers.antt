use Rattle.std.proofs.Common.{List, subst, ◌∙◌}
use Rattle.mp_mempool.specs.Pass.{Pass}
use Rattle.mp_mempool.specs.Successor.{HandsOver, IsRefusedSuccessor}
use Rattle.mp_mempool.proofs.mempool.Mempool.into_successor.Goals as goal

pub returns-in-Ok-clause-successor : goal.returns-in-Ok-clause-successor
returns-in-Ok-clause-successor g c = record {
  log = c.into_inner-locked.result.log;
  over = subst (λ (ps : List Pass). HandsOver g.N.PoolName.accepts g.N.PoolName.callers ps c.into_inner-locked.result.log) c.deref-2.ensures.value c.in-Ok.ensures.over;
  opens = c.inherit.ensures ∙ c.in-Ok.ensures.passes;
}

pub returns-in-Err-clause-refused : goal.returns-in-Err-clause-refused
returns-in-Err-clause-refused g c =
    subst (λ (ps : List Pass). IsRefusedSuccessor g.N.PoolName.accepts g.N.PoolName.callers ps c.args.limit c.args.callers c.in-Err.refusal) c.deref-2.ensures.value c.in-Err.ensures.refused
