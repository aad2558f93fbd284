use Rattle.std.proofs.Common.{sym, ap, subst, map, arith, ◌∙◌}
use Rattle.std.specs.Arc.{arc_value}
use Rattle.std.proofs.lemmas.List.{drop_all}
use Rattle.mp_tx.specs.Undo.{DifferAt}
use Rattle.mp_rules.specs.Block.{apply_from}
use Rattle.mp_rules.proofs.Blocks.{begins}
use Rattle.mp_rules.proofs.BlockTouches.{differ}
use Rattle.mp_rules.proofs.block.apply_block.Goals as goal

pub loop-place-init : goal.loop-place-init
loop-place-init g c =
    begins (g.V.Verifier.accepts c.args.verifier.now) c.args.ledger.now c.in_ok-now.now c.args.tick c.args.block_bytes (map arc_value c.args.txs.now) c.in_ok-now.ensures.ok

pub between-requires : goal.between-requires
between-requires g c =
    let accepts = g.V.Verifier.accepts c.args.verifier.now in
    let now = c.loop-place.now in
    let none = drop_all c.loop-place.place c.args.txs.now (omega arith) in
    let is = sym c.loop-place.invariant ∙ ap (λ ts. apply_from accepts c.loop-place.place now (map arc_value ts)) none in
    subst (λ rs. DifferAt rs c.args.ledger.now now) (sym (c.deref-2.ensures.value ∙ c.in_ok-touched.ensures))
    (differ accepts c.args.ledger.now c.args.tick c.args.block_bytes (map arc_value c.args.txs.now) now is)
