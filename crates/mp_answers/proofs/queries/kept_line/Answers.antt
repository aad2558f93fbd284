use Rattle.std.proofs.Common.{◌≡◌, ap, subst, ◌∙◌}
use Rattle.std.specs.Prelude.{IfOk}
use Rattle.std.specs.FinMap.{get}
use Rattle.mp_seqpool.specs.Prepared.{apart}
use Rattle.mp_seqpool.proofs.Apart.{apart_dropped}
use Rattle.mp_answers.specs.QueryText.{for_text}
use Rattle.mp_answers.proofs.queries.kept_line.Goals as goal

pub returns : goal.returns
returns g c =
    let accepts = g.V.Verifier.accepts c.args.verifier.now in
    let l = c.args.ledger.now in
    let items = c.args.pool.now.pool.items in
    let gone = c.in_ok-dropped.dropped in
    subst (λ kept. IfOk c.others_line.result (λ text. text.items ≡ for_text c.args.names.now kept))
    (ap (apart gone) c.contents.ensures.all ∙ ap (λ ts. apart ts items) c.in_ok-dropped.ensures
    ∙ apart_dropped accepts (get l.utxo) l.tick 0 items c.contents.ensures.rising)
    c.others_line.ensures
