use Rattle.std.proofs.Common.{List, ℕ, ap, ◌∙◌}
use Rattle.std.specs.Prelude.{nat_eq}
use Rattle.std.specs.Cmp.Lexicographic.{pointwise}
use Rattle.mp_script.proofs.DatumRefLaws.{same_bytes}
use Rattle.mp_script.proofs.evaluation.logic.same.Goals as goal

pub returns : goal.returns
returns c =
    c.eq.ensures
    ∙ ap (λ (t : List ℕ). pointwise nat_eq t c.bytes-2.result.now) c.bytes.ensures.same
    ∙ ap (pointwise nat_eq c.args.a.now) c.bytes-2.ensures.same
    ∙ same_bytes c.args.a.now c.args.b.now c.bytes.ensures.datum c.bytes-2.ensures.datum
