use Rattle.std.proofs.Common.{pos, ◌∷◌, ap, ◌∙◌}
use Rattle.mp_bundle.specs.Token.{coin}
use Rattle.mp_bundle.specs.Inside.Totals.{nonzero_of}
use Rattle.mp_bundle.proofs.SumLemmas.{none_nonzero}
use Rattle.mp_bundle.proofs.sum.Sum.new.Goals as goal

pub returns : goal.returns
returns c = ap (λ es. record { added = 0; nonzero = nonzero_of ((coin, pos 0) ∷ es) }) c.new.ensures.empty ∙ ap (λ z. record { added = 0; nonzero = z }) none_nonzero
