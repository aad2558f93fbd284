-- The keys of ids.
use Rattle.std.proofs.Common.{◌≡◌, ℕ, Bool, true, false, nat_eq, List, refl, sym, ◌∙◌}
use Rattle.std.specs.Prelude.{◌&&◌}
use Rattle.std.specs.Cmp.{eq_by_cmp_equiv}
use Rattle.std.specs.Cmp.Lexicographic.{pointwise, texts_ties, nat_list_cmp_total}
use Rattle.mp_tx.specs.Reference.{same_ref}
use Rattle.mp_utxo.specs.ById.{key_of}

and_true : (b : Bool) → (b && true) ≡ b
and_true true = refl
and_true false = refl

same-back : (a b : List ℕ) → pointwise nat_eq a b ≡ pointwise nat_eq b a
same-back a b = texts_ties a b ∙ (eq_by_cmp_equiv nat_list_cmp_total).symm a b ∙ sym (texts_ties b a)

-- keys are equal if the ids are
pub same-key : (a b : List ℕ) → same_ref (key_of a) (key_of b) ≡ pointwise nat_eq b a
same-key a b = and_true (pointwise nat_eq a b) ∙ same-back a b
