-- Outputs that compare equal are equal.
use Rattle.std.proofs.Common.{◌≡◌, ℕ, ◌+◌, ◌<◌, true, false, List, [], ◌∷◌, ◌++◌, length, get_or, take, refl, sym, ap, subst, ◌∙◌}
use Rattle.std.proofs.lemmas.List.{take_more}
use Rattle.std.specs.Prelude.{◌&&◌, Bool, not, nat_eq, Decides}
use Rattle.std.specs.Cmp.Lexicographic.{pointwise, bytes_decides}
use Rattle.std.proofs.lemmas.Bool.Decides.{Decides-and, Decides-like}
use Rattle.mp_bundle.specs.Same.{same_entries}
use Rattle.mp_bundle.proofs.Same.{same_entries-Decides}
use Rattle.mp_tx.specs.declared.output.Output.{Output}

abbrev pub same_output : Output → Output → Bool
same_output a b = pointwise nat_eq a.address b.address && (pointwise nat_eq a.datum_hash b.datum_hash && same_entries a.value b.value)

pub same_output-Decides : (a b : Output) → Decides (same_output a b) (a ≡ b)
same_output-Decides a b =
    Decides-like (same_output a b) (λ h i. record { address = h.0 i; datum_hash = h.1.0 i; value = h.1.1 i })
    (λ e. (ap (λ (o : Output). o.address) e, (ap (λ (o : Output). o.datum_hash) e, ap (λ (o : Output). o.value) e)))
    (Decides-and (pointwise nat_eq a.address b.address) (pointwise nat_eq a.datum_hash b.datum_hash && same_entries a.value b.value) (bytes_decides a.address b.address)
    (Decides-and (pointwise nat_eq a.datum_hash b.datum_hash) (same_entries a.value b.value) (bytes_decides a.datum_hash b.datum_hash) (same_entries-Decides a.value b.value)))

not_so : (b : Bool) → not b ≡ false → b ≡ true
not_so true e = refl
not_so false e = absurd Prim.cc

pub one_more : (a b : List Output) (place : ℕ) (x y : Output) → place < length a → length a ≡ length b → x ≡ get_or a place x → y ≡ get_or b place y → take place a ≡ take place b → not (same_output x y) ≡ false
    → take (place + 1) a ≡ take (place + 1) b
one_more a b place x y lt long at_a at_b so_far same =
    let one : x ≡ y = (same_output-Decides x y).0 (not_so (same_output x y) same) in
    take_more a place x lt ∙ (λ i. so_far i ++ (sym at_a ∙ one ∙ at_b) i ∷ []) ∙ sym (take_more b place y (subst (λ n. place < n) long lt))
