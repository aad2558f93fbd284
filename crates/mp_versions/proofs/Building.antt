-- One more chunk or one more item while pages are built.
use Rattle.std.specs.Prelude.{Result, Ok, Err, IfOk}
use Rattle.std.proofs.Common.{◌≡◌, ℕ, ◌<◌, ◌≤◌, List, [], ◌∷◌, ◌++◌, length, sym, ap, ◌∙◌, subst, arith}
use Rattle.std.proofs.lemmas.List.{append-nil, append_assoc, length-map, map_push}
use Rattle.mp_tx.specs.Transaction.{Transaction}
use Rattle.mp_seqpool.specs.Item.{item_of, items_of}
use Rattle.mp_seqpool.specs.declared.item.Item.{Item}
use Rattle.std.proofs.lemmas.List.Elements.{All-nil}
use Rattle.std.specs.List.{All}
use Rattle.mp_versions.specs.Inside.Built.{IsBuilt}
use Rattle.mp_versions.specs.declared.layout.building.Built.{Built}
use Rattle.mp_versions.specs.Pages.{flattened, joined, IsFilled, IsPage, AreFilled}
use Rattle.mp_versions.proofs.Parts.{flattened-push}

pub chunk_closed : (all : List (ℕ × Transaction)) (ps : List (List (List (ℕ × Transaction)))) (cs ds : List (List (ℕ × Transaction))) (is js : List Item) (c : List (ℕ × Transaction))
    → joined ps ++ (flattened cs ++ items_of is) ≡ all → c ≡ items_of is → ds ≡ cs ++ c ∷ [] → js ≡ [] → joined ps ++ (flattened ds ++ items_of js) ≡ all
chunk_closed all ps cs ds is js c a e d j =
    ap (λ l. joined ps ++ l) (ap (λ l. flattened ds ++ items_of l) j ∙ append-nil (flattened ds) ∙ ap flattened d ∙ flattened-push cs c ∙ ap (λ l. flattened cs ++ l) e) ∙ a

pub chunk_filled : (is : List Item) (c : List (ℕ × Transaction)) → c ≡ items_of is → 0 < length is → length is ≤ 64 → IsFilled c
chunk_filled is c e l m =
    let k = length-map is item_of in
    subst IsFilled (sym e) (record { least = omega arith; most = omega arith })

pub item_put : (all : List (ℕ × Transaction)) (ps : List (List (List (ℕ × Transaction)))) (cs : List (List (ℕ × Transaction))) (is js : List Item) (i : Item)
    → joined ps ++ (flattened cs ++ items_of is) ≡ all → js ≡ is ++ i ∷ [] → joined ps ++ (flattened cs ++ items_of js) ≡ all ++ item_of i ∷ []
item_put all ps cs is js i a j =
    ap (λ l. joined ps ++ (flattened cs ++ l)) (ap items_of j ∙ map_push item_of is i)
    ∙ ap (λ l. joined ps ++ l) (sym (append_assoc (flattened cs) (items_of is) (item_of i ∷ [])))
    ∙ sym (append_assoc (joined ps) (flattened cs ++ items_of is) (item_of i ∷ []))
    ∙ ap (λ l. l ++ item_of i ∷ []) a

pub none_built : (b : Built) → b.pages.items ≡ [] → b.chunks.items ≡ [] → b.items.items ≡ [] → IsBuilt [] b
none_built b p c i =
    let chunks : length b.chunks.items ≡ 0 = ap length c in
    let items : length b.items.items ≡ 0 = ap length i in record {
      all = ap (λ l. joined l ++ (flattened b.chunks.items ++ items_of b.items.items)) p ∙ ap (λ l. flattened l ++ items_of b.items.items) c ∙ ap items_of i;
      filled = subst AreFilled (sym p) (All-nil IsPage);
      chunks_filled = subst (All IsFilled) (sym c) (All-nil IsFilled);
      few_chunks = omega arith;
      few_items = omega arith;
    }

-- what holds of a result holds in other words
pub in_other_words : {A E : Type 0} (P Q : A → Type 0) → ((a : A) → P a → Q a) → (r : Result A E) → IfOk r P → IfOk r Q
in_other_words P Q f (Ok a) h = f a h
in_other_words P Q f (Err e) h = tt
