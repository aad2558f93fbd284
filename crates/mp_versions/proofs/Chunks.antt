-- The chunks of pages.
use Rattle.std.proofs.Common.{◌≡◌, ℕ, suc, ◌+◌, ◌≤◌, List, [], ◌∷◌, ◌++◌, length, drop, refl, ap, ◌∙◌, arith}
use Rattle.std.specs.List.{All}
use Rattle.std.proofs.lemmas.List.Elements.{All-nil, All-cons, All-append, All-head, All-tail, All-weaker}
use Rattle.mp_tx.specs.Transaction.{Transaction}
use Rattle.std.proofs.lemmas.List.{append_assoc, append-nil}
use Rattle.mp_versions.specs.Layout.{items_in, chunks_in, filled_chunks, IsLaid}
use Rattle.mp_versions.specs.declared.layout.Layout.{Layout}
use Rattle.mp_versions.proofs.Parts.{flattened-append}
use Rattle.mp_versions.specs.Pages.{flattened, chunks_of, IsFilled, IsPage, AreFilled}

-- each of them is filled
pub all_chunks : (pages : List (List (List (ℕ × Transaction)))) → AreFilled pages → All IsFilled (chunks_of pages)
all_chunks [] a = All-nil IsFilled
all_chunks (p ∷ ps) a = All-append IsFilled p (chunks_of ps) (All-head IsPage p ps a).chunks (all_chunks ps (All-tail IsPage p ps a))

open_filled : (c : List (ℕ × Transaction)) → length c ≤ 64 → All IsFilled (filled_chunks c)
open_filled [] h = All-nil IsFilled
open_filled (i ∷ is) h =
    let more : length (i ∷ is) ≡ suc (length is) = refl in
    All-cons IsFilled (i ∷ is) [] (record { least = omega arith; most = h }) (All-nil IsFilled)

pub all_in : (l : Layout) → IsLaid l → All IsFilled (chunks_in l)
all_in l is = All-append IsFilled (chunks_of l.pages) (filled_chunks l.newest) (all_chunks l.pages is.filled) (open_filled l.newest is.few)

open_joined : (c : List (ℕ × Transaction)) → flattened (filled_chunks c) ≡ c
open_joined [] = refl
open_joined (i ∷ is) = append-nil (i ∷ is)

-- their concatenation is all items
pub joined_in : (l : Layout) → flattened (chunks_in l) ≡ items_in l
joined_in l = flattened-append (chunks_of l.pages) (filled_chunks l.newest) ∙ ap (λ is. flattened (chunks_of l.pages) ++ is) (open_joined l.newest)

-- the chunks from a page on begin with those of that page
pub chunks_first : (ps : List (List (List (ℕ × Transaction)))) (p newest : List (List (ℕ × Transaction))) (i : ℕ) → drop i ps ≡ p ∷ drop (i + 1) ps
    → chunks_of (drop i ps) ++ newest ≡ p ++ (chunks_of (drop (i + 1) ps) ++ newest)
chunks_first ps p newest i e = ap (λ qs. chunks_of qs ++ newest) e ∙ append_assoc p (chunks_of (drop (i + 1) ps)) newest

pub all_least : (chunks : List (List (ℕ × Transaction))) → All IsFilled chunks → All (λ c. 1 ≤ length c) chunks
all_least chunks a = All-weaker IsFilled (λ c. 1 ≤ length c) (λ c f. let some = f.least in omega (arith, some)) chunks a

pub all_most : (chunks : List (List (ℕ × Transaction))) → All IsFilled chunks → All (λ c. length c ≤ 64) chunks
all_most chunks a = All-weaker IsFilled (λ c. length c ≤ 64) (λ c f. f.most) chunks a
