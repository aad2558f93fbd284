-- Chunks and pages, with one more that is searched.
use Rattle.std.proofs.Common.{◌≡◌, ℕ, suc, ◌+◌, ◌<◌, ◌≤◌, Bool, true, false, cond, List, [], ◌∷◌, ◌++◌, length, take, drop, get_or, Option, Some, None, refl, sym, ap, ◌∙◌, subst, arith}
use Rattle.std.specs.Prelude.{not, option_to_list}
use Rattle.std.specs.List.{All}
use Rattle.std.proofs.lemmas.List.{length_push, take_more, drop_more, append-nil}
use Rattle.std.proofs.lemmas.List.Elements.{All-push, All-get_or}
use Rattle.mp_tx.specs.Transaction.{Transaction}
use Rattle.mp_tickets.specs.Tickets.{has_ticket}
use Rattle.mp_seqpool.specs.Prepared.{apart}
use Rattle.mp_versions.specs.Layout.{filled_chunks}
use Rattle.mp_versions.specs.Inside.Left.{IsLeftPage}
use Rattle.mp_versions.specs.Pages.{flattened, joined, IsFilled, IsPage, AreFilled}
use Rattle.mp_versions.proofs.Parts.{flattened-push, joined-push}
use Rattle.mp_versions.proofs.Blocks.{apart-append}

-- the element at the index, and those after it
pub here_at : {X : Type 0} (xs : List X) (i : ℕ) (x : X) → i < length xs → x ≡ get_or xs i x → drop i xs ≡ x ∷ drop (i + 1) xs
here_at xs i x l e = drop_more xs i x l ∙ ap (λ y. y ∷ drop (i + 1) xs) (sym e)

-- those up to the element at the index
pub up_to : {X : Type 0} (xs : List X) (i : ℕ) (x : X) → i < length xs → x ≡ get_or xs i x → take (i + 1) xs ≡ take i xs ++ x ∷ []
up_to xs i x l e = take_more xs i x l ∙ ap (λ y. take i xs ++ y ∷ []) (sym e)

kept_step : (c : Bool) (n : ℕ) (x : ℕ × Transaction) (is : List (ℕ × Transaction)) → length is ≤ n → length (cond c (x ∷ is) is) ≤ suc n
kept_step true n x is h = let more : length (x ∷ is) ≡ suc (length is) = refl in omega arith
kept_step false n x is h = omega arith

pub fewer : (ts : List ℕ) (is : List (ℕ × Transaction)) → length (apart ts is) ≤ length is
fewer ts [] = omega arith
fewer ts (i ∷ is) = kept_step (not (has_ticket ts i.0)) (length is) i (apart ts is) (fewer ts is)

-- what is kept of the chunks and of one more of them
pub record KeepsChunks (ts : List ℕ) (kept : List (List (ℕ × Transaction))) (chunks : List (List (ℕ × Transaction))) (n : ℕ) : Type 0 where
  pub all : flattened kept ≡ apart ts (flattened chunks)
  pub filled : All IsFilled kept
  pub few : length kept ≤ n

chunk_kept : (ts : List ℕ) (ks cs : List (List (ℕ × Transaction))) (n : ℕ) (c left : List (ℕ × Transaction))
    → KeepsChunks ts ks cs n → left ≡ apart ts c → length c ≤ 64 → KeepsChunks ts (ks ++ filled_chunks left) (cs ++ c ∷ []) (n + 1)
chunk_kept ts ks cs n c [] k l h = record {
  all = ap flattened (append-nil ks) ∙ k.all ∙ sym (append-nil (apart ts (flattened cs))) ∙ ap (λ is. apart ts (flattened cs) ++ is) l ∙ sym (ap (apart ts) (flattened-push cs c) ∙ apart-append ts (flattened cs) c);
  filled = subst (All IsFilled) (sym (append-nil ks)) k.filled;
  few = let e = ap length (append-nil ks) in let f = k.few in omega arith;
}
chunk_kept ts ks cs n c (i ∷ is) k l h = record {
  all = flattened-push ks (i ∷ is) ∙ ap (λ is'. is' ++ (i ∷ is)) k.all ∙ ap (λ is'. apart ts (flattened cs) ++ is') l ∙ sym (ap (apart ts) (flattened-push cs c) ∙ apart-append ts (flattened cs) c);
  filled =
      let more : length (i ∷ is) ≡ suc (length is) = refl in
      let same : length (i ∷ is) ≡ length (apart ts c) = ap length l in
      let no_more = fewer ts c in
      All-push IsFilled ks (i ∷ is) k.filled (record { least = omega arith; most = omega (arith, same, no_more, h) });
  few = let e = length_push ks (i ∷ is) in let f = k.few in omega arith;
}

pub chunks_kept : (ts : List ℕ) (ks news cs : List (List (ℕ × Transaction))) (i : ℕ) (c left : List (ℕ × Transaction))
    → KeepsChunks ts ks (take i cs) i → left ≡ apart ts c → All IsFilled cs → news ≡ ks ++ filled_chunks left → i < length cs → c ≡ get_or cs i c → KeepsChunks ts news (take (i + 1) cs) (i + 1)
chunks_kept ts ks news cs i c left k l f n h e =
    let is = subst IsFilled (sym e) (All-get_or IsFilled cs i c h f) in
    subst (λ ns. KeepsChunks ts ns (take (i + 1) cs) (i + 1)) (sym n)
    (subst (λ ds. KeepsChunks ts (ks ++ filled_chunks left) ds (i + 1)) (sym (up_to cs i c h e)) (chunk_kept ts ks (take i cs) i c left k l is.most))

page_kept : (ts : List ℕ) (ks ps : List (List (List (ℕ × Transaction)))) (p : List (List (ℕ × Transaction))) (left : Option (List (List (ℕ × Transaction))))
    → (joined ks ≡ apart ts (joined ps)) × AreFilled ks → IsLeftPage (apart ts (flattened p)) left
    → (joined (ks ++ option_to_list left) ≡ apart ts (joined (ps ++ p ∷ []))) × AreFilled (ks ++ option_to_list left)
page_kept ts ks ps p None k l = (
  ap joined (append-nil ks) ∙ k.0 ∙ sym (append-nil (apart ts (joined ps))) ∙ ap (λ is. apart ts (joined ps) ++ is) (sym l) ∙ sym (ap (apart ts) (joined-push ps p) ∙ apart-append ts (joined ps) (flattened p)),
  subst AreFilled (sym (append-nil ks)) k.1,
)
page_kept ts ks ps p (Some left) k l = (
  joined-push ks left ∙ ap (λ is. is ++ flattened left) k.0 ∙ ap (λ is. apart ts (joined ps) ++ is) l.0 ∙ sym (ap (apart ts) (joined-push ps p) ∙ apart-append ts (joined ps) (flattened p)),
  All-push IsPage ks left k.1 l.1,
)

pub pages_kept : (ts : List ℕ) (ks news ps : List (List (List (ℕ × Transaction)))) (i : ℕ) (p : List (List (ℕ × Transaction))) (left : Option (List (List (ℕ × Transaction))))
    → (joined ks ≡ apart ts (joined (take i ps))) × AreFilled ks → IsLeftPage (apart ts (flattened p)) left → news ≡ ks ++ option_to_list left → i < length ps → p ≡ get_or ps i p
    → (joined news ≡ apart ts (joined (take (i + 1) ps))) × AreFilled news
pages_kept ts ks news ps i p left k l n h e =
    subst (λ ns. (joined ns ≡ apart ts (joined (take (i + 1) ps))) × AreFilled ns) (sym n)
    (subst (λ qs. (joined (ks ++ option_to_list left) ≡ apart ts (joined qs)) × AreFilled (ks ++ option_to_list left)) (sym (up_to ps i p h e)) (page_kept ts ks (take i ps) p left k l))
