-- What a version stores about its items, when items come and go.
use Rattle.std.proofs.Common.{◌≡◌, ℕ, ◌+◌, ◌<◌, ◌≤◌, ◌^◌, List, [], ◌∷◌, ◌++◌, length, sym, ap, subst, ◌∙◌, arith}
use Rattle.std.specs.Prelude.{All}
use Rattle.std.specs.List.{AllByRecursion}
use Rattle.std.proofs.lemmas.List.{length_push}
use Rattle.std.proofs.lemmas.List.Elements.{All-nil, All-cons, All-head, All-tail}
use Rattle.mp_tx.specs.Transaction.{Transaction}
use Rattle.mp_tx.specs.Spelling.{size_of}
use Rattle.mp_tickets.specs.Tickets.{IsRising}
use Rattle.mp_tickets.proofs.Rising.{rising_push}
use Rattle.mp_seqpool.specs.Keep.{tickets, bytes_of}
use Rattle.mp_versions.proofs.ByteSums.{sum-last}
use Rattle.mp_versions.specs.declared.version.Version.TheInside.{Inside}
use Rattle.mp_versions.specs.Layout.{items_in, IsLaid}
use Rattle.mp_versions.specs.Inside.Version.{IsCounted}

below : (last : ℕ) (items : List (ℕ × Transaction)) → All (λ k. k ≤ last) (tickets items) → AllByRecursion (λ i. i.0 < last + 1) items
below last [] a = tt
below last (i ∷ is) a = let h = All-head (λ k. k ≤ last) i.0 (tickets is) a in (omega (arith, h), below last is (All-tail (λ k. k ≤ last) i.0 (tickets is) a))

given_push : (last : ℕ) (items : List (ℕ × Transaction)) (t : Transaction) → All (λ k. k ≤ last) (tickets items) → All (λ k. k ≤ last + 1) (tickets (items ++ (last + 1, t) ∷ []))
given_push last [] t a = All-cons (λ k. k ≤ last + 1) (last + 1) [] (omega arith) (All-nil (λ k. k ≤ last + 1))
given_push last (i ∷ is) t a =
    let h = All-head (λ k. k ≤ last) i.0 (tickets is) a in
    All-cons (λ k. k ≤ last + 1) i.0 (tickets (is ++ (last + 1, t) ∷ [])) (omega (arith, h)) (given_push last is t (All-tail (λ k. k ≤ last) i.0 (tickets is) a))

-- all that is stored is right for these items
pub counted : (v : Inside) (items : List (ℕ × Transaction)) → items_in v.layout ≡ items → IsLaid v.layout → IsRising items → All (λ k. k ≤ v.last) (tickets items) → v.count ≡ length items → v.bytes ≡ bytes_of items → v.bytes ≤ 2 ^ 40
    → v.changes ≤ v.config.limit → IsCounted v
counted v items all laid rising given count bytes most changes = record {
  laid = laid;
  rising = subst IsRising (sym all) rising;
  given = subst (λ is. All (λ k. k ≤ v.last) (tickets is)) (sym all) given;
  count = count ∙ ap length (sym all);
  bytes = bytes ∙ ap bytes_of (sym all);
  most = most;
  changes = changes;
}

-- and for these items and one more, under the next ticket
pub counted_more : (v w : Inside) (t : Transaction) (size : ℕ) → IsCounted v → items_in w.layout ≡ items_in v.layout ++ (v.last + 1, t) ∷ [] → IsLaid w.layout → w.last ≡ v.last + 1 → w.count ≡ v.count + 1
    → size ≡ size_of t → w.bytes ≡ v.bytes + size → bytes_of (items_in v.layout) + size_of t ≤ 2 ^ 40 → w.changes ≤ w.config.limit → IsCounted w
counted_more v w t size is all laid last count sized bytes most changes =
    let items : List (ℕ × Transaction) = items_in v.layout in
    let e : ℕ × Transaction = (v.last + 1, t) in
    let sum : w.bytes ≡ bytes_of items + size_of t = bytes ∙ ap (λ n. v.bytes + n) sized ∙ ap (λ n. n + size_of t) is.bytes in
    counted w (items ++ e ∷ []) all laid (rising_push 0 items e is.rising (below v.last items is.given) (omega arith)) (subst (λ n. All (λ k. k ≤ n) (tickets (items ++ e ∷ []))) (sym last) (given_push v.last items t is.given))
    (count ∙ ap (λ n. n + 1) is.count ∙ sym (length_push items e)) (sum ∙ sym (sum-last items e)) (subst (λ n. n ≤ 2 ^ 40) (sym sum) most) changes
