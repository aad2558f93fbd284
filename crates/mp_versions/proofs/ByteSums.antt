-- The bytes of items, with one more and without the first.
use Rattle.std.proofs.Common.{◌≡◌, ℕ, ◌+◌, List, [], ◌∷◌, ◌++◌, ap, ◌∙◌, arith}
use Rattle.std.specs.Prelude.{sum_by}
use Rattle.std.proofs.lemmas.List.{map-append}
use Rattle.std.proofs.lemmas.Grind.{common_steps}
use Rattle.mp_tx.specs.Transaction.{Transaction}
use Rattle.mp_tx.specs.Spelling.{size_of}
use Rattle.mp_seqpool.specs.Keep.{transactions}

sum_end : (ts : List Transaction) (t : Transaction) → sum_by size_of (ts ++ t ∷ []) ≡ sum_by size_of ts + size_of t
sum_end ts t = Prim.grind (arith, common_steps)

pub sum-last : (items : List (ℕ × Transaction)) (i : ℕ × Transaction) → sum_by size_of (transactions (items ++ i ∷ [])) ≡ sum_by size_of (transactions items) + size_of i.1
sum-last items i = ap (sum_by size_of) (map-append (λ (i : ℕ × Transaction). i.1) items (i ∷ [])) ∙ sum_end (transactions items) i.1

pub sum_first : (t : Transaction) (ts : List Transaction) → sum_by size_of (t ∷ ts) ≡ size_of t + sum_by size_of ts
sum_first t ts = Prim.grind (arith, common_steps)
