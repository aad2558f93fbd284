-- Ids of the transactions of a pool.
use Rattle.std.proofs.Common.{◌≡◌, ◌≢◌, ℕ, zero, suc, ◌<◌, Bool, true, false, cond, List, [], ◌∷◌, length, get_or, refl, sym, ap, ◌∙◌, ⊎_elim, arith}
use Rattle.std.specs.Prelude.{Option, None, Some, IfSome, IfNone, AllPairs, map, nat_eq}
use Rattle.std.specs.List.{AllByRecursion}
use Rattle.std.specs.Cmp.Lexicographic.{pointwise, bytes_decides}
use Rattle.std.proofs.lemmas.List.Elements.{recursion_from_All}
use Rattle.mp_tx.specs.Transaction.{Transaction}
use Rattle.mp_tx.specs.Spelling.{id_of}
use Rattle.mp_utxo.specs.Overlay.{IsUnder, HasNone}
use Rattle.mp_utxo.proofs.Items.{in-txs}
use Rattle.mp_utxo.proofs.Makers.{Apart, apart-ids, other_bytes}
use Rattle.mp_utxo.proofs.Places.{In, in-contains, all-at}
use Rattle.mp_seqpool.specs.Keep.{transactions}
use Rattle.mp_seqpool.specs.SlowPool.{ticket_of}

missed : {A : Type 0} (b : Bool) (x : A) (o : Option A) → cond b (Some x) o ≡ None → (b ≡ false) × (o ≡ None)
missed true x o e = Prim.cc
missed false x o e = (refl, e)

-- an id that no item has isn't among the ids
pub absent : (id : List ℕ) (items : List (ℕ × Transaction)) → ticket_of id items ≡ None → (k : ℕ) (d : List ℕ) → k < length (map id_of (transactions items)) → get_or (map id_of (transactions items)) k d ≢ id
absent id [] e k d lt = absurd (omega arith)
absent id (i ∷ is) e zero d lt = λ same. let h = missed (pointwise nat_eq id (id_of i.1)) i.0 _ e in let k = (bytes_decides id (id_of i.1)).1 (sym same) in let f = h.0 in Prim.cc
absent id (i ∷ is) e (suc k) d lt = absent id is (missed (pointwise nat_eq id (id_of i.1)) i.0 _ e).1 k d (omega arith)

-- ---- what is found for an id

under_at : (id : List ℕ) (items : List (ℕ × Transaction)) (n : ℕ) (t : Transaction) → Apart (transactions items) → In items (n, t) → id_of t ≡ id → ticket_of id items ≡ Some n
under_at id [] n t apart there has = absurd there
under_at id (i ∷ is) n t apart there has = ⊎_elim
    (λ (same : i ≡ (n, t)). ap (λ (b : Bool). cond b (Some i.0) (ticket_of id is)) ((bytes_decides id (id_of i.1)).1 (sym has ∙ sym (ap (λ (j : ℕ × Transaction). id_of j.1) same))) ∙ ap (λ (j : ℕ × Transaction). Some j.0) same)
    (λ (later : In is (n, t)).
    let other = all-at (λ (y : Transaction). id_of i.1 ≢ id_of y) (transactions is) t apart.0 (in-txs is n t later) in
    ap (λ (b : Bool). cond b (Some i.0) (ticket_of id is)) (other_bytes id (id_of i.1) (λ e. other (sym e ∙ sym has))) ∙ under_at id is n t apart.1 later has)
    there

none_at : (id : List ℕ) (items : List (ℕ × Transaction)) → AllByRecursion (λ i. id_of i.1 ≢ id) items → ticket_of id items ≡ None
none_at id [] a = refl
none_at id (i ∷ is) a = let other = a.0 in ap (λ (b : Bool). cond b (Some i.0) (ticket_of id is)) (other_bytes id (id_of i.1) (λ e. other (sym e))) ∙ none_at id is a.1

-- it is the ticket of the id, if no id occurs twice
pub found_is : (id : List ℕ) (items : List (ℕ × Transaction)) (found : Option ℕ) → AllPairs (λ a b. a ≢ b) (map id_of (transactions items)) → IfSome found (IsUnder items id) → IfNone found (HasNone items id) → found ≡ ticket_of id items
found_is id items None distinct some none = sym (none_at id items (recursion_from_All (λ (i : ℕ × Transaction). id_of i.1 ≢ id) items none))
found_is id items (Some n) distinct some none = sym (under_at id items n some.tx (apart-ids (transactions items) distinct) (in-contains items (n, some.tx) some.there) some.has)
