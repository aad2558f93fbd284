-- Seats for the passes of a pool.
use Rattle.std.proofs.Common.{◌≡◌, ℕ, List, [], ◌∷◌, ◌++◌, ◌<◌, length, map, refl, sym, ap, ap₂, ◌∙◌, append_assoc, arith, slice_index_or, drop}
use Rattle.std.specs.Prelude.{Option, None, Some}
use Rattle.std.specs.Vec.Iter.{into_iter_items, into_iter_steps}
use Rattle.std.specs.declared.vec.IntoIter.{IntoIter}
use Rattle.std.proofs.lemmas.List.{nil_from_length}
use Rattle.mp_tx.specs.Ledger.{LedgerState}
use Rattle.mp_rules.specs.Verifier.{Accepts}
use Rattle.mp_signatures.specs.declared.scheme.Scheme.{Scheme}
use Rattle.mp_seqpool.specs.SlowPool.{empty_pool}
use Rattle.mp_history.specs.Log.{Log, IsLegalLog}
use Rattle.mp_mempool.specs.Pass.{Pass}
use Rattle.mp_mempool.specs.Opening.{fresh_passes}
use Rattle.mp_clients.specs.declared.opening.Seat.{Seat}
use Rattle.mp_clients.specs.Opening.{new_log, seat_of, HasOpenedOn}

-- one more element is mapped
pub one_mapped : {X Y : Type 0} (f : X → Y) (ys new : List Y) (y : Y) (x : X) (xs rest : List X) (all : List Y) → ys ++ map f xs ≡ all → xs ≡ x ∷ rest → y ≡ f x → new ≡ ys ++ y ∷ [] → new ++ map f rest ≡ all
one_mapped f ys new y x xs rest all inv is e pushed =
    ap (λ l. l ++ map f rest) (pushed ∙ ap (λ z. ys ++ z ∷ []) e) ∙ append_assoc ys (f x ∷ []) (map f rest) ∙ ap (λ l. ys ++ map f l) (sym is) ∙ inv

-- an iterator that gives nothing has nothing left
pub none_left : {X A : Type 0} (s t : IntoIter X A) (r : Option X) → into_iter_steps s r t → ((x : X) → r ≡ Some x → ⊥) → into_iter_items s ≡ []
none_left s t None is other = nil_from_length (into_iter_items s) (sym s.rest.ok.0 ∙ is.0)
none_left s t (Some x) is other = absurd (other x refl)

-- the pool opened with these settings
pub opened_on : {N : Type 0} (accepts : Accepts) (callers n : ℕ) (signatures : Scheme) (ledger : LedgerState) (limit last l k most : ℕ) (front : Log) (seats : List (Seat N)) (passes : List Pass) → limit ≡ l → last ≡ k → n ≡ callers
    → front ≡ new_log (empty_pool limit last ledger) → IsLegalLog accepts callers front → passes ≡ fresh_passes n (new_log (empty_pool limit last ledger)) → seats ≡ map (seat_of signatures ledger most) passes
    → HasOpenedOn accepts callers signatures (empty_pool l k ledger) most front seats
opened_on accepts callers n signatures ledger limit last l k most front seats passes e f m fr legal ps ss = record {
  front_is = fr ∙ ap₂ (λ x y. new_log (empty_pool x y ledger)) e f;
  legal = legal;
  seats_are = ss
      ∙ ap (map (seat_of signatures ledger most)) (ps ∙ ap (λ x. fresh_passes x (new_log (empty_pool limit last ledger))) m ∙ ap₂ (λ x y. fresh_passes callers (new_log (empty_pool x y ledger))) e f);
}

-- the first element and those that are left
pub first_of : {X : Type 0} (xs ys : List X) (x : X) → 0 < length xs → x ≡ slice_index_or xs 0 x → ys ≡ drop 1 xs → xs ≡ x ∷ ys
first_of [] ys x lt e r = absurd (omega (arith, lt))
first_of (z ∷ zs) ys x lt e r = ap₂ (λ a l. a ∷ l) (sym e) (sym r)
