-- One more entry of a history.
use Rattle.std.proofs.Common.{◌≡◌, ℕ, ◌+◌, ◌<◌, ◌≤◌, get_or, List, [], ◌∷◌, ◌++◌, length, take, refl, sym, ap, subst, ◌∙◌, arith, length-append, true, false, eqb-true}
use Rattle.std.specs.Prelude.{◌==◌, ◌%◌, Some, slice_get, All}
use Rattle.std.specs.Vec.Iter.{into_iter_items, into_iter_steps}
use Rattle.std.specs.declared.vec.IntoIter.{IntoIter}
use Rattle.std.specs.Iterator.{Yields}
use Rattle.std.proofs.lemmas.List.{take_more}
use Rattle.std.proofs.lemmas.List.Elements.{All-head, All-tail}
use Rattle.std.proofs.lemmas.Option.{slice_get_within, get_or_from_slice_get}
use Rattle.mp_history.specs.Entry.{Entry}
use Rattle.mp_history.specs.Log.{Log, last_of}
use Rattle.mp_mempool.specs.Pass.{Pass}
use Rattle.mp_race.specs.declared.told.Done.{Done}
use Rattle.mp_race.specs.declared.ordering.Ordered.{Ordered}
use Rattle.mp_race.specs.Task.{Task}
use Rattle.mp_race.specs.History.{IsEntryOf, AreEntriesOf, next_after, first_next, next_of}
use Rattle.mp_race.specs.Inside.Work.{IsDone, AreNumbered}
use Rattle.mp_race.specs.Inside.Ordered.{told_of, IsOrdered}
use Rattle.std.proofs.lemmas.List.Sums.{fold-append}
use Rattle.mp_race.proofs.Fitting.{none, same_length, one_more as one_told}

-- the first entries of a history, and the next one
pub one_more : (ls es : List Entry) (e : Entry) → es ≡ take (length es) ls → slice_get ls (length es) ≡ Some e → es ++ e ∷ [] ≡ take (length (es ++ e ∷ [])) ls
one_more ls es e is at =
    let n : ℕ = length es in
    let lt : n < length ls = slice_get_within ls n e at in
    let len : length (es ++ e ∷ []) ≡ n + 1 = length-append es (e ∷ []) in
    ap (λ l. l ++ e ∷ []) is ∙ ap (λ x. take n ls ++ x ∷ []) (sym (get_or_from_slice_get ls n e e at)) ∙ sym (take_more ls n e lt) ∙ ap (λ m. take m ls) (sym len)

-- before any change
pub none_ordered : (workers : ℕ) (ts : List Task) (log : Log) (o : Ordered) → o.entries.items ≡ [] → o.told.items ≡ [] → o.next ≡ first_next → IsOrdered workers ts log o
none_ordered workers ts log o entries told next = record {
  first = entries ∙ sym (ap (λ l. take (length l) log.entries) entries);
  told = subst (λ l. AreEntriesOf workers ts l o.entries.items) (sym told) (subst (AreEntriesOf workers ts []) (sym entries) (none workers ts));
  next = next ∙ sym (ap next_of told);
}

-- one more change
pub more_ordered : (workers : ℕ) (ts : List Task) (log : Log) (a b : Ordered) (d : Done) → IsDone ts log d → IsOrdered workers ts log a
    → d.receipt.place ≡ length a.entries.items → d.task % workers ≡ d.receipt.entry.caller → get_or a.next d.receipt.entry.caller 0 ≤ d.task
    → b.entries.items ≡ a.entries.items ++ d.receipt.entry ∷ [] → b.told.items ≡ a.told.items ++ told_of d ∷ [] → b.next ≡ next_after a.next (told_of d) → IsOrdered workers ts log b
more_ordered workers ts log a b d is before at dealt turn entries told next =
    let e : Entry = d.receipt.entry in
    let stands : slice_get log.entries (length a.entries.items) ≡ Some e = subst (λ n. slice_get log.entries n ≡ Some e) at is.stands in
    let same : length a.entries.items ≡ length a.told.items = same_length workers ts a.told.items a.entries.items before.told.entries in
    let one : IsEntryOf workers ts (told_of d) e = record { asked = is.asked; dealt = dealt; caller = refl; reply = refl } in
    record {
      first = entries ∙ one_more log.entries a.entries.items e before.first stands ∙ sym (ap (λ l. take (length l) log.entries) entries);
      told =
          subst (λ l. AreEntriesOf workers ts l b.entries.items) (sym told) (subst (AreEntriesOf workers ts (a.told.items ++ told_of d ∷ [])) (sym entries)
          (one_told workers ts a.told.items a.entries.items (told_of d) e before.told one (at ∙ same) (subst (λ l. get_or l e.caller 0 ≤ d.task) before.next turn)));
      next = next ∙ ap (λ l. next_after l (told_of d)) before.next ∙ sym (fold-append next_after first_next a.told.items (told_of d ∷ [])) ∙ sym (ap next_of told);
    }

-- what an iterator has given precedes what it has left
pub given : {X A : Type 0} (s : IntoIter X A) (xs : List X) (t : IntoIter X A) → Yields into_iter_steps s xs t → into_iter_items s ≡ xs ++ into_iter_items t
given s [] t y = ap into_iter_items y
given s (x ∷ xs) t y = y.1.0 ∙ ap (λ ys. x ∷ ys) (given y.0 xs t y.2)

-- what holds for all holds for each
pub each : {X : Type 0} (P : X → Type 0) (xs : List X) (x : X) (rest : List X) → All P (xs ++ x ∷ rest) → P x
each P [] x rest all = All-head P x rest all
each P (y ∷ xs) x rest all = each P xs x rest (All-tail P y (xs ++ x ∷ rest) all)

pub apart : (a b : ℕ) → (b ≡ a → ⊥) → (a == b) ≡ false
apart a b other = elim (a == b) as (λ t. (a == b) ≡ t → t ≡ false) [
  | true ↦ λ same. absurd (other (sym (eqb-true a b same)))
  | false ↦ λ differs. refl
] refl

-- one more pass, which has the next number
pub numbered-push : (es : List Entry) (k : ℕ) (ps : List Pass) (p : Pass) → AreNumbered es k ps → p.caller ≡ k + length ps → last_of p.caller es ≡ p.last → AreNumbered es k (ps ++ p ∷ [])
numbered-push es k [] p numbered at known =
    let e : k + 0 ≡ k = omega arith in
    (at ∙ e, subst (λ n. last_of n es ≡ p.last) (at ∙ e) known, tt)
numbered-push es k (q ∷ ps) p numbered at known =
    let e : k + length (q ∷ ps) ≡ (k + 1) + length ps = omega arith in
    (numbered.0, numbered.1, numbered-push es (k + 1) ps p numbered.2 (at ∙ e) known)
