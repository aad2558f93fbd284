-- The notes of one history in a longer log.
use Rattle.std.proofs.Common.{◌≡◌, ℕ, ◌<◌, ◌≤◌, true, false, cond, List, [], ◌∷◌, ◌++◌, length, refl, ap, sym, ◌∙◌, arith}
use Rattle.std.specs.Prelude.{◌==◌}
use Rattle.std.proofs.lemmas.List.{append-nil}
use Rattle.std.proofs.lemmas.List.Elements.{filter-append}
use Rattle.std.proofs.lemmas.Grind.{flat_map-append}
use mathlib.Core.List.{IsPrefix}
use Rattle.mp_history.specs.Entry.{Entry}
use Rattle.mp_history.specs.Log.{Log, Begins}
use Rattle.mp_history.specs.Inside.Noted.{Noted, notes_of, entries_of, history, opening_of, log_of, right_after}
use Rattle.mp_history.proofs.Prefixes.{prefix_shorter}

pub notes_of-append : (root : ℕ) (xs ys : List Noted) → notes_of root (xs ++ ys) ≡ notes_of root xs ++ notes_of root ys
notes_of-append root xs ys = filter-append (λ (n : Noted). n.root == root) xs ys

pub entries_of-append : (xs ys : List Noted) → entries_of (xs ++ ys) ≡ entries_of xs ++ entries_of ys
entries_of-append xs ys = flat_map-append (λ (n : Noted). n.entries) xs ys

pub notes_of-prefix : (root : ℕ) (xs ys : List Noted) → IsPrefix xs ys → IsPrefix (notes_of root xs) (notes_of root ys)
notes_of-prefix root xs ys p = (notes_of root p.0, sym (notes_of-append root xs p.0) ∙ ap (notes_of root) p.1)

pub entries_of-prefix : (xs ys : List Noted) → IsPrefix xs ys → IsPrefix (entries_of xs) (entries_of ys)
entries_of-prefix xs ys p = (entries_of p.0, sym (entries_of-append xs p.0) ∙ ap entries_of p.1)

pub history-prefix : (root : ℕ) (xs ys : List Noted) → IsPrefix xs ys → IsPrefix (history root xs) (history root ys)
history-prefix root xs ys p = entries_of-prefix (notes_of root xs) (notes_of root ys) (notes_of-prefix root xs ys p)

-- a note of this history, and one of another
pub notes_of-own : (root : ℕ) (log : List Noted) (n : Noted) → (n.root == root) ≡ true → notes_of root (log ++ n ∷ []) ≡ notes_of root log ++ n ∷ []
notes_of-own root log n is = notes_of-append root log (n ∷ []) ∙ ap (λ b. notes_of root log ++ cond b (n ∷ []) []) is

pub notes_of-other : (root : ℕ) (log : List Noted) (n : Noted) → (n.root == root) ≡ false → notes_of root (log ++ n ∷ []) ≡ notes_of root log
notes_of-other root log n is = notes_of-append root log (n ∷ []) ∙ (ap (λ b. notes_of root log ++ cond b (n ∷ []) []) is ∙ append-nil (notes_of root log))

pub entries_of-one : (notes : List Noted) (n : Noted) (e : Entry) → n.entries ≡ e ∷ [] → entries_of (notes ++ n ∷ []) ≡ entries_of notes ++ e ∷ []
entries_of-one notes n e is = entries_of-append notes (n ∷ []) ∙ ap (λ es. entries_of notes ++ es) (append-nil n.entries ∙ is)

-- a history that has opened keeps the state with which it opened
pub opening_of-prefix : (xs ys : List Noted) → 0 < length xs → IsPrefix xs ys → opening_of xs ≡ opening_of ys
opening_of-prefix [] ys opened p = absurd (omega (arith, opened))
opening_of-prefix (x ∷ xs) ys opened p = ap opening_of p.1

pub log_of-prefix : (root : ℕ) (xs ys : List Noted) → 0 < length (notes_of root xs) → IsPrefix xs ys → Begins (log_of root xs) (log_of root ys)
log_of-prefix root xs ys opened p = record {
  opening = opening_of-prefix (notes_of root xs) (notes_of root ys) opened (notes_of-prefix root xs ys p);
  entries = history-prefix root xs ys p;
}

-- of two prefixes of one history, the shorter is a prefix of the longer
pub shorter_begins : (a b log : Log) → Begins a log → Begins b log → length a.entries ≤ length b.entries → Begins a b
shorter_begins a b log p q le = record { opening = p.opening ∙ sym q.opening; entries = prefix_shorter a.entries b.entries log.entries p.entries q.entries le }

pub right_after-last : (r : ℕ) (notes : List Noted) (n : Noted) → right_after r (notes ++ n ∷ []) ≡ n.next
right_after-last r [] n = refl
right_after-last r (x ∷ xs) n = right_after-last x.next xs n
