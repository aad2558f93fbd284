-- The right after a step.
use Rattle.std.proofs.Common.{◌≡◌, ℕ, ◌+◌, ◌<◌, List, [], ◌∷◌, ◌++◌, length, ap, sym, subst, ◌∙◌, arith}
use Rattle.std.proofs.lemmas.List.{length_push}
use Rattle.logbook.specs.Pages.{Nib, nib, inked, left_with, may_write, may_make}
use mathlib.Core.List.{IsPrefix}
use Rattle.mp_history.specs.Entry.{Entry}
use Rattle.mp_history.specs.Log.{Begins}
use Rattle.mp_history.specs.Inside.Noted.{Noted, notes_of, entries_of, history, opening_of, log_of, right_after}
use Rattle.mp_history.specs.Inside.Turn.{IsTurn}
use Rattle.mp_history.proofs.Notes.{entries_of-one, log_of-prefix, right_after-last}

-- a pen that has made its word
pub made : (p : Nib) (n : ℕ) → p.right ≡ may_make → inked p n ≡ nib may_write p.key n
made p n is = ap (λ r. nib (left_with r) p.key n) is

pub made_as : (t p : Nib) (n : ℕ) → t ≡ inked p n → p.right ≡ may_make → t ≡ nib may_write t.key n
made_as t p n is may = is ∙ (made p n may ∙ ap (λ k. nib may_write k n) (sym (ap (λ q. q.key) is)))

module _ (root : ℕ) (log later : List Noted) (n : Noted) (e : Entry) where
  pub history-later : notes_of root later ≡ notes_of root log ++ n ∷ [] → n.entries ≡ e ∷ [] → history root later ≡ history root log ++ e ∷ []
  history-later is one = ap entries_of is ∙ entries_of-one (notes_of root log) n e one

  pub right-later : (count : ℕ) (pen next : Nib) → IsTurn root count log pen → notes_of root later ≡ notes_of root log ++ n ∷ [] → n.entries ≡ e ∷ [] → next ≡ nib may_write n.next 0 → IsTurn root (count + 1) later next
  right-later count pen next right is one to = record {
    opened = omega (arith, right.opened, ap length is, length_push (notes_of root log) n);
    counted = ap (λ k. k + 1) right.counted ∙ sym (ap length (history-later is one) ∙ length_push (history root log) e);
    turn = to ∙ ap (λ k. nib may_write k 0) (sym (ap (right_after root) is ∙ right_after-last root (notes_of root log) n));
  }

-- if all notes of a history are those that the right has seen, anybody else has seen a prefix of them
pub covered : (root : ℕ) (mine theirs all : List Noted) → notes_of root mine ≡ notes_of root all → 0 < length (notes_of root theirs) → IsPrefix theirs all → Begins (log_of root theirs) (log_of root mine)
covered root mine theirs all same opened begins =
    subst (λ (ns : List Noted). Begins (log_of root theirs) (record { opening = opening_of ns; entries = entries_of ns })) (sym same) (log_of-prefix root theirs all opened begins)
