-- Outputs that aren't in a ledger state yet.
use Rattle.std.proofs.Common.{◌≡◌, ℕ, ◌+◌, ◌<◌, Bool, true, false, cond, List, [], ◌∷◌, ◌++◌, refl, sym, ap, ◌∙◌, arith}
use Rattle.std.specs.Prelude.{◌&&◌, ◌||◌, ◌==◌, nat_eq, nat_lt, ◌^◌, Option, None, Some, is_some, is_none, option_map, IsNone}
use Rattle.std.specs.List.{list_any}
use Rattle.std.specs.FinMap.{get, insert}
use Rattle.std.specs.Cmp.Lexicographic.{pointwise}
use Rattle.std.proofs.lemmas.Bool.Decides.{nat_tests}
use Rattle.mp_tx.specs.declared.reference.OutRef.{OutRef}
use Rattle.mp_tx.specs.declared.output.Output.{Output}
use Rattle.mp_tx.specs.Reference.{same_ref}
use Rattle.mp_tx.specs.Ledger.{LedgerState, Utxo, refs, with_outputs, AreFree}
use Rattle.mp_tx.proofs.Undoing.{get-unmade}
use Rattle.mp_names.specs.References.{opening_ref}
use Rattle.mp_names.specs.declared.payment.Payment.{Payment}
use Rattle.mp_names.specs.Payments.{output_of}
use Rattle.mp_session.specs.Beginning.{Beginning, put_in, with_next, with_out}
use Rattle.mp_session.specs.Inside.Beginning.{with_pending, AreBelow}

other : (a : Bool) (n m : ℕ) → m < n → (a && (n == m)) ≡ false
other true n m lt = grind (arith, nat_tests)
other false n m lt = refl

-- the next reference isn't among those of lower indices
pub none_next : (n : ℕ) (es : List (OutRef × Output)) → AreBelow n es → list_any (same_ref (opening_ref n)) (refs es) ≡ false
none_next n [] below = refl
none_next n (e ∷ es) (lt, below) =
    ap (λ b. b || list_any (same_ref (opening_ref n)) (refs es)) (other (pointwise nat_eq (opening_ref n).id e.0.id) n e.0.index lt) ∙ none_next n es below

pub get-next : (u : Utxo) (n : ℕ) (es : List (OutRef × Output)) → AreBelow n es → get (with_outputs u es) (opening_ref n) ≡ get u (opening_ref n)
get-next u n es below = get-unmade u es (opening_ref n) (none_next n es below)

pub free_push : (u : Utxo) (es : List (OutRef × Output)) (e : OutRef × Output) → AreFree u es → IsNone (get (with_outputs u es) e.0) → AreFree u (es ++ e ∷ [])
free_push u [] e before here = (here, tt)
free_push u (x ∷ es) e before here = (before.0, free_push (insert u x.0 x.1) es e before.1 here)

pub with-append : (u : Utxo) (es fs : List (OutRef × Output)) → with_outputs u (es ++ fs) ≡ with_outputs (with_outputs u es) fs
with-append u [] fs = refl
with-append u (e ∷ es) fs = with-append (insert u e.0 e.1) es fs

pub all_below : (n : ℕ) (es : List (OutRef × Output)) (e : OutRef × Output) → AreBelow n es → e.0.index ≡ n → AreBelow (n + 1) (es ++ e ∷ [])
all_below n [] e below is = (omega (arith, is), tt)
all_below n (x ∷ es) e (lt, below) is = (omega (arith, lt), all_below n es e below is)

not_none : (o : Option Output) → is_some o ≡ true → is_none o ≡ false
not_none None e = sym e
not_none (Some x) e = refl

pub none : (o : Option Output) → is_some o ≡ false → is_none o ≡ true
none None e = refl
none (Some x) e = sym e

module _ (l : LedgerState) (es : List (OutRef × Output)) (n : ℕ) (p : Payment) (below : AreBelow n es) where
  abbrev pub begun : Beginning
  begun = record { outs = n; ledger = with_pending l es }

  abbrev pub made : Option LedgerState → Option Beginning
  made o = option_map (λ m. record { outs = n + 1; ledger = m }) o

  abbrev pub next : LedgerState
  next = with_pending l (es ++ (opening_ref n, output_of p) ∷ [])

  -- the next reference is taken
  pub out_taken : is_some (get l.utxo (opening_ref n)) ≡ true → with_out begun p ≡ None
  out_taken taken = by (nat_lt n (2 ^ 16))
    where
      put : put_in (with_pending l es) (opening_ref n) (output_of p) ≡ None
      put = ap (λ b. cond b (Some (with_pending (with_pending l es) ((opening_ref n, output_of p) ∷ []))) None) (ap is_none (get-next l.utxo n es below) ∙ not_none (get l.utxo (opening_ref n)) taken)

      by : (b : Bool) → cond b (with_next begun p) None ≡ None
      by true = ap made put
      by false = refl

  -- it is free
  pub out_put : is_some (get l.utxo (opening_ref n)) ≡ false → nat_lt n (2 ^ 16) ≡ true → with_out begun p ≡ Some (record { outs = n + 1; ledger = next })
  out_put free lt = ap (λ b. cond b (with_next begun p) None) lt ∙ ap made (put ∙ ap (λ u. Some (record (with_pending l es) { utxo = u })) (sym (with-append l.utxo es ((opening_ref n, output_of p) ∷ []))))
    where
      put : put_in (with_pending l es) (opening_ref n) (output_of p) ≡ Some (with_pending (with_pending l es) ((opening_ref n, output_of p) ∷ []))
      put = ap (λ b. cond b (Some (with_pending (with_pending l es) ((opening_ref n, output_of p) ∷ []))) None) (ap is_none (get-next l.utxo n es below) ∙ none (get l.utxo (opening_ref n)) free)
