-- The invariant of a served pool, whatever is asked.
use Rattle.std.proofs.Common.{◌≡◌, ℕ, ◌<◌, ◌≤◌, ◌^◌, Bool, true, false, cond, refl, sym, ap, subst, ◌∙◌, arith}
use Rattle.std.specs.Prelude.{nat_le, is_ok, List, Result, Ok, Err, OnOk, OnErr}
use Rattle.std.proofs.lemmas.Bool.Decides.{nat_tests}
use Rattle.mp_tx.specs.Transaction.{Transaction}
use Rattle.mp_tx.specs.Ledger.{LedgerState}
use Rattle.mp_rules.specs.Verifier.{Accepts}
use Rattle.mp_seqpool.specs.declared.refusal.Refusal.{Refusal}
use Rattle.mp_seqpool.specs.declared.refusal.Refusal.TheVariants as refusals
use Rattle.mp_seqpool.specs.Command.{Command, Submit, Remove, Sync}
use Rattle.mp_seqpool.specs.Config.{renewed}
use Rattle.mp_seqpool.specs.Pool.{Pool}
use Rattle.mp_seqpool.specs.PoolLaws.{IsLawful}
use Rattle.mp_seqpool.specs.SlowPool.{reply_synced, answer, done, next}
use Rattle.mp_seqpool.proofs.Histories.{lawful-next, lawful-renewed, next-refused}
use Rattle.mp_serve.specs.Request.{counted_anew}
use Rattle.mp_serve.specs.Inside.Pool.{IsReady}
use Rattle.mp_serve.specs.Inside.KeepsLedger.{KeepsLedger}

under : (changes limit : ℕ) → changes < limit → nat_le limit changes ≡ false
under changes limit lt = grind (arith, nat_tests)

-- if one more change is allowed, changes aren't counted from 0 again
pub not_anew : (p : Pool) → p.changes < p.limit → counted_anew p ≡ p
not_anew p lt = ap (λ b. cond b (renewed p.limit p) p) (under p.changes p.limit lt)

ledger-anew : (p : Pool) → (counted_anew p).ledger ≡ p.ledger
ledger-anew p = by (nat_le p.limit p.changes)
  where
    by : (b : Bool) → (cond b (renewed p.limit p) p).ledger ≡ p.ledger
    by true = refl
    by false = refl

module _ (accepts : Accepts) where
  limit-done : (p : Pool) (c : Command) → (done accepts p c).limit ≡ p.limit
  limit-done p (Submit t) = refl
  limit-done p (Remove ids) = refl
  limit-done p (Sync l) = refl

  -- the limit of changes stays
  pub limit-next : (p : Pool) (c : Command) → (next accepts p c).limit ≡ p.limit
  unfolding next
  limit-next p c = by (is_ok (answer accepts p c))
    where
      by : (b : Bool) → (cond b (done accepts p c) p).limit ≡ p.limit
      by true = limit-done p c
      by false = refl

  pub served_anew : (p : Pool) → IsLawful accepts p → 1 ≤ p.limit → p.limit ≤ 2 ^ 32 → IsReady accepts (counted_anew p)
  served_anew p lawful least most = by (nat_le p.limit p.changes) refl
    where
      by : (b : Bool) → nat_le p.limit p.changes ≡ b → IsReady accepts (cond b (renewed p.limit p) p)
      by true e = record {
        lawful = lawful-renewed accepts p.limit p lawful;
        change = omega (arith, least);
        least = least;
        most = most;
      }
      by false e = record { lawful = lawful; change = grind (arith, nat_tests); least = least; most = most }

  pub served-next : (p : Pool) (c : Command) → IsReady accepts p → IsReady accepts (counted_anew (next accepts p c))
  served-next p c s =
      let same : (next accepts p c).limit ≡ p.limit = limit-next p c in
      served_anew (next accepts p c) (lawful-next accepts p c s.lawful) (subst (λ n. 1 ≤ n) (sym same) s.least) (subst (λ n. n ≤ 2 ^ 32) (sym same) s.most)

  -- whether it obeyed or an allocation failed
  pub served_either : {X E : Type 0} (r : Result X E) (old new : Pool) (c : Command)
      → OnOk r (new ≡ counted_anew (next accepts old c)) → OnErr r (new ≡ old) → IsReady accepts old → IsReady accepts new
  served_either (Ok x) old new c done same s = subst (IsReady accepts) (sym done) (served-next old c s)
  served_either (Err e) old new c done same s = subst (IsReady accepts) (sym same) s

  -- a command that is refused changes nothing
  pub refused_same : (p : Pool) (c : Command) (f : Refusal) → p.changes < p.limit → answer accepts p c ≡ Err f → p ≡ counted_anew (next accepts p c)
  refused_same p c f lt is = sym (ap counted_anew (next-refused accepts p c f is) ∙ not_anew p lt)

  -- a submit and a remove don't change the ledger state
  ledger-submit : (p : Pool) (t : Transaction) → (next accepts p (Submit t)).ledger ≡ p.ledger
  unfolding next
  ledger-submit p t = by (is_ok (answer accepts p (Submit t)))
    where
      by : (b : Bool) → (cond b (done accepts p (Submit t)) p).ledger ≡ p.ledger
      by true = refl
      by false = refl

  ledger-remove : (p : Pool) (ids : List (List ℕ)) → (next accepts p (Remove ids)).ledger ≡ p.ledger
  unfolding next
  ledger-remove p ids = by (is_ok (answer accepts p (Remove ids)))
    where
      by : (b : Bool) → (cond b (done accepts p (Remove ids)) p).ledger ≡ p.ledger
      by true = refl
      by false = refl

  pub ledger-submitted : (p : Pool) (t : Transaction) → (counted_anew (next accepts p (Submit t))).ledger ≡ p.ledger
  ledger-submitted p t = ledger-anew (next accepts p (Submit t)) ∙ ledger-submit p t

  ledger-removed : (p : Pool) (ids : List (List ℕ)) → (counted_anew (next accepts p (Remove ids))).ledger ≡ p.ledger
  ledger-removed p ids = ledger-anew (next accepts p (Remove ids)) ∙ ledger-remove p ids

  pub ledger-kept : (p : Pool) (c : Command) → KeepsLedger c → (counted_anew (next accepts p c)).ledger ≡ p.ledger
  ledger-kept p (Submit t) k = ledger-submitted p t
  ledger-kept p (Remove ids) k = ledger-removed p ids
  ledger-kept p (Sync l) k = absurd k

  -- an allowed sync leads to its ledger state
  ledger-sync : (p : Pool) (l : LedgerState) → p.changes < p.limit → (next accepts p (Sync l)).ledger ≡ l
  unfolding next answer
  ledger-sync p l lt =
      ap (λ b. (cond (is_ok (cond b (Err refusals.HistoryFull) (Ok (reply_synced accepts l p)))) (done accepts p (Sync l)) p).ledger) (under p.changes p.limit lt)

  pub ledger-synced : (p : Pool) (l : LedgerState) → p.changes < p.limit → (counted_anew (next accepts p (Sync l))).ledger ≡ l
  ledger-synced p l lt = ledger-anew (next accepts p (Sync l)) ∙ ledger-sync p l lt

  -- whether it obeyed or an allocation failed
  pub same_either : {X E : Type 0} (r : Result X E) (old new : Pool) (c : Command) → (counted_anew (next accepts old c)).ledger ≡ old.ledger
      → OnOk r (new ≡ counted_anew (next accepts old c)) → OnErr r (new ≡ old) → new.ledger ≡ old.ledger
  same_either (Ok x) old new c same done kept = ap (λ p. p.ledger) done ∙ same
  same_either (Err e) old new c same done kept = ap (λ p. p.ledger) kept
