-- What a submit would be answered.
use Rattle.std.proofs.Common.{◌≡◌, ℕ, Bool, true, false, cond, List, [], ◌∷◌, ◌++◌, ◌+◌, refl, sym, ap, ap₂, ◌∙◌, append_assoc}
use Rattle.std.specs.Prelude.{◌≢◌, ◌^◌, ◌-◌, nat_eq, nat_le, nat_lt, Option, Some, None, Result, Ok, Err}
use Rattle.std.specs.Cmp.Lexicographic.{pointwise}
use Rattle.std.specs.FinMap.{get}
use Rattle.mp_tx.specs.Transaction.{Transaction}
use Rattle.mp_tx.specs.Spelling.{id_of, size_of}
use Rattle.mp_utxo.specs.Apply.{after}
use Rattle.mp_utxo.specs.Overlay.{Overlay, IsSame, Applies, unspent}
use Rattle.mp_rules.specs.declared.invalid.Invalid.{Invalid}
use Rattle.mp_rules.specs.declared.invalid.Invalid.TheVariants as rule
use Rattle.mp_rules.specs.Verifier.{Accepts}
use Rattle.mp_rules.specs.FirstFault.{first_fault, IsFaultOf}
use Rattle.mp_seqpool.specs.declared.refusal.Refusal.{Refusal}
use Rattle.mp_seqpool.specs.declared.refusal.Refusal.TheVariants as refusals
use Rattle.mp_seqpool.specs.declared.command.Reply.{Reply}
use Rattle.mp_seqpool.specs.declared.command.Reply.TheVariants.{Accepted}
use Rattle.mp_seqpool.specs.Keep.{transactions}
use Rattle.mp_seqpool.specs.Pool.{Pool}
use Rattle.mp_seqpool.specs.Command.{Submit}
use Rattle.mp_seqpool.specs.SlowPool.{ticket_of, free_bytes, answer, answer_new, answer_rules}
use Rattle.mp_seqpool.specs.SlowPool as slow
use Rattle.mp_seqpool.specs.Inside.Place.{new_misplaced, misplaced}
use Rattle.mp_seqpool.proofs.Submits.{accepted, refused-broken}
use Rattle.mp_clients.specs.Inside.Checked.{IsOverlayOf}

-- the first item has the id
pub found_first : (id : List ℕ) (i : ℕ × Transaction) (it rest : List (ℕ × Transaction)) → it ≡ i ∷ rest → pointwise nat_eq id (id_of i.1) ≡ true → ticket_of id it ≡ Some i.0
found_first id i it rest is e = ap (ticket_of id) is ∙ ap (λ b. cond b (Some i.0) (ticket_of id rest)) e

-- it has another
pub found_later : (id : List ℕ) (i : ℕ × Transaction) (it rest : List (ℕ × Transaction)) → it ≡ i ∷ rest → pointwise nat_eq id (id_of i.1) ≡ false → ticket_of id it ≡ ticket_of id rest
found_later id i it rest is e = ap (ticket_of id) is ∙ ap (λ b. cond b (Some i.0) (ticket_of id rest)) e

-- one more transaction is applied
pub one_applied : (o m n : Overlay) (p : Pool) (i : ℕ × Transaction) (it rest : List (ℕ × Transaction)) (t : Transaction) (ticket : ℕ)
    → (o.ledger ≡ p.ledger) × (o.applied ++ transactions it ≡ transactions p.items) → IsSame o m → Applies m ticket t n → t ≡ i.1 → it ≡ i ∷ rest
    → (n.ledger ≡ p.ledger) × (n.applied ++ transactions rest ≡ transactions p.items)
one_applied o m n p i it rest t ticket inv same app is more = (
  app.base ∙ same.base ∙ inv.0,
  ap (λ l. l ++ transactions rest) (app.applied ∙ ap (λ l. l ++ t ∷ []) same.applied ∙ ap (λ x. o.applied ++ x ∷ []) is)
      ∙ append_assoc o.applied (i.1 ∷ []) (transactions rest)
      ∙ ap (λ l. o.applied ++ transactions l) (sym more)
      ∙ inv.1,
)

module _ (accepts : Accepts) (p : Pool) (t : Transaction) where
  -- the answer, given the reason why there is no place
  abbrev with_place : Option Refusal → Result Reply Refusal
  with_place None = answer_rules p t (first_fault accepts (slow.unspent p) p.ledger.tick t)
  with_place (Some refusal) = Err refusal

  pushed_in : (b : Bool) (f : Refusal) (a : Result Reply Refusal) (o : Option Refusal) → a ≡ with_place o → cond b (Err f) a ≡ with_place (cond b (Some f) o)
  pushed_in true f a o e = refl
  pushed_in false f a o e = e

  new_placed : (o : Option ℕ) → answer_new accepts p t o ≡ with_place (new_misplaced p t o)
  new_placed None = pushed_in (nat_lt (free_bytes p) (size_of t)) (refusals.Full (size_of t) (free_bytes p)) _ None refl
  new_placed (Some ticket) = refl

  placed : answer accepts p (Submit t) ≡ with_place (misplaced p t)
  unfolding answer misplaced
  placed =
      pushed_in (nat_le p.limit p.changes) refusals.HistoryFull _ _
      (pushed_in (nat_le (2 ^ 64 - 1) p.last) refusals.TicketsSpent _ _ (new_placed (ticket_of (id_of t) p.items)))

  -- there is no place
  pub refused_there : (f : Refusal) → Some f ≡ misplaced p t → answer accepts p (Submit t) ≡ Err f
  refused_there f e = placed ∙ ap with_place (sym e)

  module _ (o : Overlay) (over : IsOverlayOf p o) where
    same_unspent : unspent o ≡ slow.unspent p
    same_unspent = ap₂ (λ l ts. after (get l.utxo) ts) over.base over.applied

    -- no rule is broken
    pub accepted_there : (tick ticket : ℕ) → None ≡ misplaced p t → tick ≡ p.ledger.tick → first_fault accepts (unspent o) tick t ≡ None → ticket ≡ p.last + 1 → answer accepts p (Submit t) ≡ Ok (Accepted ticket)
    accepted_there tick ticket place at clear next =
        accepted accepts p t (sym place) (ap₂ (λ u n. first_fault accepts u n t) (sym same_unspent) (sym at) ∙ clear) ∙ ap (λ n. Ok (Accepted n)) (sym next)

    fault_is : (tick : ℕ) (fault : Invalid) → fault ≢ rule.NoMemory → IsFaultOf accepts (unspent o) tick t fault → first_fault accepts (unspent o) tick t ≡ Some fault
    fault_is tick rule.NoMemory other is = absurd (other refl)
    fault_is tick _ other is = is

    -- a rule is broken
    pub broken_there : (tick : ℕ) (fault : Invalid) → None ≡ misplaced p t → tick ≡ p.ledger.tick → fault ≢ rule.NoMemory → IsFaultOf accepts (unspent o) tick t fault → answer accepts p (Submit t) ≡ Err (refusals.Invalid fault)
    broken_there tick fault place at other is =
        refused-broken accepts p t (refusals.Invalid fault) (sym place) (ap₂ (λ u n. first_fault accepts u n t) (sym same_unspent) (sym at) ∙ fault_is tick fault other is)
