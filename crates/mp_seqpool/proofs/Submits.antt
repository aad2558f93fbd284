-- A submit, step by step.
use Rattle.std.proofs.Common.{◌≡◌, ℕ, ◌+◌, ◌^◌, ◌-◌, ◌<◌, ◌≤◌, ◌≢◌, Bool, nat_le, nat_lt, true, false, cond, List, [], ◌∷◌, ◌++◌, refl, sym, ap, subst, ◌∙◌, arith}
use Rattle.std.specs.Prelude.{Option, None, Some, Result, Ok, Err, is_ok, sum_by, map, All, AllPairs}
use Rattle.std.specs.FinMap.{get}
use Rattle.std.proofs.lemmas.List.{map-append}
use Rattle.std.proofs.lemmas.Grind.{common_steps}
use Rattle.std.proofs.lemmas.List.Elements.{All-append, All-from_recursion, recursion_from_All, All-nil, All-cons, All-head, All-tail}
use Rattle.std.proofs.lemmas.List.Quantifiers.{all_pairs_push}
use Rattle.mp_tx.specs.Transaction.{Transaction}
use Rattle.mp_tx.specs.Spelling.{id_of, size_of}
use Rattle.mp_tx.specs.Ledger.{LedgerState}
use Rattle.mp_rules.specs.Verifier.{Accepts}
use Rattle.mp_rules.specs.Validity.{IsValid, Chain}
use Rattle.mp_rules.specs.FirstFault.{first_fault}
use Rattle.mp_seqpool.specs.ValidatedTx.{ValidatedTx, ticketed}
use Rattle.mp_seqpool.specs.Keep.{transactions, tickets}
use Rattle.mp_seqpool.specs.declared.refusal.Refusal.{Refusal}
use Rattle.mp_seqpool.specs.declared.refusal.Refusal.TheVariants as refusals
use Rattle.mp_seqpool.specs.declared.command.Reply.{Reply}
use Rattle.mp_seqpool.specs.declared.command.Reply.TheVariants.{Accepted}
use Rattle.mp_seqpool.specs.declared.pool.SeqPool.TheInside.{Inside}
use Rattle.mp_seqpool.specs.Inside.Place.{new_misplaced, misplaced}
use Rattle.mp_seqpool.specs.Inside.Rules.{IsBrokenRule}
use Rattle.mp_seqpool.specs.Inside.SeqPool.{state, IsCounted}
use Rattle.mp_seqpool.specs.Inside.Chained.{all_accepted}
use Rattle.mp_seqpool.specs.Command.{Submit}
use Rattle.mp_rules.specs.Resolved.{Resolved}
use Rattle.mp_seqpool.specs.Pool.{Pool, Holding}
use Rattle.mp_seqpool.specs.Prepared.{Prepared, Append, changed, HasRoom, Prepares}
use Rattle.mp_seqpool.specs.SlowPool.{free_bytes, ticket_of, unspent, HasPlace, answer_rules, answer_new, answer, pool_with, next, IsRefused}
use Rattle.mp_rules.specs.Checked.{WasValid}
use Rattle.mp_tickets.specs.Tickets.{IsRising}
use Rattle.mp_tickets.proofs.Rising.{rising_push}
use Rattle.mp_seqpool.proofs.Distinct.{absent as no_such_id}
use Rattle.mp_seqpool.proofs.Keeping.{chain-push}

-- ---- the items with one more

pub ticketed-push : (items : List (ℕ × ValidatedTx)) (ticket : ℕ) (item : ValidatedTx) → ticketed (items ++ (ticket, item) ∷ []) ≡ ticketed items ++ (ticket, item.tx) ∷ []
ticketed-push items ticket item = map-append (λ (e : ℕ × ValidatedTx). (e.0, e.1.tx)) items ((ticket, item) ∷ [])

transactions-push : (items : List (ℕ × Transaction)) (ticket : ℕ) (t : Transaction) → transactions (items ++ (ticket, t) ∷ []) ≡ transactions items ++ t ∷ []
transactions-push items ticket t = map-append (λ (i : ℕ × Transaction). i.1) items ((ticket, t) ∷ [])

ids-push : (items : List (ℕ × Transaction)) (ticket : ℕ) (t : Transaction) → map id_of (transactions (items ++ (ticket, t) ∷ [])) ≡ map id_of (transactions items) ++ id_of t ∷ []
ids-push items ticket t = ap (map id_of) (transactions-push items ticket t) ∙ map-append id_of (transactions items) (t ∷ [])

sum-last : (ts : List Transaction) (t : Transaction) → sum_by size_of (ts ++ t ∷ []) ≡ sum_by size_of ts + size_of t
sum-last ts t = Prim.grind (arith, common_steps)

All-push : {A : Type 0} (P : A → Type 0) (xs : List A) (x : A) → All P xs → P x → All P (xs ++ x ∷ [])
All-push P xs x all one = All-append P xs (x ∷ []) all (All-from_recursion P (x ∷ []) (one, tt))

tickets-last : (P : ℕ → Type 0) (items : List (ℕ × Transaction)) (ticket : ℕ) (t : Transaction) → All P (tickets items) → P ticket → All P (tickets (items ++ (ticket, t) ∷ []))
tickets-last P items ticket t all one =
    subst (All P) (sym (map-append (λ (i : ℕ × Transaction). i.0) items ((ticket, t) ∷ []))) (All-push P (tickets items) ticket all one)

one_higher : (n k : ℕ) → k ≤ n → k ≤ n + 1
one_higher n k le = omega arith

over_zero : (n : ℕ) → 0 < n + 1
over_zero n = omega arith

itself : (n : ℕ) → n ≤ n
itself n = omega arith

below_next : (k n : ℕ) → k ≤ n → k < n + 1
below_next k n le = omega arith

-- no ticket is greater than the last one, so each is below the next
pub all_below : (n : ℕ) (items : List (ℕ × ValidatedTx)) → All (λ k. k ≤ n) (tickets (ticketed items)) → All (λ e. e.0 < n + 1) items
all_below n [] h = All-nil (λ (e : ℕ × ValidatedTx). e.0 < n + 1)
all_below n (e ∷ es) h =
    All-cons (λ (e : ℕ × ValidatedTx). e.0 < n + 1) e es (below_next e.0 n (All-head (λ k. k ≤ n) e.0 (tickets (ticketed es)) h))
    (all_below n es (All-tail (λ k. k ≤ n) e.0 (tickets (ticketed es)) h))

-- the other stored values are also right with one more transaction
pub counted : (was new : Inside) (item : ValidatedTx) → new.config ≡ was.config → new.overlay.ledger ≡ was.overlay.ledger → new.overlay.applied ≡ was.overlay.applied ++ item.tx ∷ [] → new.overlay.items ≡ was.overlay.items ++ (was.last + 1, item.tx) ∷ []
    → new.items ≡ was.items ++ (was.last + 1, item) ∷ [] → new.last ≡ was.last + 1 → new.bytes ≡ was.bytes + size_of item.tx → new.changes ≡ was.changes + 1
    → ticket_of (id_of item.tx) (ticketed was.items) ≡ None → HasPlace (state was) item.tx → WasValid item.tx item.resolved → IsValid all_accepted (unspent (state was)) was.overlay.ledger.tick item.tx → IsCounted was → IsCounted new
counted was new item config base applied under is last bytes changes absent_there room was_valid is_valid law =
    let t : Transaction = item.tx in
    let all : List (ℕ × Transaction) = ticketed was.items ++ (was.last + 1, t) ∷ [] in
    let items : ticketed new.items ≡ all = ap ticketed is ∙ ticketed-push was.items (was.last + 1) item in
    let last_is : was.last + 1 ≡ new.last = sym last in
    record {
      applied = applied ∙ ap (λ ts. ts ++ t ∷ []) law.applied ∙ sym (ap transactions items ∙ transactions-push (ticketed was.items) (was.last + 1) t);
      chained = subst (λ (l : LedgerState). Chain all_accepted (get l.utxo) l.tick (transactions (ticketed new.items))) (sym base)
          (subst (Chain all_accepted (get was.overlay.ledger.utxo) was.overlay.ledger.tick) (sym (ap transactions items ∙ transactions-push (ticketed was.items) (was.last + 1) t))
          (chain-push all_accepted (get was.overlay.ledger.utxo) was.overlay.ledger.tick (transactions (ticketed was.items)) t law.chained is_valid));
      under = under ∙ ap (λ l. l ++ (was.last + 1, t) ∷ []) law.under ∙ sym items;
      distinct = subst (λ l. AllPairs (λ a b. a ≢ b) (map id_of (transactions l))) (sym items)
          (subst (AllPairs (λ a b. a ≢ b)) (sym (ids-push (ticketed was.items) (was.last + 1) t))
          (all_pairs_push (λ a b. a ≢ b) (map id_of (transactions (ticketed was.items))) (id_of t) law.distinct (no_such_id (id_of t) (ticketed was.items) absent_there)));
      valid = subst (All (λ e. WasValid e.1.tx e.1.resolved)) (sym is)
          (All-push (λ (e : ℕ × ValidatedTx). WasValid e.1.tx e.1.resolved) was.items (was.last + 1, item) law.valid was_valid);
      bytes = bytes ∙ ap (λ n. n + size_of t) law.bytes
          ∙ sym (ap (λ l. sum_by size_of (transactions l)) items ∙ ap (sum_by size_of) (transactions-push (ticketed was.items) (was.last + 1) t) ∙ sum-last (transactions (ticketed was.items)) t);
      most = let held = law.bytes in let within = room.bytes in omega arith;
      changes = let one = room.change in let limit : new.config.limit ≡ was.config.limit = ap (λ x. x.limit) config in omega arith;
      rising = subst IsRising (sym is) (rising_push 0 was.items (was.last + 1, item) law.rising
          (recursion_from_All (λ (e : ℕ × ValidatedTx). e.0 < was.last + 1) was.items (all_below was.last was.items law.given)) (over_zero was.last));
      given = subst (λ l. All (λ k. k ≤ new.last) (tickets l)) (sym items)
          (subst (λ n. All (λ k. k ≤ n) (tickets all)) last_is
          (tickets-last (λ k. k ≤ was.last + 1) (ticketed was.items) (was.last + 1) t (λ k d lt. one_higher was.last _ (law.given k d lt)) (itself (was.last + 1))));
    }

-- ---- if there is a place

open_test : (b : Bool) (f : Refusal) (o : Option Refusal) → cond b (Some f) o ≡ None → o ≡ None
open_test true f o e = Prim.cc
open_test false f o e = e

unknown : (p : Pool) (t : Transaction) (o : Option ℕ) → new_misplaced p t o ≡ None → o ≡ None
unknown p t None e = refl
unknown p t (Some ticket) e = Prim.cc

-- if there is a place, no transaction of the pool has the id
pub absent : (p : Pool) (t : Transaction) → misplaced p t ≡ None → ticket_of (id_of t) p.items ≡ None
unfolding misplaced
absent p t e = unknown p t (ticket_of (id_of t) p.items) (open_test (nat_le (2 ^ 64 - 1) p.last) refusals.TicketsSpent _ (open_test (nat_le p.limit p.changes) refusals.HistoryFull _ e))

module _ (accepts : Accepts) where
  -- if a submit is accepted, the transaction is the last one of the state after it
  pub next-accepted : (p : Pool) (t : Transaction) (r : Reply) → answer accepts p (Submit t) ≡ Ok r → next accepts p (Submit t) ≡ pool_with p t
  unfolding next
  next-accepted p t r e = ap (λ a. cond (is_ok a) (pool_with p t) p) e

  -- what the rules say if there is a place for the transaction
  abbrev by_rules : Pool → Transaction → Result Reply Refusal
  by_rules p t = answer_rules p t (first_fault accepts (unspent p) p.ledger.tick t)

  -- the answer, given the reason why there is no place
  abbrev with_place : Pool → Transaction → Option Refusal → Result Reply Refusal
  with_place p t None = by_rules p t
  with_place p t (Some refusal) = Err refusal

  pushed_in : (p : Pool) (t : Transaction) (b : Bool) (f : Refusal) (a : Result Reply Refusal) (o : Option Refusal) → a ≡ with_place p t o → cond b (Err f) a ≡ with_place p t (cond b (Some f) o)
  pushed_in p t true f a o e = refl
  pushed_in p t false f a o e = e

  new_placed : (p : Pool) (t : Transaction) (o : Option ℕ) → answer_new accepts p t o ≡ with_place p t (new_misplaced p t o)
  new_placed p t None = pushed_in p t (nat_lt (free_bytes p) (size_of t)) (refusals.Full (size_of t) (free_bytes p)) (by_rules p t) None refl
  new_placed p t (Some ticket) = refl

  placed : (p : Pool) (t : Transaction) → answer accepts p (Submit t) ≡ with_place p t (misplaced p t)
  unfolding answer misplaced
  placed p t =
      pushed_in p t (nat_le p.limit p.changes) refusals.HistoryFull _ _
      (pushed_in p t (nat_le (2 ^ 64 - 1) p.last) refusals.TicketsSpent _ _ (new_placed p t (ticket_of (id_of t) p.items)))

  -- if there is no place, that is the refusal
  pub refused-misplaced : (p : Pool) (t : Transaction) (f : Refusal) → misplaced p t ≡ Some f → IsRefused accepts p (Submit t) f
  refused-misplaced p t refusals.NoMemory e = tt
  refused-misplaced p t _ e = placed p t ∙ ap (with_place p t) e

  -- if there is a place, a broken rule is the refusal
  pub refused-broken : (p : Pool) (t : Transaction) (f : Refusal) → misplaced p t ≡ None → IsBrokenRule accepts p t f → IsRefused accepts p (Submit t) f
  refused-broken p t refusals.NoMemory e is = tt
  refused-broken p t (refusals.Invalid fault) e is = placed p t ∙ ap (with_place p t) e ∙ ap (answer_rules p t) is
  refused-broken p t _ e is = absurd is

  -- if there is a place and no rule is broken, it is accepted
  pub accepted : (p : Pool) (t : Transaction) → misplaced p t ≡ None → first_fault accepts (unspent p) p.ledger.tick t ≡ None → answer accepts p (Submit t) ≡ Ok (Accepted (p.last + 1))
  accepted p t e clear = placed p t ∙ ap (with_place p t) e ∙ ap (answer_rules p t) clear

  -- the step of a submit that isn't refused
  pub ready : (was : Pool) (h : Holding) (t : Transaction) (resolved : Resolved) (q : Prepared) → h.pool ≡ was → misplaced was t ≡ None → first_fault accepts (unspent was) was.ledger.tick t ≡ None
      → q.command ≡ Submit t → q.reply ≡ Accepted (was.last + 1) → q.effect ≡ Append (record { tx = t; resolved = resolved }) → HasRoom h q → Prepares accepts h (Submit t) q
  ready was h t resolved q same place clear command reply effect room =
      let yes : answer accepts h.pool (Submit t) ≡ Ok (Accepted (was.last + 1)) = ap (λ p. answer accepts p (Submit t)) same ∙ accepted was t place clear in
      record {
        command = command;
        reply = yes ∙ sym (ap Ok reply);
        leads = next-accepted h.pool t _ yes ∙ sym (ap (changed h.pool) effect);
        prepared = record {
          change = room.change;
          fits = room.fits;
          tells = room.tells;
          accepts = accepts;
          reply = ap (answer accepts h.pool) command ∙ yes ∙ sym (ap Ok reply);
        };
      }
