-- What remains of a pool after some of its transactions go.
use Rattle.std.proofs.Common.{◌≡◌, ℕ, ◌<◌, ◌≤◌, ◌⊎◌, inl, inr, Bool, true, false, cond, List, [], ◌∷◌, refl, sym, ap, subst, ◌∙◌, arith}
use Rattle.std.specs.Prelude.{not, ◌||◌, nat_le, Result, Ok, Err, is_ok, All, if◌then◌else◌}
use Rattle.std.specs.List.{filter, AllByRecursion}
use Rattle.std.specs.FinMap.{get}
use Rattle.std.proofs.lemmas.Bool.{eq-eqb, ne_eqb}
use Rattle.std.proofs.lemmas.Bool.Decides.{nat_tests}
use Rattle.std.proofs.lemmas.List.Elements.{All-nil, All-cons, All-head, All-tail}
use Rattle.mp_tx.specs.Transaction.{Transaction}
use Rattle.mp_tx.specs.Ledger.{LedgerState}
use Rattle.mp_utxo.specs.Apply.{Unspent, apply}
use Rattle.mp_rules.specs.Verifier.{Accepts}
use Rattle.mp_rules.specs.Checked.{IsSigned, WasValid}
use Rattle.mp_tickets.specs.Tickets.{IsRisingFrom, IsRising, has_ticket, among}
use Rattle.mp_seqpool.specs.ValidatedTx.{ValidatedTx, IsVouched, ticketed}
use Rattle.mp_seqpool.specs.Keep.{transactions, tickets, is_named, named, unnamed, is_valid, keep_upon, keep, dropped}
use Rattle.mp_seqpool.specs.declared.kept.Kept.{Kept}
use Rattle.mp_seqpool.specs.Kept.{IsKeptOf}
use Rattle.mp_seqpool.specs.declared.refusal.Refusal.{Refusal}
use Rattle.mp_seqpool.specs.declared.refusal.Refusal.TheVariants as refusals
use Rattle.mp_seqpool.specs.declared.command.Reply.{Reply}
use Rattle.mp_seqpool.specs.declared.command.Reply.TheVariants.{Removed, Synced}
use Rattle.mp_seqpool.specs.Command.{Command, Remove, Sync}
use Rattle.mp_seqpool.specs.Pool.{Pool, Holding}
use Rattle.mp_seqpool.specs.SlowPool.{is_at_limit, pool_upon, answer, next, done, reply_removed, reply_synced}
use Rattle.mp_seqpool.specs.Prepared.{Prepared, Keep, changed, CanChange, Prepares, leads_to, told, apart}
use Rattle.mp_seqpool.proofs.Apart.{all_above, apart_named, apart_dropped, rising_unnamed}

-- ---- some of a list, in their order

abbrev pub Some : {A : Type 0} → List A → List A → Type 0
Some xs [] = xs ≡ []
Some {A} xs (y ∷ ys) = Some xs ys ⊎ ((zs : List A) × (xs ≡ y ∷ zs) × Some zs ys)

none_some : {A : Type 0} (ys : List A) → Some [] ys
none_some [] = refl
none_some (y ∷ ys) = inl (none_some ys)

-- what holds of all holds of some
pub some_all : {A : Type 0} (P : A → Type 0) (xs ys : List A) → Some xs ys → AllByRecursion P ys → AllByRecursion P xs
some_all P xs [] s a = subst (AllByRecursion P) (sym s) tt
some_all P xs (y ∷ ys) (inl s) a = some_all P xs ys s a.1
some_all P xs (y ∷ ys) (inr s) a = subst (AllByRecursion P) (sym s.1) (a.0, some_all P s.0 ys s.2 a.1)

passed : {A : Type 0} (xs : List A) (z : A) (vs zs : List A) → Some xs (z ∷ vs) → ((ws : List A) → Some ws vs → Some ws zs) → Some xs (z ∷ zs)
passed xs z vs zs (inl s) go = inl (go xs s)
passed xs z vs zs (inr s) go = inr (s.0, s.1, go s.0 s.2)

pub some_trans : {A : Type 0} (xs ys zs : List A) → Some xs ys → Some ys zs → Some xs zs
some_trans xs ys [] s t = subst (λ l. Some xs l) t s
some_trans xs ys (z ∷ zs) s (inl t) = inl (some_trans xs ys zs s t)
some_trans xs ys (z ∷ zs) s (inr t) = passed xs z t.0 zs (subst (λ l. Some xs l) t.1 s) (λ ws u. some_trans ws t.0 zs u t.2)

some_cond : {A : Type 0} (b : Bool) (y : A) (xs zs ys : List A) → Some xs ys → Some zs ys → Some (cond b (y ∷ xs) zs) (y ∷ ys)
some_cond true y xs zs ys s t = inr (xs, refl, s)
some_cond false y xs zs ys s t = inl t

pub some_filter : {A : Type 0} (p : A → Bool) (xs : List A) → Some (filter p xs) xs
some_filter p [] = refl
some_filter p (x ∷ xs) = some_cond (p x) x (filter p xs) (filter p xs) xs (some_filter p xs) (some_filter p xs)

pub some_kept : (accepts : Accepts) (u : Unspent) (tick : ℕ) (items : List (ℕ × Transaction)) → Some (keep_upon accepts u tick items) items
some_kept accepts u tick [] = refl
some_kept accepts u tick (i ∷ is) = some_cond (is_valid accepts u tick i.1) i (keep_upon accepts (apply i.1 u) tick is) (keep_upon accepts u tick is) is (some_kept accepts (apply i.1 u) tick is) (some_kept accepts u tick is)

-- ---- those with the tickets of some are these

has_not : (n : ℕ) (ks : List (ℕ × Transaction)) → AllByRecursion (λ k. n < k.0) ks → has_ticket (tickets ks) n ≡ false
has_not n [] a = refl
has_not n (k ∷ ks) a = let h = a.0 in ap (λ b. b || has_ticket (tickets ks) n) (ne_eqb k.0 n (λ e. omega arith)) ∙ has_not n ks a.1

-- a lesser ticket makes no difference
lesser : (n : ℕ) (ts : List ℕ) (items : List (ℕ × Transaction)) → AllByRecursion (λ i. n < i.0) items → among (n ∷ ts) items ≡ among ts items
lesser n ts [] a = refl
lesser n ts (i ∷ is) a =
    let h = a.0 in
    ap (λ b. cond (b || has_ticket ts i.0) (i ∷ among (n ∷ ts) is) (among (n ∷ ts) is)) (ne_eqb n i.0 (λ e. omega arith))
    ∙ ap (λ l. cond (has_ticket ts i.0) (i ∷ l) l) (lesser n ts is a.1)

pub among_some : (low : ℕ) (ks items : List (ℕ × Transaction)) → IsRisingFrom low items → Some ks items → among (tickets ks) items ≡ ks
among_some low ks [] r s = sym s
among_some low ks (i ∷ is) r (inl s) =
    ap (λ b. cond b (i ∷ among (tickets ks) is) (among (tickets ks) is)) (has_not i.0 ks (some_all (λ k. i.0 < k.0) ks is s (all_above i.0 i.0 is (omega arith) r.1)))
    ∙ among_some i.0 ks is r.1 s
among_some low ks (i ∷ is) r (inr s) =
    ap (λ l. among (tickets l) (i ∷ is)) s.1
    ∙ ap (λ b. cond (b || has_ticket (tickets s.0) i.0) (i ∷ among (i.0 ∷ tickets s.0) is) (among (i.0 ∷ tickets s.0) is)) (eq-eqb i.0 i.0 refl)
    ∙ ap (λ l. i ∷ l) (lesser i.0 (tickets s.0) is (all_above i.0 i.0 is (omega arith) r.1) ∙ among_some i.0 s.0 is r.1 s.2)
    ∙ sym s.1

pub rising_ticketed : (low : ℕ) (items : List (ℕ × ValidatedTx)) → IsRisingFrom low items → IsRisingFrom low (ticketed items)
rising_ticketed low [] r = tt
rising_ticketed low (e ∷ es) r = (r.0, rising_ticketed e.0 es r.1)

-- if nothing is named, nothing goes
pub none_named : (items : List (ℕ × Transaction)) → unnamed [] items ≡ items
none_named [] = refl
none_named (i ∷ is) = ap (λ l. i ∷ l) (none_named is)

pub within : (limit changes : ℕ) → changes < limit → nat_le limit changes ≡ false
within limit changes h = grind (arith, nat_tests)

at_limit : (limit changes : ℕ) → limit ≤ changes → nat_le limit changes ≡ true
at_limit limit changes h = grind (arith, nat_tests)

yes : Reply → Result Reply Refusal
yes reply = Ok reply

open_limit : (b : Bool) (reply : Reply) → b ≡ false → (if b then Err refusals.HistoryFull else Ok reply) ≡ yes reply
unfolding yes
open_limit b reply e = ap (λ b. cond b (Err refusals.HistoryFull) (Ok reply)) e

module _ (accepts : Accepts) where
  -- nothing in the pool needs to be checked again
  pub vouched : (items : List (ℕ × ValidatedTx)) → All (IsSigned accepts) (transactions (ticketed items)) → All (λ e. WasValid e.1.tx e.1.resolved) items → All (λ e. IsVouched accepts e.1) items
  vouched [] s a = All-nil (λ (e : ℕ × ValidatedTx). IsVouched accepts e.1)
  vouched (e ∷ es) s a =
      All-cons (λ (e : ℕ × ValidatedTx). IsVouched accepts e.1) e es
      (record {
        signed = All-head (IsSigned accepts) e.1.tx (transactions (ticketed es)) s;
        valid = All-head (λ (e : ℕ × ValidatedTx). WasValid e.1.tx e.1.resolved) e es a;
      })
      (vouched es (All-tail (IsSigned accepts) e.1.tx (transactions (ticketed es)) s) (All-tail (λ (e : ℕ × ValidatedTx). WasValid e.1.tx e.1.resolved) e es a))

  -- what has the tickets of what is kept is what is kept
  among_kept : (ledger : LedgerState) (ids : List (List ℕ)) (items : List (ℕ × Transaction)) (kept : List ℕ) → IsRising items → kept ≡ tickets (keep accepts ledger (unnamed ids items)) → among kept items ≡ keep accepts ledger (unnamed ids items)
  among_kept ledger ids items kept rising is =
      ap (λ ts. among ts items) is
      ∙ among_some 0 (keep accepts ledger (unnamed ids items)) items rising
      (some_trans (keep accepts ledger (unnamed ids items)) (unnamed ids items) items (some_kept accepts (get ledger.utxo) ledger.tick (unnamed ids items)) (some_filter (λ i. not (is_named ids i.1)) items))

  -- what has neither the tickets of what is named nor those of what is dropped is what is kept
  apart_left : (ledger : LedgerState) (ids : List (List ℕ)) (items : List (ℕ × Transaction)) (k : Kept) → IsRising items → IsKeptOf accepts ledger items ids k
      → apart k.dropped (apart k.named items) ≡ keep accepts ledger (unnamed ids items)
  apart_left ledger ids items k rising is =
      ap (λ ts. apart k.dropped (apart ts items)) is.named
      ∙ ap (apart k.dropped) (apart_named 0 ids items rising)
      ∙ ap (λ ts. apart ts (unnamed ids items)) is.dropped
      ∙ apart_dropped accepts (get ledger.utxo) ledger.tick 0 (unnamed ids items) (rising_unnamed 0 ids items rising)

  apart_synced : (ledger : LedgerState) (items : List (ℕ × Transaction)) (k : Kept) → IsRising items → IsKeptOf accepts ledger items [] k → apart k.dropped items ≡ keep accepts ledger (unnamed [] items)
  apart_synced ledger items k rising is =
      ap (apart k.dropped) (sym (none_named items))
      ∙ ap (λ ts. apart ts (unnamed [] items)) is.dropped
      ∙ apart_dropped accepts (get ledger.utxo) ledger.tick 0 (unnamed [] items) (rising_unnamed 0 [] items rising)

  -- the state to which a step of keeping leads
  leads_left : (p : Pool) (ledger : LedgerState) (ids : List (List ℕ)) (k : Kept) (q : Prepared) → IsRising p.items → IsKeptOf accepts ledger p.items ids k → q.effect ≡ Keep k.overlay k.kept
      → leads_to p q ≡ pool_upon p ledger (keep accepts ledger (unnamed ids p.items))
  leads_left p ledger ids k q rising is keeps =
      ap (changed p) keeps ∙ ap (λ l. pool_upon p l (among k.kept p.items)) is.base ∙ ap (pool_upon p ledger) (among_kept ledger ids p.items k.kept rising is.kept)

  pub yes_next : (p : Pool) (c : Command) (r : Reply) → answer accepts p c ≡ Ok r → next accepts p c ≡ done accepts p c
  unfolding next
  yes_next p c r e = ap (λ a. cond (is_ok a) (done accepts p c) p) e

  pub removed_as : (p : Pool) (ids : List (List ℕ)) (gone left_out : List ℕ) → is_at_limit p ≡ false → gone ≡ tickets (named ids p.items) → left_out ≡ dropped accepts p.ledger (unnamed ids p.items)
      → answer accepts p (Remove ids) ≡ Ok (Removed gone left_out)
  unfolding answer yes
  removed_as p ids gone left_out below is_named is_dropped =
      open_limit (is_at_limit p) _ below ∙ sym (ap (λ n. Ok (Removed n left_out)) is_named ∙ ap (λ d. Ok (Removed (tickets (named ids p.items)) d)) is_dropped)

  removed : (p : Pool) (ids : List (List ℕ)) (k : Kept) → is_at_limit p ≡ false → IsKeptOf accepts p.ledger p.items ids k → answer accepts p (Remove ids) ≡ Ok (Removed k.named k.dropped)
  removed p ids k below is = removed_as p ids k.named k.dropped below is.named is.dropped

  pub synced_as : (p : Pool) (ledger : LedgerState) (stay left_out : List ℕ) → is_at_limit p ≡ false → stay ≡ tickets (keep accepts ledger p.items) → left_out ≡ dropped accepts ledger p.items → answer accepts p (Sync ledger) ≡ Ok (Synced stay left_out)
  unfolding answer yes
  synced_as p ledger stay left_out below is_kept is_dropped =
      open_limit (is_at_limit p) _ below ∙ sym (ap (λ n. Ok (Synced n left_out)) is_kept ∙ ap (λ d. Ok (Synced (tickets (keep accepts ledger p.items)) d)) is_dropped)

  synced : (p : Pool) (ledger : LedgerState) (k : Kept) → is_at_limit p ≡ false → IsKeptOf accepts ledger p.items [] k → answer accepts p (Sync ledger) ≡ Ok (Synced k.kept k.dropped)
  synced p ledger k below is =
      synced_as p ledger k.kept k.dropped below (is.kept ∙ ap (λ items. tickets (keep accepts ledger items)) (none_named p.items)) (is.dropped ∙ ap (dropped accepts ledger) (none_named p.items))

  -- the step of a remove that isn't refused
  pub ready_removed : (h : Holding) (ids : List (List ℕ)) (k : Kept) (q : Prepared) → h.pool.changes < h.pool.limit → IsRising h.pool.items → IsKeptOf accepts h.pool.ledger h.pool.items ids k
      → q.command ≡ Remove ids → q.reply ≡ Removed k.named k.dropped → q.effect ≡ Keep k.overlay k.kept → Prepares accepts h (Remove ids) q
  ready_removed h ids k q change rising is command reply keeps =
      let yes : answer accepts h.pool (Remove ids) ≡ Ok (Removed k.named k.dropped) = removed h.pool ids k (within h.pool.limit h.pool.changes change) is in
      let left = among_kept h.pool.ledger ids h.pool.items k.kept rising is.kept in
      let leads = leads_left h.pool h.pool.ledger ids k q rising is keeps in
      record {
        command = command;
        reply = yes ∙ sym (ap Ok reply);
        leads = yes_next h.pool (Remove ids) _ yes ∙ sym leads;
        prepared = record {
          change = change;
          fits = subst (CanChange h) (sym keeps) (record { applied = is.applied ∙ sym (ap transactions left); under = is.under ∙ sym left });
          tells = leads ∙ sym (ap (λ c. told h.pool c q.reply) command ∙ ap (told h.pool (Remove ids)) reply ∙ ap (pool_upon h.pool h.pool.ledger) (apart_left h.pool.ledger ids h.pool.items k rising is));
          accepts = accepts;
          reply = ap (answer accepts h.pool) command ∙ yes ∙ sym (ap Ok reply);
        };
      }

  -- the step of a sync that isn't refused
  pub ready_synced : (h : Holding) (ledger : LedgerState) (k : Kept) (q : Prepared) → h.pool.changes < h.pool.limit → IsRising h.pool.items → IsKeptOf accepts ledger h.pool.items [] k
      → q.command ≡ Sync ledger → q.reply ≡ Synced k.kept k.dropped → q.effect ≡ Keep k.overlay k.kept → Prepares accepts h (Sync ledger) q
  ready_synced h ledger k q change rising is command reply keeps =
      let yes : answer accepts h.pool (Sync ledger) ≡ Ok (Synced k.kept k.dropped) = synced h.pool ledger k (within h.pool.limit h.pool.changes change) is in
      let left = among_kept ledger [] h.pool.items k.kept rising is.kept in
      let leads = leads_left h.pool ledger [] k q rising is keeps in
      record {
        command = command;
        reply = yes ∙ sym (ap Ok reply);
        leads = yes_next h.pool (Sync ledger) _ yes ∙ sym (leads ∙ ap (λ items. pool_upon h.pool ledger (keep accepts ledger items)) (none_named h.pool.items));
        prepared = record {
          change = change;
          fits = subst (CanChange h) (sym keeps) (record { applied = is.applied ∙ sym (ap transactions left); under = is.under ∙ sym left });
          tells = leads ∙ sym (ap (λ c. told h.pool c q.reply) command ∙ ap (told h.pool (Sync ledger)) reply ∙ ap (pool_upon h.pool ledger) (apart_synced ledger h.pool.items k rising is));
          accepts = accepts;
          reply = ap (answer accepts h.pool) command ∙ yes ∙ sym (ap Ok reply);
        };
      }

  pub full_removed : (p : Pool) (ids : List (List ℕ)) → p.limit ≤ p.changes → answer accepts p (Remove ids) ≡ Err refusals.HistoryFull
  unfolding answer
  full_removed p ids h = ap (λ b. cond b (Err refusals.HistoryFull) (Ok (reply_removed accepts ids p))) (at_limit p.limit p.changes h)

  pub full_synced : (p : Pool) (ledger : LedgerState) → p.limit ≤ p.changes → answer accepts p (Sync ledger) ≡ Err refusals.HistoryFull
  unfolding answer
  full_synced p ledger h = ap (λ b. cond b (Err refusals.HistoryFull) (Ok (reply_synced accepts ledger p))) (at_limit p.limit p.changes h)
