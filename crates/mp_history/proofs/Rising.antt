-- Tickets are strictly increasing through the histories of pools, each of which takes over from the one before.
use Rattle.std.proofs.Common.{◌≡◌, ℕ, zero, suc, ◌+◌, ◌<◌, ◌≤◌, List, [], ◌∷◌, ◌++◌, length, refl, sym, ap, subst, ◌∙◌, arith}
use Rattle.std.specs.Prelude.{All, Contains, Ok, slice_index}
use Rattle.std.specs.List.{flat_map}
use Rattle.std.specs.List.Sorted.{IsStrictlyIncreasing}
use Rattle.std.proofs.lemmas.List.{append-nil}
use Rattle.std.proofs.lemmas.List.Elements.{All-nil, All-cons, All-weaker, All-contains, All-contains_itself}
use Rattle.std.proofs.Math.Seq.{take-length}
use Rattle.mp_tx.specs.Transaction.{Transaction}
use Rattle.mp_rules.specs.Verifier.{Accepts}
use Rattle.mp_seqpool.specs.declared.command.Reply.{Reply}
use Rattle.mp_seqpool.specs.declared.command.Reply.TheVariants.{Accepted, Removed, Synced}
use Rattle.mp_seqpool.specs.Pool.{Pool}
use Rattle.mp_seqpool.specs.Config.{renewed}
use Rattle.mp_seqpool.specs.SlowPool.{next, pool_after}
use Rattle.mp_seqpool.specs.PoolLaws.{IsLawful, Lasts}
use Rattle.mp_seqpool.proofs.Histories.{lawful-next, obeys}
use Rattle.mp_history.specs.Entry.{Entry}
use Rattle.mp_history.specs.Log.{Log, IsLegal, IsLegalLog, commands, pool_of, state_after}
use Rattle.mp_history.specs.Successors.{ticket_in, given, AreSuccessors, SuccessorLaw}

-- ---- lists that are strictly increasing, from above one number up to another

abbrev Rise : ℕ → List ℕ → ℕ → Type 0
Rise a [] b = a ≤ b
Rise a (t ∷ ts) b = (a < t) × Rise t ts b

lower : (a c : ℕ) (ts : List ℕ) (b : ℕ) → c ≤ a → Rise a ts b → Rise c ts b
lower a c [] b le rise = omega arith
lower a c (t ∷ ts) b le rise = let lt = rise.0 in (omega arith, rise.1)

joined : (a : ℕ) (ts : List ℕ) (b : ℕ) (us : List ℕ) (c : ℕ) → Rise a ts b → Rise b us c → Rise a (ts ++ us) c
joined a [] b us c rise more = lower b a us c rise more
joined a (t ∷ ts) b us c rise more = (rise.0, joined t ts b us c rise.1 more)

increasing : (a : ℕ) (ts : List ℕ) (b : ℕ) → Rise a ts b → IsStrictlyIncreasing ts
increasing a [] b rise k lt = absurd (omega arith)
increasing a (t ∷ []) b rise k lt = absurd (omega arith)
increasing a (t ∷ u ∷ ts) b rise zero lt = rise.1.0
increasing a (t ∷ u ∷ ts) b rise (suc k) lt = subst (λ n. slice_index (u ∷ ts) k < slice_index (t ∷ u ∷ ts) n) (moved k) (increasing t (u ∷ ts) b rise.1 k (omega arith))
  where
    moved : (n : ℕ) → suc (n + 1) ≡ suc n + 1
    moved n = omega arith

-- ---- the tickets of one history

itself : (n : ℕ) → n ≤ n
itself n = omega arith

-- one more reply before the others
replied : (a n b : ℕ) (r : Reply) (ts : List ℕ) → a ≤ n → ((k : ℕ) → r ≡ Accepted k → (k ≡ a + 1) × (n ≡ k)) → Rise n ts b → Rise a (ticket_in r ++ ts) b
replied a n b (Accepted k) ts le gives rise =
    let is = gives k refl in
    let first = is.0 in (omega arith, subst (λ m. Rise m ts b) is.1 rise)
replied a n b (Removed named dropped) ts le gives rise = lower n a ts b le rise
replied a n b (Synced kept dropped) ts le gives rise = lower n a ts b le rise

contained : (p q r : Pool) → Lasts p q → Lasts q r → Lasts p r
contained p q r one two =
    let low = one.last in
    let high = two.last in
    record {
      last = omega arith;
      kept = All-weaker (λ i. i.0 ≤ q.last → Contains q.items i) (λ i. i.0 ≤ p.last → Contains p.items i)
          (λ i there le. All-contains (λ (j : ℕ × Transaction). j.0 ≤ p.last → Contains p.items j) q.items i one.kept (there (omega arith)) le) r.items two.kept;
    }

module _ (accepts : Accepts) where
  -- a history leaves what was there, and gives only later tickets
  lasting : (p : Pool) (es : List Entry) → IsLawful accepts p → Lasts p (pool_of accepts p es)
  lasting p es law =
      subst (λ cs. Lasts p (pool_after accepts p cs)) (take-length (commands es)) ((obeys accepts p (commands es) law).lasting 0 (length (commands es)) (omega arith))

  rising : (callers : ℕ) (p : Pool) (es : List Entry) → IsLawful accepts p → IsLegal accepts callers p es → Rise p.last (flat_map (λ e. ticket_in e.reply) es) (pool_of accepts p es).last
  rising callers p [] law legal = itself p.last
  rising callers p (e ∷ es) law legal =
      let q : Pool = next accepts p e.command in
      let one = obeys accepts p (e.command ∷ []) law in
      replied p.last q.last (pool_of accepts q es).last e.reply (flat_map (λ d. ticket_in d.reply) es) (one.lasting 0 1 (omega arith)).last
      (λ k is. (obeys accepts p [] law).next_ticket 0 e.command k (legal.0.true_reply ∙ ap (λ r. Ok r) is))
      (rising callers q es (lawful-next accepts p e.command law) legal.1)

  -- ---- several histories

  -- the state after the last of them
  abbrev last_state : Log → List Log → Pool
  last_state log [] = state_after accepts log
  last_state log (later ∷ logs) = last_state later logs

  all_rise : (callers : ℕ) (log : Log) (logs : List Log) → IsLegalLog accepts callers log → AreSuccessors accepts log logs → Rise log.opening.last (flat_map given (log ∷ logs)) (last_state log logs).last
  all_rise callers log [] legal follow =
      subst (λ ts. Rise log.opening.last ts (state_after accepts log).last) (sym (append-nil (given log))) (rising callers log.opening log.entries legal.lawful legal.legal)
  all_rise callers log (later ∷ logs) legal follow =
      joined log.opening.last (given log) (state_after accepts log).last (flat_map given (later ∷ logs)) (last_state later logs).last (rising callers log.opening log.entries legal.lawful legal.legal)
      (subst (λ n. Rise n (flat_map given (later ∷ logs)) (last_state later logs).last) (ap (λ (p : Pool). p.last) follow.0.opening) (all_rise follow.0.callers later logs follow.0.legal follow.1))

  all_last : (p : Pool) (log : Log) (logs : List Log) → Lasts p (state_after accepts log) → AreSuccessors accepts log logs → All (λ later. Lasts p (state_after accepts later)) logs
  all_last p log [] lasts follow = All-nil (λ later. Lasts p (state_after accepts later))
  all_last p log (later ∷ logs) lasts follow =
      let opened : Lasts p (renewed follow.0.limit (state_after accepts log)) = record { last = lasts.last; kept = lasts.kept } in
      let more = contained p later.opening (state_after accepts later) (subst (Lasts p) (sym follow.0.opening) opened) (lasting later.opening later.entries follow.0.legal.lawful) in
      All-cons (λ l. Lasts p (state_after accepts l)) later logs more (all_last p later logs more follow.1)

  same : (p : Pool) → Lasts p p
  same p = record { last = itself p.last; kept = All-weaker (Contains p.items) (λ i. i.0 ≤ p.last → Contains p.items i) (λ i there le. there) p.items (All-contains_itself p.items) }

  pub successor_law : (callers : ℕ) (log : Log) (logs : List Log) → IsLegalLog accepts callers log → AreSuccessors accepts log logs → SuccessorLaw accepts log logs
  successor_law callers log logs legal follow = record {
    tickets = increasing log.opening.last (flat_map given (log ∷ logs)) (last_state log logs).last (all_rise callers log logs legal follow);
    lasts = all_last (state_after accepts log) log logs (same (state_after accepts log)) follow;
  }
