-- States along one history.
use Rattle.std.proofs.Common.{◌≡◌, ℕ, ◌+◌, ◌≤◌, List, [], ◌∷◌, ◌++◌, length, cond, take, refl, sym, ap, subst, ◌∙◌, arith}
use Rattle.std.specs.Prelude.{is_ok, Ok}
use Rattle.std.proofs.Math.Seq.{take-length, take-append_seam}
use Rattle.std.proofs.lemmas.List.{map-append}
use Rattle.mp_rules.specs.Verifier.{Accepts}
use Rattle.mp_seqpool.specs.declared.command.Reply.{Reply}
use Rattle.mp_seqpool.specs.Command.{Command, Submit, Remove, Sync}
use Rattle.mp_seqpool.specs.Pool.{Pool}
use Rattle.mp_seqpool.specs.SlowPool.{answer, done, next, pool_after}
use Rattle.mp_seqpool.specs.PoolLaws.{Lasts}
use Rattle.mp_seqpool.proofs.Histories.{obeys}
use Rattle.mp_history.specs.Entry.{Entry}
use Rattle.mp_history.specs.Log.{Log, Begins, commands, IsLegal, IsLegalLog, pool_of, state_after}

shorter : (es rest : List Entry) → length (commands es) ≤ length (commands (es ++ rest))
shorter [] rest = omega arith
shorter (a ∷ es) rest = let h = shorter es rest in omega arith

module _ (accepts : Accepts) where
  done_counts : (p : Pool) (c : Command) → (done accepts p c).changes ≡ p.changes + 1
  done_counts p (Submit t) = refl
  done_counts p (Remove ids) = refl
  done_counts p (Sync ledger) = refl

  next_counts : (p : Pool) (c : Command) (r : Reply) → answer accepts p c ≡ Ok r → (next accepts p c).changes ≡ p.changes + 1
  unfolding next
  next_counts p c r e = ap (λ a. (cond (is_ok a) (done accepts p c) p).changes) e ∙ done_counts p c

  counts : (callers : ℕ) (p : Pool) (log : List Entry) → IsLegal accepts callers p log → (pool_of accepts p log).changes ≡ p.changes + length log
  counts callers p [] legal = omega arith
  counts callers p (e ∷ es) legal =
      let n = next_counts p e.command e.reply legal.0.true_reply in
      counts callers (next accepts p e.command) es legal.1 ∙ omega (arith, n)

  -- one change for each entry
  pub number_of : (callers : ℕ) (log : Log) → IsLegalLog accepts callers log → (state_after accepts log).changes ≡ length log.entries
  number_of callers log legal = let zero_changes = legal.unchanged in counts callers log.opening log.entries legal.legal ∙ omega (arith, zero_changes)

  first_part : (es rest : List Entry) → take (length (commands es)) (commands (es ++ rest)) ≡ commands es
  first_part es rest = ap (take (length (commands es))) (map-append (λ (e : Entry). e.command) es rest) ∙ take-append_seam (commands es) (commands rest)

  -- what a later state has under a ticket that the earlier one had given, the earlier one has too
  pub lasts : (callers : ℕ) (a b : Log) → IsLegalLog accepts callers b → Begins a b → Lasts (state_after accepts a) (state_after accepts b)
  lasts callers a b legal begins =
      let p : Pool = b.opening in
      let es : List Entry = a.entries in
      let rest : List Entry = begins.entries.0 in
      let m : ℕ = length (commands es) in
      let cs : List Command = commands (es ++ rest) in
      let law = (obeys accepts p cs legal.lawful).lasting m (length cs) (shorter es rest) in
      let of_one : Lasts (pool_of accepts p es) (pool_of accepts p (es ++ rest)) =
      subst (λ ds. Lasts (pool_after accepts p ds) (pool_after accepts p cs)) (first_part es rest)
      (subst (λ ds. Lasts (pool_after accepts p (take m cs)) (pool_after accepts p ds)) (take-length cs) law) in
      subst (λ q. Lasts (pool_of accepts q es) (pool_of accepts p b.entries)) (sym begins.opening)
      (subst (λ ds. Lasts (pool_of accepts p es) (pool_of accepts p ds)) begins.entries.1 of_one)
