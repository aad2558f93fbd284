-- The states at the points of a history.
use Rattle.std.proofs.Common.{◌≡◌, ◌≢◌, ℕ, List, ◌++◌, length, refl, sym, ap, ap₂, subst, ◌∙◌}
use Rattle.std.specs.Prelude.{Ok, Err, Some}
use Rattle.mp_rules.specs.Verifier.{Accepts}
use Rattle.mp_seqpool.specs.declared.refusal.Refusal as pool
use Rattle.mp_seqpool.specs.declared.refusal.Refusal.TheVariants as refusals
use Rattle.mp_seqpool.specs.Command.{Command}
use Rattle.mp_seqpool.specs.SlowPool.{answer}
use Rattle.mp_seqpool.specs.SlowPool as slow
use Rattle.mp_history.specs.Entry.{Entry}
use Rattle.mp_history.specs.Log.{Log, Begins, IsLegalLog, entered, last_of, state_after}
use Rattle.mp_mempool.specs.Pass.{Pass, IsOwn}
use Rattle.mp_mempool.specs.Seen.{continued}
use Rattle.mp_mempool.proofs.Seeing.{goes_on}
use Rattle.mp_mempool.specs.declared.refusal.Refusal.TheVariants.{Pool}
use Rattle.mp_mempool.specs.Answers.{IsEntered, IsRefusedAt, IsRefused, with_entry}
use Rattle.mp_mempool.proofs.Entries.{others}

module _ (accepts : Accepts) where
  -- what a receipt guarantees
  pub is_entered : (callers : ℕ) (before after : Pass) (log : Log) (c : Command) (place : ℕ) (e : Entry)
      → IsOwn before → Begins before.front log → last_of before.caller log.entries ≡ before.last
      → IsLegalLog accepts callers (entered log e) → e.caller ≡ before.caller → e.command ≡ c
      → answer accepts (state_after accepts log) c ≡ Ok e.reply → place ≡ length log.entries
      → after ≡ record before { last = Some place; front = entered log e }
      → IsEntered accepts callers before c place e after
  is_entered callers before after log c place e own b known legal caller asked reply place_is is =
      let rest : List Entry = b.entries.0 in
      let on : log ≡ continued before.front rest = goes_on before.front log b in
      let where_is : place ≡ length (before.front.entries ++ rest) = place_is ∙ ap (λ l. length l.entries) on in
      let passed : after ≡ with_entry before rest e = is ∙ ap₂ (λ l p. record before { last = Some p; front = entered l e }) on where_is in
      record {
        others = rest;
        by_others = others before.caller before.last before.front log own b known;
        pass = passed;
        legal = subst (IsLegalLog accepts callers) (sym (ap (λ p. p.front) is)) legal;
        caller = caller;
        asked = asked;
        reply = subst (λ l. answer accepts (state_after accepts l) c ≡ Ok e.reply) on reply;
        at = where_is;
      }

  -- what a refusal of the slow pool guarantees
  pub is_refused : (callers : ℕ) (before after : Pass) (log : Log) (c : Command) (refusal : pool.Refusal)
      → IsOwn before → Begins before.front log → last_of before.caller log.entries ≡ before.last
      → IsLegalLog accepts callers log → answer accepts (state_after accepts log) c ≡ Err refusal
      → after ≡ record before { front = log }
      → IsRefusedAt accepts callers before c refusal after
  is_refused callers before after log c refusal own b known legal refused is =
      let rest : List Entry = b.entries.0 in
      let on : log ≡ continued before.front rest = goes_on before.front log b in
      record {
        others = rest;
        by_others = others before.caller before.last before.front log own b known;
        pass = is ∙ ap (λ l. record before { front = l }) on;
        legal = subst (IsLegalLog accepts callers) (sym (ap (λ p. p.front) is)) legal;
        refused = subst (λ l. answer accepts (state_after accepts l) c ≡ Err refusal) (sym (ap (λ p. p.front) is)) refused;
      }

  -- Refusals of calls.

  -- another refusal, at the whole history
  pub refusal_told : (N : Type 0) (callers : ℕ) (before after : Pass) (log : Log) (r : pool.Refusal) (c : Command) → r ≢ refusals.NoMemory
      → IsOwn before → Begins before.front log → last_of before.caller log.entries ≡ before.last → IsLegalLog accepts callers log → after ≡ record before { front = log }
      → slow.IsRefused accepts (state_after accepts log) c r → IsRefused accepts callers {N = N} before c (Pool r) after
  refusal_told N callers before after log refusals.NoMemory c other own b known legal is refused = absurd (other refl)
  refusal_told N callers before after log refusals.HistoryFull c other own b known legal is refused = is_refused callers before after log c refusals.HistoryFull own b known legal refused is
  refusal_told N callers before after log refusals.TicketsSpent c other own b known legal is refused = is_refused callers before after log c refusals.TicketsSpent own b known legal refused is
  refusal_told N callers before after log (refusals.AlreadyInPool k) c other own b known legal is refused = is_refused callers before after log c (refusals.AlreadyInPool k) own b known legal refused is
  refusal_told N callers before after log (refusals.Full need free) c other own b known legal is refused = is_refused callers before after log c (refusals.Full need free) own b known legal refused is
  refusal_told N callers before after log (refusals.Invalid fault) c other own b known legal is refused = is_refused callers before after log c (refusals.Invalid fault) own b known legal refused is
