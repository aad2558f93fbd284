-- The law of the core.
use Rattle.std.proofs.Common.{◌≡◌, ℕ, ◌+◌, ◌-◌, Bool, true, false, cond, List, [], ◌∷◌, ◌++◌, length, take, refl, sym, ap, subst, ◌∙◌, arith}
use Rattle.std.specs.Prelude.{◌==◌, Ok, Err}
use Rattle.std.specs.Cmp.Derive.{both_true}
use Rattle.std.proofs.Math.Seq.{take-length, take-append_seam}
use Rattle.std.proofs.lemmas.Bool.{lt-ltb, eqb-false}
use Rattle.mp_rules.specs.Verifier.{Accepts}
use Rattle.mp_seqpool.specs.declared.command.Reply.{Reply}
use Rattle.mp_seqpool.specs.declared.refusal.Refusal.{Refusal}
use Rattle.mp_seqpool.specs.Command.{Command}
use Rattle.mp_seqpool.specs.Pool.{Pool}
use Rattle.mp_seqpool.specs.SlowPool.{answer}
use Rattle.mp_seqpool.specs.PoolLaws.{IsLawful}
use Rattle.mp_seqpool.proofs.Histories.{obeys}
use Rattle.mp_history.specs.Entry.{Entry}
use Rattle.mp_history.specs.Log.{commands, pool_of}
use Rattle.mp_history.specs.World.{Version, World, Event, opens, present, is_holder, has_lock, put, with_entry, after_commit, after_answer, run}
use Rattle.mp_history.specs.CoreLaw.{HasLock, IsCommit, IsAnswer, CoreLaw}
use Rattle.mp_history.proofs.Core.{push-length, IsSound, sound-opens, sound-run, log-run, later-run, own-run}

pub eqb-refl : (n : ℕ) → (n == n) ≡ true
eqb-refl n = elim (n == n) as (λ b. (n == n) ≡ b → b ≡ true) [
  | true ↦ λ _. refl
  | false ↦ λ e. absurd (eqb-false n n e refl)
] refl

locked_by : (callers : ℕ) (w : World) (caller : ℕ) → HasLock callers w caller → has_lock callers w caller ≡ true
locked_by callers w caller has = both_true (lt-ltb caller callers has.known) (ap (λ h. is_holder h caller) has.holds ∙ eqb-refl caller)

-- a permitted event has its effect
done_if : (b : Bool) (v w : World) → b ≡ true → v ≡ cond b v w
done_if b v w e = ap (λ a. cond a v w) (sym e)

less_one : (n k : ℕ) → n ≡ k + 1 → n - 1 ≡ k
less_one n k e = omega arith

without_last : (log : List Entry) (d : Entry) (n : ℕ) → n ≡ length (log ++ d ∷ []) → take (n - 1) (log ++ d ∷ []) ≡ log
without_last log d n is = ap (λ k. take k (log ++ d ∷ [])) (less_one n (length log) (is ∙ push-length log d)) ∙ take-append_seam log (d ∷ [])

all_of : (log : List Entry) (n : ℕ) → n ≡ length log → take n log ≡ log
all_of log n is = ap (λ k. take k log) is ∙ take-length log

put-own : (f : ℕ → Version) (caller : ℕ) (v : Version) → put f caller v caller ≡ v
put-own f caller v = ap (λ b. cond b v (f caller)) (eqb-refl caller)

module _ (accepts : Accepts) where
  commit-is : (callers : ℕ) (p : Pool) (w : World) (caller : ℕ) (command : Command) (reply : Reply) → IsSound accepts callers p w → answer accepts w.locked command ≡ Ok reply → IsCommit accepts p w (after_commit accepts w caller command (Ok reply)) caller command reply
  commit-is callers p w caller command reply s e =
      let d : Entry = record { caller = caller; command = command; reply = reply } in
      let v : Version = present (with_entry accepts w d) in
      let n = ap (λ (u : Version). u.number) (put-own w.held caller v) in
      record {
        entry = refl;
        number = n;
        before = ap (λ log. answer accepts (pool_of accepts p log) command) (without_last w.log d (put w.held caller v caller).number n) ∙ ap (λ q. answer accepts q command) (sym s.locked) ∙ e;
      }

  answer-is : (callers : ℕ) (p : Pool) (w : World) (caller : ℕ) (command : Command) (refusal : Refusal) → IsSound accepts callers p w → answer accepts w.locked command ≡ Err refusal → IsAnswer accepts p w (after_answer w caller (Err refusal)) caller command refusal
  answer-is callers p w caller command refusal s e =
      let n = ap (λ (u : Version). u.number) (put-own w.held caller (present w)) in
      record {
        entry = refl;
        number = n;
        same = ap (λ (u : Version). answer accepts u.state command) (put-own w.held caller (present w)) ∙ e;
        after = ap (λ log. answer accepts (pool_of accepts p log) command) (all_of w.log (put w.held caller (present w) caller).number n) ∙ ap (λ q. answer accepts q command) (sym s.locked) ∙ e;
      }

  pub core_law : (callers : ℕ) (p : Pool) (es : List Event) → IsLawful accepts p → CoreLaw accepts callers p es (run accepts callers (opens p) es)
  core_law callers p es law =
      let w : World = run accepts callers (opens p) es in
      let s : IsSound accepts callers p w = sound-run accepts callers p (opens p) es (sound-opens accepts callers p) in
      record {
        legal = s.legal;
        lawful = obeys accepts p (commands w.log) law;
        locked = s.locked;
        held = s.held;
        waiting = s.waiting;
        board = s.board;
        ever = s.ever;
        entries = log-run accepts callers (opens p) es;
        last = s.last;
        own = λ caller. (own-run accepts callers p (opens p) es caller (sound-opens accepts callers p) (record { has = tt })).has;
        growing = λ further. later-run accepts callers p w further s;
        later = log-run accepts callers w;
        commit = λ caller command reply has e. subst (λ v. IsCommit accepts p w v caller command reply)
            (ap (after_commit accepts w caller command) (sym e) ∙ done_if (has_lock callers w caller) (after_commit accepts w caller command (answer accepts w.locked command)) w (locked_by callers w caller has))
            (commit-is callers p w caller command reply s e);
        answer_told = λ caller command refusal has e. subst (λ v. IsAnswer accepts p w v caller command refusal)
            (ap (after_answer w caller) (sym e) ∙ done_if (has_lock callers w caller) (after_answer w caller (answer accepts w.locked command)) w (locked_by callers w caller has))
            (answer-is callers p w caller command refusal s e);
      }
