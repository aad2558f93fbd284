-- One more command of a list.
use Rattle.std.proofs.Common.{◌≡◌, ℕ, ◌+◌, ◌<◌, List, [], ◌∷◌, ◌++◌, length, get_or, drop, sym, ap, ◌∙◌, append_assoc}
use Rattle.std.specs.Prelude.{Result}
use Rattle.std.proofs.lemmas.List.{drop_more}
use Rattle.mp_rules.specs.Verifier.{Accepts}
use Rattle.mp_seqpool.specs.declared.refusal.Refusal.{Refusal}
use Rattle.mp_seqpool.specs.declared.command.Reply.{Reply}
use Rattle.mp_seqpool.specs.declared.command.Command.{Command}
use Rattle.mp_seqpool.specs.Inside.Command.{command_of, commands_of}
use Rattle.mp_seqpool.specs.Pool.{Pool}
use Rattle.mp_seqpool.specs.SlowPool.{answer, next, answers, pool_after}

first : (cs : List Command) (n : ℕ) (c : Command) → n < length cs → c ≡ get_or cs n c → drop n cs ≡ c ∷ drop (n + 1) cs
first cs n c lt is = drop_more cs n c lt ∙ ap (λ x. x ∷ drop (n + 1) cs) (sym is)

module _ (accepts : Accepts) where
  pub answered_one : (p : Pool) (cs : List Command) (n : ℕ) (c : Command) (before : List (Result Reply Refusal)) → n < length cs → c ≡ get_or cs n c
      → before ++ answers accepts p (commands_of (drop n cs))
      ≡ (before ++ answer accepts p (command_of c) ∷ []) ++ answers accepts (next accepts p (command_of c)) (commands_of (drop (n + 1) cs))
  answered_one p cs n c before lt is =
      ap (λ l. before ++ answers accepts p (commands_of l)) (first cs n c lt is)
      ∙ sym (append_assoc before (answer accepts p (command_of c) ∷ []) (answers accepts (next accepts p (command_of c)) (commands_of (drop (n + 1) cs))))

  pub led_one : (p : Pool) (cs : List Command) (n : ℕ) (c : Command) → n < length cs → c ≡ get_or cs n c
      → pool_after accepts p (commands_of (drop n cs)) ≡ pool_after accepts (next accepts p (command_of c)) (commands_of (drop (n + 1) cs))
  led_one p cs n c lt is = ap (λ l. pool_after accepts p (commands_of l)) (first cs n c lt is)
