-- The answer to a line, by what it asks.
use Rattle.std.proofs.Common.{◌≡◌, ℕ, ◌<◌, ◌⊎◌, true, false, cond, List, length, inl, inr, refl, sym, ap, subst, ◌∙◌, lt-ltb}
use Rattle.std.specs.Prelude.{Option, None, Some, option_and_then, Result, Ok, Err, IfOk}
use Rattle.mp_rules.specs.Verifier.{Accepts}
use Rattle.mp_names.specs.Names.{Names}
use Rattle.mp_serve.specs.Ask.{Ask, longest, within, ask_within, ask_of}
use Rattle.mp_serve.specs.declared.answer.Answer.{Answer}
use Rattle.mp_serve.specs.Inside.Answer.{text_of}
use Rattle.mp_serve.specs.Texts.{no_memory_text}
use Rattle.mp_serve.specs.Served.{IsBadLine}
use Rattle.mp_clients.specs.declared.conversation.Conversation.{Conversation}
use Rattle.mp_clients.specs.Asking.{may_ask, allowed}
use Rattle.mp_clients.specs.Answers.{IsUnchanged, IsHeard, IsAnswer}

long_line : (names : Names) (most : ℕ) (line : List ℕ) → longest < length line → ask_of names most line ≡ None
unfolding ask_of
long_line names most line lt = ap (λ b. cond b None (option_and_then (within names most) (ask_within names line))) (lt-ltb longest (length line) lt)

module _ {N : Type 0} (accepts : Accepts) (callers : ℕ) (c : Conversation N) where
  abbrev Heard : Option Ask → List ℕ → Conversation N → Type 0
  Heard o text u = IsHeard accepts callers c o text u

  -- the line isn't in the language
  pub bad_line : (line text : List ℕ) → ask_of c.names c.most_names line ≡ None → IsBadLine c.line text ⊎ (text ≡ no_memory_text) → IsAnswer accepts callers c line text c
  bad_line line text e is = subst (λ (o : Option Ask). Heard (option_and_then (allowed c.client.pass.caller) o) text c) (sym e) (is, refl)

  pub too_long : (line text : List ℕ) → longest < length line → IsBadLine c.line text ⊎ (text ≡ no_memory_text) → IsAnswer accepts callers c line text c
  too_long line text lt is = bad_line line text (long_line c.names c.most_names line lt) is

  -- the line asks this
  pub asked_line : (line text : List ℕ) (ask : Ask) (u : Conversation N) → ask_of c.names c.most_names line ≡ Some ask → Heard (allowed c.client.pass.caller ask) text u → IsAnswer accepts callers c line text u
  asked_line line text ask u e is = subst (λ (o : Option Ask). Heard (option_and_then (allowed c.client.pass.caller) o) text u) (sym e) is

  pub asked_lines : {F : Type 0} (line : List ℕ) (ask : Ask) (u : Conversation N) → ask_of c.names c.most_names line ≡ Some ask → (r : Result Answer F) → IfOk r (λ a. Heard (allowed c.client.pass.caller ask) (text_of a) u)
      → IfOk r (λ a. IsAnswer accepts callers c line (text_of a) u)
  asked_lines line ask u e (Ok a) is = asked_line line (text_of a) ask u e is
  asked_lines line ask u e (Err f) is = tt

  -- an allocation failed
  unheard : (o : Option Ask) → Heard o no_memory_text c
  unheard None = (inr refl, refl)
  unheard (Some ask) = inr (inr (refl, inl refl))

  pub no_answer : (line text : List ℕ) → text ≡ no_memory_text → IsAnswer accepts callers c line text c
  no_answer line text e = subst (λ t. IsAnswer accepts callers c line t c) (sym e) (unheard (option_and_then (allowed c.client.pass.caller) (ask_of c.names c.most_names line)))

  module _ (ask : Ask) (text : List ℕ) where
    -- the conversation may not ask this
    pub heard_forbidden : may_ask c.client.pass.caller ask ≡ false → IsBadLine c.line text ⊎ (text ≡ no_memory_text) → Heard (allowed c.client.pass.caller ask) text c
    heard_forbidden e is = subst (λ b. Heard (cond b (Some ask) None) text c) (sym e) (is, refl)

    pub heard : (u : Conversation N) → may_ask c.client.pass.caller ask ≡ true → Heard (Some ask) text u → Heard (allowed c.client.pass.caller ask) text u
    heard u e is = subst (λ b. Heard (cond b (Some ask) None) text u) (sym e) is

    pub heard_nothing : (u : Conversation N) → may_ask c.client.pass.caller ask ≡ true → text ≡ no_memory_text → IsUnchanged accepts callers c u → Heard (allowed c.client.pass.caller ask) text u
    heard_nothing u e none is = heard u e (inr (inr (none, is)))
