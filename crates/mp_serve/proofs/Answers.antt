-- Answers to lines that aren't stored, and what is written of an answer.
use Rattle.std.proofs.Common.{◌≡◌, ℕ, ◌<◌, ◌⊎◌, List, length, cond, refl, sym, ap, subst, ◌∙◌, lt-ltb, inl, inr, arith}
use Rattle.std.specs.Prelude.{Option, None, Some, Result, Ok, Err, OnOk, OnErr, option_and_then}
use Rattle.std.specs.Io.KnownBytes.{Appends, Keeps}
use Rattle.std.proofs.lemmas.List.{take_all}
use Rattle.mp_text.specs.Output.{AppendsFront}
use Rattle.mp_serve.specs.declared.conversation.Conversation.{Conversation}
use Rattle.mp_serve.specs.Ask.{longest, within, ask_within, ask_of}
use Rattle.mp_serve.specs.Texts.{no_memory_text}
use Rattle.mp_serve.specs.Talk.{Step, take as taken_by, line_step}
use Rattle.mp_serve.specs.Served.{IsBadLine, IsTold, IsAnswer, AppendsUpTo}

-- a line of more than `longest` bytes is bad
pub too_long : (s : Conversation) (line : List ℕ) → longest < length line → line_step s line ≡ None
unfolding line_step ask_of
too_long s line lt = ap (λ b. option_and_then (taken_by s) (cond b None (option_and_then (within s.session.names s.most_names) (ask_within s.session.names line)))) (lt-ltb longest (length line) lt)

pub answered_long : (n : ℕ) (s : Conversation) (line text : List ℕ) → longest < length line
    → IsBadLine n text ⊎ (text ≡ no_memory_text) → IsAnswer n s line text s
answered_long n s line text lt (inl bad) = inl (subst (λ (step : Step). IsTold n s step text s) (sym (too_long s line lt)) (bad, refl))
answered_long n s line text lt (inr none) = inr (none, refl)

pub on_ok : {X E : Type 0} (r : Result X E) (P : Type 0) → P → OnOk r P
on_ok (Ok x) P p = p
on_ok (Err e) P p = tt

pub on_err : {X E : Type 0} (r : Result X E) (P : Type 0) → P → OnErr r P
on_err (Ok x) P p = tt
on_err (Err e) P p = p

-- a proper prefix is a prefix
pub of_front : (old new : Option (List ℕ)) (bytes : List ℕ) → AppendsFront old new bytes → AppendsUpTo old new bytes
of_front old new bytes (taken, lt, w) = (taken, w)

pub appends-kept : (a b c : Option (List ℕ)) (bytes : List ℕ) → Appends a b bytes → Keeps b c → Appends a c bytes
appends-kept None b c bytes p k = tt
appends-kept (Some a) None c bytes p k = absurd p
appends-kept (Some a) (Some b) None bytes p k = absurd k
appends-kept (Some a) (Some b) (Some c) bytes p k = k ∙ p

pub of_all : (a b c : Option (List ℕ)) (bytes : List ℕ) → Appends a b bytes → Keeps b c → AppendsUpTo a c bytes
of_all a b c bytes p k = (length bytes, subst (Appends a c) (sym (take_all (length bytes) bytes (omega arith))) (appends-kept a b c bytes p k))
