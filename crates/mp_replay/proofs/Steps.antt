-- How far a replay has come, and that a wrong step can't be a right one.
use Rattle.std.proofs.Common.{◌≡◌, ℕ, ◌+◌, List, [], ◌∷◌, ◌++◌, length, refl, sym, ap, ap₂, subst, ◌∙◌, arith, append_assoc, append-nil, length-append, Some, inl, inr}
use Rattle.std.specs.Prelude.{Result, Ok, Err, IfErr, IsErrAnd}
use Rattle.mp_text.specs.Lines.{lines_of}
use Rattle.mp_serve.specs.declared.conversation.Conversation.{Conversation}
use Rattle.mp_replay.specs.declared.fault.ReplayFault.{ReplayFault}
use Rattle.mp_replay.specs.declared.fault.ReplayFault.TheVariants.{NoMemory, BadLine, NoAnswer, WrongAnswer, WrongPlace, BadCaller}
use Rattle.mp_replay.specs.ServedHistory.{Replayed, replayed, replay_line, Records, IsStep, AreSteps, IsServedHistory}
use Rattle.mp_replay.specs.ReplayFault.{IsMisrecorded, HasWrongAnswer, IsWrongStep, IsWrongThere, IsReplayFault}
use Rattle.mp_replay.proofs.EntryLines.{one_number}

-- ---- progress

pub steps-more : (s : Replayed) (lines : List (List ℕ)) (t : Replayed) (line answer : List ℕ) (u : Replayed)
    → AreSteps s lines t → IsStep t line answer u → AreSteps s (lines ++ line ∷ answer ∷ []) u
steps-more s [] t line answer u same is = (u, subst (λ (v : Replayed). IsStep v line answer u) same is, refl)
steps-more s (l ∷ []) t line answer u are is = absurd are
steps-more s (l ∷ a ∷ ls) t line answer u (v, step, more) is = (v, step, steps-more v ls t line answer u more is)

-- Steps lead to this conversation and number of entries. These lines are left, of which the first has this number.
pub record Progress (start : Conversation) (all : List (List ℕ)) (c : Conversation) (entries number : ℕ) (left : List (List ℕ)) : Type 0 where
  pub steps : List (List ℕ)
  pub whole : all ≡ steps ++ left
  pub right : AreSteps (replayed start 0) steps (replayed c entries)
  pub count : number ≡ length steps + 1

pub begins : (start : Conversation) (all : List (List ℕ)) → Progress start all start 0 1 all
begins start all = record { steps = []; whole = refl; right = refl; count = refl }

module _ (start : Conversation) (all : List (List ℕ)) (c : Conversation) (entries number : ℕ) (left : List (List ℕ)) where
  -- one more step
  pub goes_on : (line answer : List ℕ) (rest : List (List ℕ)) (d : Conversation) (more : ℕ) → Progress start all c entries number left
      → left ≡ line ∷ answer ∷ rest → IsStep (replayed c entries) line answer (replayed d more) → Progress start all d more (number + 2) rest
  goes_on line answer rest d more p is step = record {
    steps = p.steps ++ line ∷ answer ∷ [];
    whole = p.whole ∙ ap (λ l. p.steps ++ l) is ∙ sym (append_assoc p.steps (line ∷ answer ∷ []) rest);
    right = steps-more (replayed start 0) p.steps (replayed c entries) line answer (replayed d more) p.right step;
    count = let n = p.count in let l = length-append p.steps (line ∷ answer ∷ []) in omega (arith, n, l);
  }

module _ (start : Conversation) (text : List ℕ) (c : Conversation) (entries number : ℕ) (left : List (List ℕ)) where
  -- no line is left
  pub legal : Progress start (lines_of text) c entries number left → left ≡ [] → IsServedHistory start text
  legal p none = (
    replayed c entries,
    subst (λ l. AreSteps (replayed start 0) l (replayed c entries)) (sym (p.whole ∙ ap (λ l. p.steps ++ l) none ∙ append-nil p.steps)) p.right,
  )

  -- the next step is wrong
  pub faulty : (lines : List (List ℕ)) (fault : ReplayFault) → Progress start (lines_of text) c entries number left → left ≡ lines
      → IsWrongThere (replayed c entries) number lines fault → IsReplayFault start text fault
  faulty lines fault p is wrong = record {
    steps = p.steps;
    left = lines;
    whole = p.whole ∙ ap (λ l. p.steps ++ l) is;
    before = replayed c entries;
    right = p.right;
    wrong = subst (λ n. IsWrongThere (replayed c entries) n lines fault) p.count wrong;
  }

-- ---- what an exit says of its fault

pub passed_on : {A : Type 0} (r : Result A ReplayFault) (P : ReplayFault → Type 0) (fault : ReplayFault) → IsErrAnd r (λ e. e ≡ fault) → P fault → IfErr r P
passed_on (Ok x) P fault is holds = tt
passed_on (Err e) P fault is holds = subst P (sym is) holds

wrong_answer_at : (s : Replayed) (n : ℕ) (line answer text : List ℕ) (c : Conversation) (fault : ReplayFault) → replay_line s.conversation line ≡ Some (c, text)
    → IsMisrecorded (n + 1) s.entries text answer fault → IsWrongStep s n line answer fault
wrong_answer_at s n line answer text c NoMemory is mis = tt
wrong_answer_at s n line answer text c (BadLine at reason) is mis = absurd mis.why
wrong_answer_at s n line answer text c (NoAnswer at) is mis = absurd mis.why
wrong_answer_at s n line answer text c (WrongAnswer at) is mis = (c, text, is, mis)
wrong_answer_at s n line answer text c (WrongPlace at) is mis = (c, text, is, mis)
wrong_answer_at s n line answer text c (BadCaller at) is mis = (c, text, is, mis)

-- the line was asked, and the answer is wrong
pub wrong_answer : (s : Replayed) (n : ℕ) (line answer text : List ℕ) (c : Conversation) (r : Result ℕ ReplayFault) → replay_line s.conversation line ≡ Some (c, text)
    → IfErr r (IsMisrecorded (n + 1) s.entries text answer) → IfErr r (IsWrongStep s n line answer)
wrong_answer s n line answer text c (Ok more) is mis = tt
wrong_answer s n line answer text c (Err fault) is mis = wrong_answer_at s n line answer text c fault is mis

-- ---- a wrong step

abbrev Told : Type 0
Told = Conversation × List ℕ

same_told : (p q : Told) → Some p ≡ Some q → p ≡ q
same_told p q is = Prim.cc

one_step : (s : Replayed) (line answer : List ℕ) (t u : Replayed) → IsStep s line answer t → IsStep s line answer u → t ≡ u
one_step s line answer t u (text, is, records) (other, also, again) =
    let told : (t.conversation, text) ≡ (u.conversation, other) = same_told (t.conversation, text) (u.conversation, other) (sym is ∙ also) in
    let texts : text ≡ other = ap (λ (p : Told). p.1) told in
    ap₂ replayed (ap (λ (p : Told). p.0) told)
    (one_number s.entries other answer t.entries u.entries (subst (λ x. Records s.entries x answer t.entries) texts records) again)

not_recorded : (s : Replayed) (n : ℕ) (line answer : List ℕ) (fault : ReplayFault) (t : Replayed) → HasWrongAnswer s n line answer fault → IsStep s line answer t → ⊥
not_recorded s n line answer fault t (c, text, is, mis) (other, also, records) =
    let told : (c, text) ≡ (t.conversation, other) = same_told (c, text) (t.conversation, other) (sym is ∙ also) in
    go (subst (λ x. Records s.entries x answer t.entries) (sym (ap (λ (p : Told). p.1) told)) records)
  where
    go : Records s.entries text answer t.entries → ⊥
    go (inl (same, so)) = mis.no_answer same
    go (inr (entry, so)) = mis.no_entry entry

not_step : (s : Replayed) (n : ℕ) (line answer : List ℕ) (fault : ReplayFault) (t : Replayed) → IsWrongStep s n line answer fault → IsStep s line answer t → fault ≡ NoMemory
not_step s n line answer NoMemory t wrong step = refl
not_step s n line answer (BadLine at reason) t (is, none) (text, some, records) = absurd (Prim.cc)
not_step s n line answer (NoAnswer at) t wrong step = absurd wrong
not_step s n line answer (WrongAnswer at) t wrong step = absurd (not_recorded s n line answer (WrongAnswer at) t wrong step)
not_step s n line answer (WrongPlace at) t wrong step = absurd (not_recorded s n line answer (WrongPlace at) t wrong step)
not_step s n line answer (BadCaller at) t wrong step = absurd (not_recorded s n line answer (BadCaller at) t wrong step)

not_there : (s : Replayed) (n : ℕ) (lines : List (List ℕ)) (fault : ReplayFault) (t : Replayed) → IsWrongThere s n lines fault → AreSteps s lines t → fault ≡ NoMemory
not_there s n [] fault t wrong are = absurd wrong
not_there s n (line ∷ []) fault t wrong are = absurd are
not_there s n (line ∷ answer ∷ lines) fault t wrong (u, step, more) = not_step s n line answer fault u wrong step

not_behind : (s : Replayed) (steps left : List (List ℕ)) (before : Replayed) (n : ℕ) (fault : ReplayFault) (t : Replayed) → AreSteps s steps before
    → IsWrongThere before n left fault → AreSteps s (steps ++ left) t → fault ≡ NoMemory
not_behind s [] left before n fault t same wrong are =
    not_there before n left fault t wrong (subst (λ (v : Replayed). AreSteps v left t) (sym same) are)
not_behind s (l ∷ []) left before n fault t right wrong are = absurd right
not_behind s (l ∷ a ∷ ls) left before n fault t (v, step, more) wrong (w, again, rest) =
    not_behind v ls left before n fault t more wrong
    (subst (λ (x : Replayed). AreSteps x (ls ++ left) t) (one_step s l a w v again step) rest)

-- a text with a fault is no legal history
pub illegal : (start : Conversation) (text : List ℕ) (fault : ReplayFault) → IsReplayFault start text fault → IsServedHistory start text → fault ≡ NoMemory
illegal start text fault f (t, are) =
    not_behind (replayed start 0) f.steps f.left f.before (length f.steps + 1) fault t f.right f.wrong
    (subst (λ l. AreSteps (replayed start 0) l t) f.whole are)
