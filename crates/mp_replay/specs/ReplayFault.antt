-- Why a text isn't a legal history.
use Rattle.std.specs.Prelude.{◌≡◌, ℕ, ◌+◌, ◌<◌, List, [], ◌∷◌, ◌++◌, codes, length, Option, None, Some}
use Rattle.mp_text.specs.Lines.{lines_of}
use Rattle.mp_names.specs.declared.reason.Reason.{Reason}
use Rattle.mp_serve.specs.declared.conversation.Conversation.{Conversation}
use Rattle.mp_replay.specs.declared.fault.ReplayFault.{ReplayFault}
use Rattle.mp_replay.specs.declared.fault.ReplayFault.TheVariants.{NoMemory, BadLine, NoAnswer, WrongAnswer, WrongPlace, BadCaller}
use Rattle.mp_replay.specs.ServedHistory.{Replayed, replayed, replay_line, IsLineOf, IsEntry, AreSteps, entry_front, entry_line}

abbrev pub bad_line_of : ReplayFault → Option (ℕ × Reason)
bad_line_of (BadLine number reason) = Some (number, reason)
bad_line_of fault = None

-- the line begins with this
abbrev pub HasFront : List ℕ → List ℕ → Type 0
HasFront line front = (rest : List ℕ) × (line ≡ front ++ rest)

-- it begins as an entry, but not with this place
abbrev pub HasOtherPlace : ℕ → List ℕ → Type 0
HasOtherPlace place line = HasFront line (codes "entry ") × (HasFront line (entry_front place) → ⊥)

-- it begins as an entry with this place, but no caller from 0 to 63 comes next
abbrev pub HasNoCaller : ℕ → List ℕ → Type 0
HasNoCaller place line =
    HasFront line (entry_front place)
    × ((caller : ℕ) (answer : List ℕ) → caller < 64 → line ≡ entry_line place caller answer → ⊥)

-- why the line, which has this number, isn't right after `entries` entries
abbrev pub IsWhy : ℕ → ℕ → List ℕ → ReplayFault → Type 0
IsWhy n entries line NoMemory = ⊥
IsWhy n entries line (BadLine at reason) = ⊥
IsWhy n entries line (NoAnswer at) = ⊥
IsWhy n entries line (WrongAnswer at) = (at ≡ n) × (HasOtherPlace entries line → ⊥) × (HasNoCaller entries line → ⊥)
IsWhy n entries line (WrongPlace at) = (at ≡ n) × HasOtherPlace entries line
IsWhy n entries line (BadCaller at) = (at ≡ n) × HasNoCaller entries line

-- the same for a line that isn't an entry of this place and of a caller
abbrev pub IsNoEntry : ℕ → ℕ → List ℕ → ReplayFault → Type 0
IsNoEntry n place line (WrongAnswer at) = (at ≡ n) × (HasFront line (codes "entry ") → ⊥)
IsNoEntry n place line fault = IsWhy n place line fault

-- After `entries` entries the line, which has this number, doesn't record the answer with this text.
pub record IsMisrecorded (n entries : ℕ) (text line : List ℕ) (fault : ReplayFault) : Type 0 where
  pub no_answer : IsLineOf text line → ⊥
  pub no_entry : IsEntry entries text line → ⊥
  pub why : IsWhy n entries line fault

-- the line was asked, and the next one doesn't record its answer
abbrev pub HasWrongAnswer : Replayed → ℕ → List ℕ → List ℕ → ReplayFault → Type 0
HasWrongAnswer s n line answer fault =
    (c : Conversation) × (text : List ℕ) × (replay_line s.conversation line ≡ Some (c, text))
    × IsMisrecorded (n + 1) s.entries text answer fault

-- the line, which has this number, and the next one aren't a step
abbrev pub IsWrongStep : Replayed → ℕ → List ℕ → List ℕ → ReplayFault → Type 0
IsWrongStep s n line answer NoMemory = Unit {0}
IsWrongStep s n line answer (BadLine at reason) = (at ≡ n) × (replay_line s.conversation line ≡ None)
IsWrongStep s n line answer (NoAnswer at) = ⊥
IsWrongStep s n line answer (WrongAnswer at) = HasWrongAnswer s n line answer (WrongAnswer at)
IsWrongStep s n line answer (WrongPlace at) = HasWrongAnswer s n line answer (WrongPlace at)
IsWrongStep s n line answer (BadCaller at) = HasWrongAnswer s n line answer (BadCaller at)

-- the last line, which has this number, has no answer
abbrev pub IsUnanswered : ℕ → ReplayFault → Type 0
IsUnanswered n (NoAnswer at) = at ≡ n
IsUnanswered n fault = ⊥

-- these lines, of which the first has this number, don't begin with a step
abbrev pub IsWrongThere : Replayed → ℕ → List (List ℕ) → ReplayFault → Type 0
IsWrongThere s n [] fault = ⊥
IsWrongThere s n (line ∷ []) fault = IsUnanswered n fault
IsWrongThere s n (line ∷ answer ∷ lines) fault = IsWrongStep s n line answer fault

-- Some lines are steps, and the next step is wrong. Any allocation may fail instead.
pub record IsReplayFault (c : Conversation) (text : List ℕ) (fault : ReplayFault) : Type 0 where
  pub steps : List (List ℕ)
  pub left : List (List ℕ)
  pub whole : lines_of text ≡ steps ++ left
  pub before : Replayed
  pub right : AreSteps (replayed c 0) steps before
  pub wrong : IsWrongThere before (length steps + 1) left fault
