-- The history of a served pool: lines that one caller alone could have asked, with their answers.
use Rattle.std.specs.Prelude.{◌≡◌, ◌⊎◌, ℕ, ◌+◌, ◌<◌, nat_eq, List, [], ◌∷◌, ◌++◌, codes, decimal, Some, option_and_then, if◌then◌else◌}
use Rattle.std.specs.Cmp.Lexicographic.{pointwise}
use Rattle.mp_text.specs.Lines.{lines_of}
use Rattle.mp_text.specs.Words.{words_of}
use Rattle.mp_lines.specs.Lines.{remove_line}
use Rattle.mp_serve.specs.declared.conversation.Conversation.{Conversation}
use Rattle.mp_serve.specs.Talk.{Step, does, line_step}

-- The conversation after a part of a history, and the number of entries in that part.
pub record Replayed : Type 0 where
  pub conversation : Conversation
  pub entries : ℕ

abbrev pub replayed : Conversation → ℕ → Replayed
replayed c entries = record { conversation = c; entries = entries }

-- ---- lines

-- what `remove` with these words does
abbrev pub remove : Conversation → List (List ℕ) → Step
remove c words = option_and_then (does c) (remove_line c.session.names words)

-- by the first word: `remove`, with any number of words; otherwise a line of `serve`
abbrev pub words_step : Conversation → List ℕ → List (List ℕ) → Step
words_step c line [] = line_step c line
words_step c line (word ∷ words) =
    if pointwise nat_eq word (codes "remove") then remove c words else line_step c line

-- the state after a line of a history, and the answer, unless the line is bad
unfoldable pub replay_line : Conversation → List ℕ → Step
replay_line c line = words_step c line (words_of line)

-- ---- answers

-- the text is this line with its line feed
abbrev pub IsLineOf : List ℕ → List ℕ → Type 0
IsLineOf text line = text ≡ line ++ 10 ∷ []

-- a number and a space
abbrev pub number_front : ℕ → List ℕ
number_front n = decimal n ++ 32 ∷ []

-- how an entry begins
abbrev pub entry_front : ℕ → List ℕ
entry_front place = codes "entry " ++ number_front place

-- an entry: its place, its caller, and the answer
abbrev pub entry_line : ℕ → ℕ → List ℕ → List ℕ
entry_line place caller answer = entry_front place ++ (number_front caller ++ answer)

-- the line is the entry with this place, by one of at most 64 callers, for the answer with this text
abbrev pub IsEntry : ℕ → List ℕ → List ℕ → Type 0
IsEntry place text line =
    (caller : ℕ) × (answer : List ℕ) × (caller < 64) × (line ≡ entry_line place caller answer) × IsLineOf text answer

-- after `entries` entries the line records the answer with this text, and `more` is the number of entries then
abbrev pub Records : ℕ → List ℕ → List ℕ → ℕ → Type 0
Records entries text line more =
    (IsLineOf text line × (more ≡ entries)) ⊎ (IsEntry entries text line × (more ≡ entries + 1))

-- ---- steps

-- the line is asked, and the next one records its answer
abbrev pub IsStep : Replayed → List ℕ → List ℕ → Replayed → Type 0
IsStep s line answer t =
    (text : List ℕ) × (replay_line s.conversation line ≡ Some (t.conversation, text))
    × Records s.entries text answer t.entries

-- these lines are steps that lead from s to t
abbrev pub AreSteps : Replayed → List (List ℕ) → Replayed → Type 0
AreSteps s [] t = t ≡ s
AreSteps s (line ∷ []) t = ⊥
AreSteps s (line ∷ answer ∷ lines) t = (u : Replayed) × IsStep s line answer u × AreSteps u lines t

-- the text is a legal history of this conversation
abbrev pub IsServedHistory : Conversation → List ℕ → Type 0
IsServedHistory c text = (t : Replayed) × AreSteps (replayed c 0) (lines_of text) t
