-- The text of a history.
use Rattle.std.specs.Prelude.{◌≡◌, ℕ, ◌+◌, ◌^◌, ◌<◌, ◌≤◌, List, [], ◌∷◌, ◌++◌, codes, flat_map, length, All, ◌⊎◌}
use Rattle.mp_seqpool.specs.declared.command.Reply.{Reply}
use Rattle.mp_seqpool.specs.declared.command.Reply.TheVariants.{Accepted, Removed, Synced}
use Rattle.mp_answers.specs.AnswerText.{number_text, reply_text}
use Rattle.mp_race.specs.declared.fault.RaceFault.{RaceFault}
use Rattle.mp_race.specs.declared.fault.RaceFault.TheVariants.{NoMemory, BadLine, ReadFault, WriteFault, Audit, MissingEntry}
use Rattle.mp_race.specs.declared.told.Told.{Told}

-- the first line without its end: how many workers and entries there are
abbrev pub head_line : ℕ → ℕ → List ℕ
head_line workers entries = codes "workers" ++ number_text workers ++ codes " entries" ++ number_text entries

-- a line feed ends each line
abbrev pub head_text : ℕ → ℕ → List ℕ
head_text workers entries = head_line workers entries ++ 10 ∷ []

-- the line of an entry without its end: its place, its worker, its command, and its reply
abbrev pub told_line : Told → List ℕ
told_line t =
    codes "entry" ++ number_text t.place ++ number_text t.worker ++ number_text t.task ++ 32 ∷ reply_text t.reply

abbrev pub told_text : Told → List ℕ
told_text t = told_line t ++ 10 ∷ []

abbrev pub lines_text : List Told → List ℕ
lines_text told = flat_map told_text told

-- the first line, then a line for each entry
abbrev pub history_text : ℕ → List Told → List ℕ
history_text workers told = head_text workers (length told) ++ lines_text told

-- Texts that are no history.

-- tickets of 64 bits, strictly increasing, none below `least`
abbrev pub AreTickets : ℕ → List ℕ → Type 0
AreTickets least [] = Unit {0}
AreTickets least (ticket ∷ tickets) = (least ≤ ticket) × (ticket < 2 ^ 64) × AreTickets (ticket + 1) tickets

abbrev pub HasTickets : Reply → Type 0
HasTickets (Accepted ticket) = ticket < 2 ^ 64
HasTickets (Removed named dropped) = AreTickets 0 named × AreTickets 0 dropped
HasTickets (Synced kept dropped) = AreTickets 0 kept × AreTickets 0 dropped

-- Its numbers fit into their types.
pub record IsTellable (t : Told) : Type 0 where
  pub place : t.place < 2 ^ 64
  pub worker : t.worker < 2 ^ 32
  pub task : t.task < 2 ^ 64
  pub tickets : HasTickets t.reply

-- the text doesn't begin with the line of an entry
abbrev pub HasNoEntry : List ℕ → Type 0
HasNoEntry text = (t : Told) (rest : List ℕ) → IsTellable t → text ≡ told_text t ++ rest → ⊥

-- the text doesn't begin with the first line of a history of 1 to 64 workers
abbrev pub HasNoHead : List ℕ → Type 0
HasNoHead text =
    (workers entries : ℕ) (rest : List ℕ) → 1 ≤ workers → workers ≤ 64 → entries < 2 ^ 64
    → text ≡ head_text workers entries ++ rest → ⊥

-- After the first line, which announces `entries` entries, this line is the first that is no entry, or is one too many.
pub record IsBadLine (entries : ℕ) (text : List ℕ) (line : ℕ) : Type 0 where
  pub told : List Told
  pub tellable : All IsTellable told
  pub within : length told ≤ entries
  pub rest : List ℕ
  pub reads : text ≡ lines_text told ++ rest
  pub number : line ≡ length told + 2
  pub there : 0 < length rest
  pub bad : length told < entries → HasNoEntry rest

-- After the first line, which announces `entries` entries, the text has lines for fewer, and nothing else.
pub record IsCut (entries : ℕ) (text : List ℕ) (place : ℕ) : Type 0 where
  pub told : List Told
  pub tellable : All IsTellable told
  pub reads : text ≡ lines_text told
  pub number : place ≡ length told
  pub fewer : length told < entries

-- why the text after the first line isn't the announced number of entries
abbrev pub IsFaultOfLines : ℕ → List ℕ → RaceFault → Type 0
IsFaultOfLines entries text NoMemory = Unit {0}
IsFaultOfLines entries text (BadLine line) = IsBadLine entries text line
IsFaultOfLines entries text ReadFault = ⊥
IsFaultOfLines entries text WriteFault = ⊥
IsFaultOfLines entries text (Audit fault) = ⊥
IsFaultOfLines entries text (MissingEntry place) = IsCut entries text place

-- The first line is right, and what follows it has this fault.
pub record IsFaultBehind (text : List ℕ) (fault : RaceFault) : Type 0 where
  pub workers : ℕ
  pub entries : ℕ
  pub rest : List ℕ
  pub begins : text ≡ head_text workers entries ++ rest
  pub lines : IsFaultOfLines entries rest fault

-- why the text is no history
abbrev pub IsFaultOfText : List ℕ → RaceFault → Type 0
IsFaultOfText text NoMemory = Unit {0}
IsFaultOfText text (BadLine line) = ((line ≡ 1) × HasNoHead text) ⊎ IsFaultBehind text (BadLine line)
IsFaultOfText text ReadFault = ⊥
IsFaultOfText text WriteFault = ⊥
IsFaultOfText text (Audit fault) = ⊥
IsFaultOfText text (MissingEntry place) = IsFaultBehind text (MissingEntry place)
