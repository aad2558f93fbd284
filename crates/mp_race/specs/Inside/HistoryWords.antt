-- What the words of a line seem to denote. The result is written again and compared, so the reading checks little.
use Rattle.std.specs.Prelude.{ℕ, ◌+◌, ◌^◌, ◌&&◌, nat_eq, nat_le, List, [], ◌∷◌, codes, Option, None, Some, option_map, option_and_then, Bool, if◌then◌else◌}
use Rattle.std.specs.Cmp.Lexicographic.{pointwise}
use Rattle.mp_text.specs.Numbers.{number_of, if_below}
use Rattle.mp_seqpool.specs.declared.command.Reply.{Reply}
use Rattle.mp_seqpool.specs.declared.command.Reply.TheVariants.{Accepted, Removed, Synced}
use Rattle.mp_race.specs.declared.told.Told.{Told}

-- the words of a line
abbrev pub Words : Type 0
Words = List (List ℕ)

-- the number that the first word denotes, and the words after it
abbrev pub number_in : Words → Option (ℕ × Words)
number_in [] = None
number_in (word ∷ words) = option_map (λ n. (n, words)) (number_of word)

-- the same for 32 bits
abbrev pub small_in : Words → Option (ℕ × Words)
small_in words = option_and_then (λ f. option_map (λ n. (n, f.1)) (if_below (2 ^ 32) f.0)) (number_in words)

-- the ticket that a word denotes, if it is at least `least`
abbrev pub ticket_in : ℕ → List ℕ → Option ℕ
ticket_in least word = option_and_then (λ n. if nat_le least n then Some n else None) (number_of word)

-- a ticket and then those of the other words; or no ticket, and the words after this one
abbrev pub and_others : Words → (ℕ → List ℕ × Words) → Option ℕ → List ℕ × Words
and_others words others None = ([], words)
and_others words others (Some ticket) = (ticket ∷ (others (ticket + 1)).0, (others (ticket + 1)).1)

-- the tickets, as long as they are strictly increasing, up to a word that is none, and the words after that
abbrev pub tickets_in : ℕ → Words → List ℕ × Words
tickets_in least [] = ([], [])
tickets_in least (word ∷ words) = and_others words (λ next. tickets_in next words) (ticket_in least word)

-- whether the word is this one
abbrev pub is_word : List ℕ → List ℕ → Bool
is_word word other = pointwise nat_eq word other

abbrev pub first_or_zero : Option (ℕ × Words) → ℕ
first_or_zero None = 0
first_or_zero (Some found) = found.0

abbrev pub lists_in : List ℕ → List ℕ × Words → Reply
lists_in kind first =
    if is_word kind (codes "removed") then Removed first.0 (tickets_in 0 first.1).0
    else Synced first.0 (tickets_in 0 first.1).0

-- the reply of this kind that the words after it denote
abbrev pub reply_in : List ℕ → Words → Reply
reply_in kind words =
    if is_word kind (codes "accepted") then Accepted (first_or_zero (number_in words))
    else lists_in kind (tickets_in 0 words)

-- The beginning of an entry's line: its numbers, the kind of the reply, and the words after that.
pub record Front : Type 0 where
  pub place : ℕ
  pub worker : ℕ
  pub task : ℕ
  pub kind : List ℕ
  pub words : Words

abbrev pub kind_in : ℕ → ℕ → ℕ → Words → Option Front
kind_in place worker task [] = None
kind_in place worker task (kind ∷ words) =
    Some (record { place = place; worker = worker; task = task; kind = kind; words = words })

abbrev pub numbers_in : Words → Option Front
numbers_in words =
    option_and_then (λ p. option_and_then (λ w. option_and_then (λ t. kind_in p.0 w.0 t.0 t.1)
    (number_in w.1)) (small_in p.1)) (number_in words)

abbrev pub front_in : Words → Option Front
front_in [] = None
front_in (word ∷ words) = numbers_in words

abbrev pub told_of_front : Front → Told
told_of_front f =
    record { place = f.place; worker = f.worker; task = f.task; reply = reply_in f.kind f.words }

-- the entry that the words of its line denote
abbrev pub told_in : Words → Option Told
told_in words = option_map told_of_front (front_in words)

-- The first line: the number of workers, 1 to 64, and the number of entries.
abbrev pub entries_in : ℕ → Words → Option (ℕ × ℕ)
entries_in workers [] = None
entries_in workers (word ∷ words) = option_map (λ f. (workers, f.0)) (number_in words)

abbrev pub if_workers : ℕ → Option ℕ
if_workers n = if nat_le 1 n && nat_le n 64 then Some n else None

abbrev pub workers_in : Words → Option (ℕ × ℕ)
workers_in words =
    option_and_then (λ f. option_and_then (λ n. entries_in n f.1) (if_workers f.0)) (small_in words)

abbrev pub head_in : Words → Option (ℕ × ℕ)
head_in [] = None
head_in (word ∷ words) = workers_in words
