-- How often each kind of refusal was answered.
use Rattle.std.specs.Prelude.{ℕ, ◌+◌, ◌-◌, ◌^◌, min, nat_eq, List, [], ◌∷◌, ◌++◌, length, replicate, codes, slice_index, slice_set, Option, Some, None, if◌then◌else◌}
use Rattle.mp_seqpool.specs.declared.refusal.Refusal.{Refusal}
use Rattle.mp_answers.specs.AnswerText.{number_text, refusal_words, refusal_place}
use Rattle.mp_serve.specs.declared.refused.Counts.{Counts}

abbrev pub none_counted : Counts
none_counted = record { refusals = replicate (length refusal_words) 0; adopts = 0; backs = 0 }

-- a count stays at 2^64 - 1
abbrev pub one_more : ℕ → ℕ
one_more count = min (count + 1) (2 ^ 64 - 1)

-- one more at this index
abbrev pub counted_at : List ℕ → ℕ → List ℕ
counted_at counts place = slice_set counts place (one_more (slice_index counts place))

abbrev pub counted : Counts → Refusal → Counts
counted c refusal = record c { refusals = counted_at c.refusals (refusal_place refusal) }

abbrev pub counted_if : Counts → Option Refusal → Counts
counted_if c None = c
counted_if c (Some refusal) = counted c refusal

-- what never occurred isn't reported
abbrev pub count_text : List ℕ → ℕ → List ℕ
count_text word count = if nat_eq count 0 then [] else 32 ∷ word ++ number_text count

-- each word with its count
abbrev pub texts : List (List ℕ) → List ℕ → List ℕ
texts [] counts = []
texts (word ∷ others) [] = []
texts (word ∷ others) (count ∷ counts) = count_text word count ++ texts others counts

-- refused blocks are counted as `adopt`, and refused ways back as `back`
abbrev pub counts_text : Counts → List ℕ
counts_text c = texts refusal_words c.refusals ++ count_text (codes "adopt") c.adopts ++ count_text (codes "back") c.backs
