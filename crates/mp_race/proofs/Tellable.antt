-- The numbers in a line's words fit into their types.
use Rattle.std.proofs.Common.{◌≡◌, ℕ, ◌+◌, ◌^◌, ◌<◌, ◌≤◌, true, false, cond, List, [], ◌∷◌, refl, arith, Some, None, codes, nat_lt, nat_le, option_map}
use Rattle.std.specs.Prelude.{Option, IfSome, option_and_then}
use Rattle.std.proofs.lemmas.Bool.Decides.{nat_tests}
use Rattle.mp_text.specs.Numbers.{are_digits, value_of_digits, number_of, if_below}
use Rattle.mp_seqpool.specs.declared.command.Reply.TheVariants.{Accepted, Removed, Synced}
use Rattle.mp_race.specs.HistoryText.{AreTickets, HasTickets, IsTellable}
use Rattle.mp_race.specs.Inside.HistoryWords.{Words, number_in, small_in, ticket_in, and_others, tickets_in, first_or_zero, is_word, lists_in, reply_in, kind_in, numbers_in, front_in, told_of_front, told_in, Front}

below-fits : (bound n : ℕ) → IfSome (if_below bound n) (λ m. m < bound)
below-fits bound n = elim (nat_lt n bound) as (λ t. nat_lt n bound ≡ t → IfSome (cond t (Some n) None) (λ m. m < bound)) [
  | true ↦ λ is. grind (arith, nat_tests)
  | false ↦ λ is. tt
] refl

number-fits : (word : List ℕ) → IfSome (number_of word) (λ n. n < 2 ^ 64)
number-fits word = elim (are_digits 20 word) as (λ t. IfSome (cond t (if_below (2 ^ 64) (value_of_digits word)) None) (λ n. n < 2 ^ 64)) [
  | true ↦ below-fits (2 ^ 64) (value_of_digits word)
  | false ↦ tt
]

-- a property of what is found carries over to what is made of it
after : {X Y : Type 0} (P : X → Type 0) (Q : Y → Type 0) (f : X → Option Y) (o : Option X) → IfSome o P → ((x : X) → P x → IfSome (f x) Q) → IfSome (option_and_then f o) Q
after P Q f None is then = tt
after P Q f (Some x) is then = then x is

mapped : {X Y : Type 0} (P : X → Type 0) (Q : Y → Type 0) (f : X → Y) (o : Option X) → IfSome o P → ((x : X) → P x → Q (f x)) → IfSome (option_map f o) Q
mapped P Q f None is then = tt
mapped P Q f (Some x) is then = then x is

-- the number that a word denotes, and the words after it
abbrev IsNarrow : ℕ → ℕ × Words → Type 0
IsNarrow bound found = found.0 < bound

number_in-fits : (words : Words) → IfSome (number_in words) (IsNarrow (2 ^ 64))
number_in-fits [] = tt
number_in-fits (word ∷ words) = mapped (λ n. n < 2 ^ 64) (IsNarrow (2 ^ 64)) (λ n. (n, words)) (number_of word) (number-fits word) (λ n is. is)

small_in-fits : (words : Words) → IfSome (small_in words) (IsNarrow (2 ^ 32))
small_in-fits words =
    after (IsNarrow (2 ^ 64)) (IsNarrow (2 ^ 32)) (λ f. option_map (λ n. (n, f.1)) (if_below (2 ^ 32) f.0)) (number_in words) (number_in-fits words)
    (λ f is. mapped (λ n. n < 2 ^ 32) (IsNarrow (2 ^ 32)) (λ n. (n, f.1)) (if_below (2 ^ 32) f.0) (below-fits (2 ^ 32) f.0) (λ n small. small))

ticket-fits : (least : ℕ) (word : List ℕ) → IfSome (ticket_in least word) (λ n. (least ≤ n) × (n < 2 ^ 64))
ticket-fits least word = elim (number_of word) as (λ o. IfSome o (λ n. n < 2 ^ 64) → IfSome (option_and_then (λ n. cond (nat_le least n) (Some n) None) o) (λ n. (least ≤ n) × (n < 2 ^ 64))) [
  | None ↦ λ is. tt
  | Some n ↦ λ is. elim (nat_le least n) as (λ t. nat_le least n ≡ t → IfSome (cond t (Some n) None) (λ m. (least ≤ m) × (m < 2 ^ 64))) [
    | true ↦ λ le. (grind (arith, nat_tests), is)
    | false ↦ λ lt. tt
  ] refl
] (number-fits word)

tickets-fit : (least : ℕ) (words : Words) → AreTickets least (tickets_in least words).0
tickets-fit least [] = tt
tickets-fit least (word ∷ words) = elim (ticket_in least word) as (λ o. IfSome o (λ n. (least ≤ n) × (n < 2 ^ 64)) → AreTickets least (and_others words (λ next. tickets_in next words) o).0) [
  | None ↦ λ is. tt
  | Some n ↦ λ is. (is.0, is.1, tickets-fit (n + 1) words)
] (ticket-fits least word)

zero-fits : (words : Words) → first_or_zero (number_in words) < 2 ^ 64
zero-fits words = elim (number_in words) as (λ o. IfSome o (IsNarrow (2 ^ 64)) → first_or_zero o < 2 ^ 64) [
  | None ↦ λ is. omega arith
  | Some f ↦ λ is. is
] (number_in-fits words)

lists-fit : (kind : List ℕ) (words : Words) → HasTickets (lists_in kind (tickets_in 0 words))
lists-fit kind words =
    let first : List ℕ × Words = tickets_in 0 words in
    let second : List ℕ × Words = tickets_in 0 first.1 in
    elim (is_word kind (codes "removed")) as (λ t. HasTickets (cond t (Removed first.0 second.0) (Synced first.0 second.0))) [
      | true ↦ (tickets-fit 0 words, tickets-fit 0 first.1)
      | false ↦ (tickets-fit 0 words, tickets-fit 0 first.1)
    ]

reply-fits : (kind : List ℕ) (words : Words) → HasTickets (reply_in kind words)
reply-fits kind words = elim (is_word kind (codes "accepted")) as (λ t. HasTickets (cond t (Accepted (first_or_zero (number_in words))) (lists_in kind (tickets_in 0 words)))) [
  | true ↦ zero-fits words
  | false ↦ lists-fit kind words
]

-- the numbers at the beginning of a line fit into their types
record Fits (f : Front) : Type 0 where
  place : f.place < 2 ^ 64
  worker : f.worker < 2 ^ 32
  task : f.task < 2 ^ 64

kind_in-fits : (place worker task : ℕ) (words : Words) → place < 2 ^ 64 → worker < 2 ^ 32 → task < 2 ^ 64 → IfSome (kind_in place worker task words) Fits
kind_in-fits place worker task [] p w t = tt
kind_in-fits place worker task (kind ∷ words) p w t = record { place = p; worker = w; task = t }

numbers_in-fit : (words : Words) → IfSome (numbers_in words) Fits
numbers_in-fit words =
    after (IsNarrow (2 ^ 64)) Fits _ (number_in words) (number_in-fits words) (λ p is.
    after (IsNarrow (2 ^ 32)) Fits _ (small_in p.1) (small_in-fits p.1) (λ w small.
    after (IsNarrow (2 ^ 64)) Fits _ (number_in w.1) (number_in-fits w.1) (λ t fits. kind_in-fits p.0 w.0 t.0 t.1 is small fits)))

front_in-fits : (words : Words) → IfSome (front_in words) Fits
front_in-fits [] = tt
front_in-fits (word ∷ words) = numbers_in-fit words

pub told_in-tellable : (words : Words) → IfSome (told_in words) IsTellable
told_in-tellable words = elim (front_in words) as (λ o. IfSome o Fits → IfSome (option_map told_of_front o) IsTellable) [
  | None ↦ λ is. tt
  | Some f ↦ λ is. record { place = is.place; worker = is.worker; task = is.task; tickets = reply-fits f.kind f.words }
] (front_in-fits words)
