-- The words of a written line denote what was written.
use Rattle.std.proofs.Common.{◌≡◌, ℕ, ◌+◌, ◌^◌, ◌<◌, ◌≤◌, true, List, [], ◌∷◌, ◌++◌, refl, sym, ap, ap₂, subst, ◌∙◌, arith, decimal, Some, None, codes, append_assoc, append-nil, map, nat_lt, nat_le}
use Rattle.std.specs.Prelude.{option_and_then, option_map}
use Rattle.std.specs.List.{list_all}
use Rattle.std.proofs.lemmas.List.Concat.{flat_map-append}
use Rattle.std.proofs.lemmas.Bool.Decides.{nat_tests, Decides-and, Decides-ltb}
use Rattle.mp_text.specs.Lines.{lines_of}
use Rattle.mp_text.specs.Words.{words_of}
use Rattle.mp_text.specs.Numbers.{if_below}
use Rattle.mp_seqpool.specs.declared.command.Reply.{Reply}
use Rattle.mp_seqpool.specs.declared.command.Reply.TheVariants.{Accepted, Removed, Synced}
use Rattle.mp_answers.specs.AnswerText.{number_text, tickets_text, reply_text}
use Rattle.mp_race.specs.declared.told.Told.{Told}
use Rattle.mp_race.specs.HistoryText.{head_line, head_text, told_line, told_text, lines_text, AreTickets, HasTickets, IsTellable, HasNoEntry, HasNoHead}
use Rattle.mp_race.specs.Inside.HistoryReading.{IsApart}
use Rattle.mp_race.specs.Inside.HistoryWords.{Words, number_in, small_in, ticket_in, and_others, tickets_in, first_or_zero, lists_in, reply_in, kind_in, front_in, told_of_front, told_in, entries_in, if_workers, head_in}
use Rattle.mp_race.proofs.Spelling.{IsPlain, ArePlain, spaced, words-front, words-spaced, IsUnbroken, lines-front, unbroken-line, plain-decimal, number-decimal}

-- Numbers and tickets.

number_in-decimal : (n : ℕ) (words : Words) → n < 2 ^ 64 → number_in (decimal n ∷ words) ≡ Some (n, words)
number_in-decimal n words fits = ap (option_map (λ m. (m, words))) (number-decimal n fits)

below : (bound n : ℕ) → n < bound → if_below bound n ≡ Some n
below bound n lt = grind (arith, nat_tests)

small_in-decimal : (n : ℕ) (words : Words) → n < 2 ^ 32 → small_in (decimal n ∷ words) ≡ Some (n, words)
small_in-decimal n words fits =
    ap (option_and_then (λ f. option_map (λ m. (m, f.1)) (if_below (2 ^ 32) f.0))) (number_in-decimal n words (omega (arith, fits)))
    ∙ ap (option_map (λ m. (m, words))) (below (2 ^ 32) n fits)

no_less : (least n : ℕ) → least ≤ n → nat_le least n ≡ true
no_less least n le = grind (arith, nat_tests)

ticket_in-decimal : (least n : ℕ) → least ≤ n → n < 2 ^ 64 → ticket_in least (decimal n) ≡ Some n
ticket_in-decimal least n le fits = rw (number-decimal n fits, no_less least n le) refl

tickets-read : (least : ℕ) (tickets : List ℕ) (words : Words) → AreTickets least tickets → tickets_in least (map decimal tickets ++ codes "dropped" ∷ words) ≡ (tickets, words)
tickets-read least [] words are = refl
tickets-read least (ticket ∷ tickets) words are =
    let others = map decimal tickets ++ codes "dropped" ∷ words in
    ap (and_others others (λ next. tickets_in next others)) (ticket_in-decimal least ticket are.0 are.1)
    ∙ ap (λ (found : List ℕ × Words). (ticket ∷ found.0, found.1)) (tickets-read (ticket + 1) tickets words are.2)

tickets-end : (least : ℕ) (tickets : List ℕ) → AreTickets least tickets → tickets_in least (map decimal tickets) ≡ (tickets, [])
tickets-end least [] are = refl
tickets-end least (ticket ∷ tickets) are =
    ap (and_others (map decimal tickets) (λ next. tickets_in next (map decimal tickets))) (ticket_in-decimal least ticket are.0 are.1)
    ∙ ap (λ (found : List ℕ × Words). (ticket ∷ found.0, found.1)) (tickets-end (ticket + 1) tickets are.2)

-- The words of a reply.

abbrev lists_words : List ℕ → List ℕ → Words
lists_words first dropped = map decimal first ++ codes "dropped" ∷ map decimal dropped

abbrev kind_of : Reply → List ℕ
kind_of (Accepted ticket) = codes "accepted"
kind_of (Removed named dropped) = codes "removed"
kind_of (Synced kept dropped) = codes "kept"

abbrev behind_kind : Reply → Words
behind_kind (Accepted ticket) = decimal ticket ∷ []
behind_kind (Removed named dropped) = lists_words named dropped
behind_kind (Synced kept dropped) = lists_words kept dropped

reply-read : (r : Reply) → HasTickets r → reply_in (kind_of r) (behind_kind r) ≡ r
reply-read (Accepted ticket) has = ap (λ found. Accepted (first_or_zero found)) (number_in-decimal ticket [] has)
reply-read (Removed named dropped) has =
    ap (lists_in (codes "removed")) (tickets-read 0 named (map decimal dropped) has.0)
    ∙ ap (λ (found : List ℕ × Words). Removed named found.0) (tickets-end 0 dropped has.1)
reply-read (Synced kept dropped) has =
    ap (lists_in (codes "kept")) (tickets-read 0 kept (map decimal dropped) has.0)
    ∙ ap (λ (found : List ℕ × Words). Synced kept found.0) (tickets-end 0 dropped has.1)

spaced-tickets : (tickets : List ℕ) → spaced (map decimal tickets) ≡ tickets_text tickets
spaced-tickets [] = refl
spaced-tickets (ticket ∷ tickets) = ap (λ text. number_text ticket ++ text) (spaced-tickets tickets)

spaced-lists : (word : List ℕ) (first dropped : List ℕ) → spaced (word ∷ lists_words first dropped) ≡ 32 ∷ (word ++ tickets_text first ++ codes " dropped" ++ tickets_text dropped)
spaced-lists word first dropped =
    let parts : spaced (lists_words first dropped) ≡ tickets_text first ++ (codes " dropped" ++ tickets_text dropped) =
    flat_map-append (λ w. 32 ∷ w) (map decimal first) (codes "dropped" ∷ map decimal dropped)
    ∙ ap₂ (λ a b. a ++ (codes " dropped" ++ b)) (spaced-tickets first) (spaced-tickets dropped) in
    ap (λ text. 32 ∷ (word ++ text)) parts ∙ ap (λ text. 32 ∷ text) (simp append_assoc)

spaced-reply : (r : Reply) → spaced (kind_of r ∷ behind_kind r) ≡ 32 ∷ reply_text r
spaced-reply (Accepted ticket) = ap (λ text. 32 ∷ (codes "accepted" ++ text)) (append-nil (number_text ticket))
spaced-reply (Removed named dropped) = spaced-lists (codes "removed") named dropped
spaced-reply (Synced kept dropped) = spaced-lists (codes "kept") kept dropped

plain-tested : (word : List ℕ) → list_all (nat_lt 32) word ≡ true → IsPlain word
plain-tested [] all = tt
plain-tested (b ∷ word) all =
    let both = (Decides-and (nat_lt 32 b) (list_all (nat_lt 32) word) (Decides-ltb 32 b) (λ e. e, λ e. e)).0 all in
    (both.0, plain-tested word both.1)

plain-tickets : (least : ℕ) (tickets : List ℕ) (words : Words) → AreTickets least tickets → ArePlain words → ArePlain (map decimal tickets ++ words)
plain-tickets least [] words are plain = plain
plain-tickets least (ticket ∷ tickets) words are plain = (plain-decimal ticket are.1, plain-tickets (ticket + 1) tickets words are.2 plain)

plain-lists : (first dropped : List ℕ) → AreTickets 0 first → AreTickets 0 dropped → ArePlain (lists_words first dropped)
plain-lists first dropped f d =
    let last : ArePlain (map decimal dropped) = subst ArePlain (append-nil (map decimal dropped)) (plain-tickets 0 dropped [] d tt) in
    plain-tickets 0 first (codes "dropped" ∷ map decimal dropped) f ((omega arith, plain-tested (codes "dropped") refl), last)

plain-reply : (r : Reply) → HasTickets r → ArePlain (kind_of r ∷ behind_kind r)
plain-reply (Accepted ticket) has = ((omega arith, plain-tested (codes "accepted") refl), (plain-decimal ticket has, tt))
plain-reply (Removed named dropped) has = ((omega arith, plain-tested (codes "removed") refl), plain-lists named dropped has.0 has.1)
plain-reply (Synced kept dropped) has = ((omega arith, plain-tested (codes "kept") refl), plain-lists kept dropped has.0 has.1)

-- The line of an entry.

abbrev told_words : Told → Words
told_words t = decimal t.place ∷ decimal t.worker ∷ decimal t.task ∷ kind_of t.reply ∷ behind_kind t.reply

told-line : (t : Told) → codes "entry" ++ spaced (told_words t) ≡ told_line t
told-line t =
    ap (λ text. codes "entry" ++ (number_text t.place ++ (number_text t.worker ++ (number_text t.task ++ text)))) (spaced-reply t.reply)
    ∙ simp append_assoc

plain-told : (t : Told) → IsTellable t → ArePlain (codes "entry" ∷ told_words t)
plain-told t is = (
  (omega arith, plain-tested (codes "entry") refl),
  (plain-decimal t.place is.place, (plain-decimal t.worker (let h = is.worker in omega (arith, h)), (plain-decimal t.task is.task, plain-reply t.reply is.tickets))),
)

words-line : (word : List ℕ) (words : Words) → ArePlain (word ∷ words) → words_of (word ++ spaced words) ≡ word ∷ words
words-line word words plain = words-front word words plain.0 ∙ ap (λ ws. word ∷ ws) (words-spaced words plain.1)

told-front : (t : Told) → IsTellable t → front_in (codes "entry" ∷ told_words t) ≡ Some (record { place = t.place; worker = t.worker; task = t.task; kind = kind_of t.reply; words = behind_kind t.reply })
told-front t is =
    ap (option_and_then (λ p. option_and_then (λ w. option_and_then (λ k. kind_in p.0 w.0 k.0 k.1) (number_in w.1)) (small_in p.1))) (number_in-decimal t.place _ is.place)
    ∙ ap (option_and_then (λ w. option_and_then (λ k. kind_in t.place w.0 k.0 k.1) (number_in w.1))) (small_in-decimal t.worker _ is.worker)
    ∙ ap (option_and_then (λ k. kind_in t.place t.worker k.0 k.1)) (number_in-decimal t.task _ is.task)

-- what is written for an entry is read as that entry
told-read : (t : Told) → IsTellable t → told_in (words_of (told_line t)) ≡ Some t
told-read t is =
    ap (λ line. told_in (words_of line)) (sym (told-line t)) ∙ ap told_in (words-line (codes "entry") (told_words t) (plain-told t is))
    ∙ ap (option_map told_of_front) (told-front t is) ∙ ap (λ r. Some (record t { reply = r })) (reply-read t.reply is.tickets)

unbroken-told : (t : Told) → IsTellable t → IsUnbroken (told_line t)
unbroken-told t is = subst IsUnbroken (told-line t) (unbroken-line (codes "entry") (told_words t) (plain-told t is))

-- a line feed after it ends the first line of the text
lines-of : (line text rest : List ℕ) → IsUnbroken line → text ≡ (line ++ 10 ∷ []) ++ rest → lines_of text ≡ line ∷ lines_of rest
lines-of line text rest unbroken is = ap lines_of (is ∙ append_assoc line (10 ∷ []) rest) ∙ lines-front line rest unbroken

-- A text that begins with no entry.

-- the first line is that of the entry
first-told : (text line : List ℕ) (others : List (List ℕ)) (t : Told) (rest : List ℕ) → lines_of text ≡ line ∷ others → IsTellable t → text ≡ told_text t ++ rest → told_in (words_of line) ≡ Some t
first-told text line others t rest lines is begins =
    let first : line ∷ others ≡ told_line t ∷ lines_of rest = sym lines ∙ lines-of (told_line t) text rest (unbroken-told t is) begins in
    let same : line ≡ told_line t = Prim.cc in
    ap (λ l. told_in (words_of l)) same ∙ told-read t is

pub no_entry-untold : (text line : List ℕ) (others : List (List ℕ)) → lines_of text ≡ line ∷ others → told_in (words_of line) ≡ None → HasNoEntry text
no_entry-untold text line others lines none = λ t rest is begins. let some = first-told text line others t rest lines is begins in absurd (Prim.cc)

pub no_entry-other : (text line : List ℕ) (others : List (List ℕ)) (t : Told) → lines_of text ≡ line ∷ others → told_in (words_of line) ≡ Some t → IsApart text (told_text t) → HasNoEntry text
no_entry-other text line others t lines told apart = λ u rest is begins.
    let some = first-told text line others u rest lines is begins in
    let same : u ≡ t = Prim.cc in
    apart rest (subst (λ (v : Told). text ≡ told_text v ++ rest) same begins)

-- The lines of entries.

lines-push : (told : List Told) (t : Told) → lines_text (told ++ t ∷ []) ≡ lines_text told ++ told_text t
lines-push told t = flat_map-append told_text told (t ∷ []) ∙ ap (λ l. lines_text told ++ l) (append-nil (told_text t))

-- one more line is read
pub reads-more : (text : List ℕ) (told : List Told) (t : Told) (rest after : List ℕ) → text ≡ lines_text told ++ rest → rest ≡ told_text t ++ after → text ≡ lines_text (told ++ t ∷ []) ++ after
reads-more text told t rest after reads begins =
    reads ∙ ap (λ l. lines_text told ++ l) begins ∙ sym (append_assoc (lines_text told) (told_text t) after) ∙ ap (λ l. l ++ after) (sym (lines-push told t))

-- The first line of a history.

abbrev head_words : ℕ → ℕ → Words
head_words workers entries = decimal workers ∷ codes "entries" ∷ decimal entries ∷ []

head-line : (workers entries : ℕ) → codes "workers" ++ spaced (head_words workers entries) ≡ head_line workers entries
head-line workers entries =
    ap (λ text. codes "workers" ++ (number_text workers ++ (codes " entries" ++ text))) (append-nil (number_text entries)) ∙ simp append_assoc

plain-head : (workers entries : ℕ) → workers ≤ 64 → entries < 2 ^ 64 → ArePlain (codes "workers" ∷ head_words workers entries)
plain-head workers entries most fits = (
  (omega arith, plain-tested (codes "workers") refl),
  (plain-decimal workers (omega (arith, most)), ((omega arith, plain-tested (codes "entries") refl), (plain-decimal entries fits, tt))),
)

some_workers : (n : ℕ) → 1 ≤ n → n ≤ 64 → if_workers n ≡ Some n
some_workers n least most = grind (arith, nat_tests)

head-read : (workers entries : ℕ) → 1 ≤ workers → workers ≤ 64 → entries < 2 ^ 64 → head_in (words_of (head_line workers entries)) ≡ Some (workers, entries)
head-read workers entries least most fits =
    ap (λ line. head_in (words_of line)) (sym (head-line workers entries)) ∙ ap head_in (words-line (codes "workers") (head_words workers entries) (plain-head workers entries most fits))
    ∙ ap (option_and_then (λ f. option_and_then (λ n. entries_in n f.1) (if_workers f.0))) (small_in-decimal workers _ (omega (arith, most)))
    ∙ ap (option_and_then (λ n. entries_in n (codes "entries" ∷ decimal entries ∷ []))) (some_workers workers least most)
    ∙ ap (option_map (λ (f : ℕ × Words). (workers, f.0))) (number_in-decimal entries [] fits)

unbroken-head : (workers entries : ℕ) → workers ≤ 64 → entries < 2 ^ 64 → IsUnbroken (head_line workers entries)
unbroken-head workers entries most fits = subst IsUnbroken (head-line workers entries) (unbroken-line (codes "workers") (head_words workers entries) (plain-head workers entries most fits))

first-head : (text line : List ℕ) (others : List (List ℕ)) (workers entries : ℕ) (rest : List ℕ) → lines_of text ≡ line ∷ others → 1 ≤ workers → workers ≤ 64 → entries < 2 ^ 64
    → text ≡ head_text workers entries ++ rest → head_in (words_of line) ≡ Some (workers, entries)
first-head text line others workers entries rest lines least most fits begins =
    let first : line ∷ others ≡ head_line workers entries ∷ lines_of rest = sym lines ∙ lines-of (head_line workers entries) text rest (unbroken-head workers entries most fits) begins in
    let same : line ≡ head_line workers entries = Prim.cc in
    ap (λ l. head_in (words_of l)) same ∙ head-read workers entries least most fits

pub no_head-untold : (text line : List ℕ) (others : List (List ℕ)) → lines_of text ≡ line ∷ others → head_in (words_of line) ≡ None → HasNoHead text
no_head-untold text line others lines none = λ workers entries rest least most fits begins.
    let some = first-head text line others workers entries rest lines least most fits begins in absurd (Prim.cc)

same_pair : (p q : ℕ × ℕ) → Some p ≡ Some q → p ≡ q
same_pair p q is = Prim.cc

pub no_head-other : (text line : List ℕ) (others : List (List ℕ)) (workers entries : ℕ) → lines_of text ≡ line ∷ others → head_in (words_of line) ≡ Some (workers, entries) → IsApart text (head_text workers entries) → HasNoHead text
no_head-other text line others workers entries lines told apart = λ w e rest least most fits begins.
    let some = first-head text line others w e rest lines least most fits begins in
    let both = same_pair (w, e) (workers, entries) (sym some ∙ told) in
    apart rest (begins ∙ ap (λ (p : ℕ × ℕ). head_text p.0 p.1 ++ rest) both)
