-- The line that a command writes.
use Rattle.std.specs.Prelude.{ℕ, ◌-◌, List, [], ◌∷◌, ◌++◌, length, flat_map, slice_index, slice_index_or, decimal, codes, if◌then◌else◌, Result, Ok, Err}
use Rattle.std.specs.List.{list_all}
use Rattle.hex.specs.Hex.{encode_lower}
use Rattle.mp_text.specs.Names.{is_letter_or_digit}
use Rattle.mp_tx.specs.Transaction.{Transaction}
use Rattle.mp_tx.specs.Spelling.{id_of}
use Rattle.mp_rules.specs.declared.invalid.Invalid.{Invalid}
use Rattle.mp_rules.specs.declared.invalid.Invalid.TheVariants as rules
use Rattle.mp_rules.specs.Invalid.{number}
use Rattle.mp_seqpool.specs.declared.refusal.Refusal.{Refusal}
use Rattle.mp_seqpool.specs.declared.refusal.Refusal.TheVariants as refusals
use Rattle.mp_seqpool.specs.declared.command.Reply.{Reply}
use Rattle.mp_seqpool.specs.declared.command.Reply.TheVariants.{Accepted, Removed, Synced}
use Rattle.mp_seqpool.specs.Pool.{Pool}
use Rattle.mp_seqpool.specs.SlowPool.{bytes_held}
use Rattle.mp_names.specs.Names.{Names, name_of, policy_name}

-- a space, and then the number
abbrev pub number_text : ℕ → List ℕ
number_text n = 32 ∷ decimal n

-- bytes that have no name: a number sign and their digits
abbrev pub hex_text : List ℕ → List ℕ
hex_text bytes = 35 ∷ encode_lower bytes

abbrev pub name_or_hex : List ℕ → List ℕ → List ℕ
name_or_hex [] bytes = hex_text bytes
name_or_hex (first ∷ others) bytes = first ∷ others

-- the name of a policy, if it has one
abbrev pub policy_text : Names → List ℕ → List ℕ
policy_text names policy = name_or_hex (policy_name policy names) policy

-- the name of a token, if it consists of lower-case letters and digits
abbrev pub token_name_text : List ℕ → List ℕ
token_name_text name = if list_all is_letter_or_digit name then name else hex_text name

-- the policy, and then a dot and the name, if it isn't empty
abbrev pub token_text : Names → List ℕ → List ℕ → List ℕ
token_text names policy [] = policy_text names policy
token_text names policy (byte ∷ bytes) = policy_text names policy ++ 46 ∷ token_name_text (byte ∷ bytes)

-- the words of refusals, in the order in which counts of refusals are reported
abbrev pub refusal_words : List (List ℕ)
refusal_words =
    codes "history"
    ∷ codes "tickets"
    ∷ codes "already"
    ∷ codes "full"
    ∷ codes "memory"
    ∷ codes "no-inputs"
    ∷ codes "interval"
    ∷ codes "negative"
    ∷ codes "missing"
    ∷ codes "address"
    ∷ codes "datum"
    ∷ codes "taken"
    ∷ codes "no-policy"
    ∷ codes "unbalanced"
    ∷ codes "signature"
    ∷ codes "validator"
    ∷ codes "policy-script"
    ∷ codes "reference"
    ∷ []

abbrev pub word_at : List (List ℕ) → ℕ → List ℕ
word_at words place = slice_index_or words place []

-- the indices of the rules' words, by the rules' numbers from 1
abbrev pub rule_places : List ℕ
rule_places = 4 ∷ 5 ∷ 6 ∷ 7 ∷ 8 ∷ 17 ∷ 9 ∷ 10 ∷ 11 ∷ 12 ∷ 13 ∷ 14 ∷ 15 ∷ 16 ∷ []

-- the index of a rule's word
abbrev pub rule_place : Invalid → ℕ
rule_place fault = slice_index rule_places (number fault - 1)

-- the index of a refusal's word
abbrev pub refusal_place : Refusal → ℕ
refusal_place refusals.HistoryFull = 0
refusal_place refusals.TicketsSpent = 1
refusal_place (refusals.AlreadyInPool ticket) = 2
refusal_place (refusals.Full need free) = 3
refusal_place refusals.NoMemory = 4
refusal_place (refusals.Invalid fault) = rule_place fault

-- the details of a fault; a key is shown by its first byte
abbrev pub told_of_fault : Names → Invalid → List ℕ
told_of_fault names rules.NoMemory = []
told_of_fault names rules.NoInputs = []
told_of_fault names rules.OutsideInterval = []
told_of_fault names (rules.NegativeOutput place) = number_text place
told_of_fault names (rules.InputMissing place) = number_text place
told_of_fault names (rules.ReferenceMissing place) = number_text place
told_of_fault names (rules.AddressMismatch place) = number_text place
told_of_fault names (rules.DatumMismatch place) = number_text place
told_of_fault names (rules.OutputTaken place) = number_text place
told_of_fault names (rules.ForgeWithoutPolicy policy) = 32 ∷ policy_text names policy
told_of_fault names (rules.Unbalanced policy name taken paid) = 32 ∷ token_text names policy name
told_of_fault names (rules.BadSignature key) = number_text (slice_index key 0)
told_of_fault names (rules.ValidatorRefused place) = number_text place
told_of_fault names (rules.PolicyRefused place) = number_text place

abbrev pub told_of_refusal : Names → Refusal → List ℕ
told_of_refusal names refusals.NoMemory = []
told_of_refusal names refusals.HistoryFull = []
told_of_refusal names refusals.TicketsSpent = []
told_of_refusal names (refusals.AlreadyInPool ticket) = number_text ticket
told_of_refusal names (refusals.Full need free) = number_text need ++ number_text free
told_of_refusal names (refusals.Invalid fault) = told_of_fault names fault

-- the word and its details
unfoldable pub refusal_text : Names → Refusal → List ℕ
refusal_text names refusal = word_at refusal_words (refusal_place refusal) ++ told_of_refusal names refusal

-- each ticket after a space
abbrev pub tickets_text : List ℕ → List ℕ
tickets_text tickets = flat_map number_text tickets

abbrev pub reply_text : Reply → List ℕ
reply_text (Accepted ticket) = codes "accepted" ++ number_text ticket
reply_text (Removed named dropped) = codes "removed" ++ tickets_text named ++ codes " dropped" ++ tickets_text dropped
reply_text (Synced kept dropped) = codes "kept" ++ tickets_text kept ++ codes " dropped" ++ tickets_text dropped

-- the text of an answer
abbrev pub told_text : Names → Result Reply Refusal → List ℕ
told_text names (Ok reply) = reply_text reply
told_text names (Err refusal) = codes "refused " ++ refusal_text names refusal

-- with a line feed at the end
unfoldable pub answer_text : Names → Result Reply Refusal → List ℕ
answer_text names answer = told_text names answer ++ 10 ∷ []

-- the answer to a transaction's bytes: its id comes after the words
unfoldable pub given_text : Names → Result Reply Refusal → List ℕ → List ℕ
given_text names answer id = (told_text names answer ++ 32 ∷ encode_lower id) ++ 10 ∷ []

-- an id that has no name is reported by its digits
abbrev pub name_or_id : List ℕ → List ℕ → List ℕ
name_or_id [] id = encode_lower id
name_or_id (first ∷ others) id = first ∷ others

-- the name or the digits under which an id is reported
abbrev pub tx_name_text : Names → List ℕ → List ℕ
tx_name_text names id = if names.by_id then encode_lower id else name_or_id (name_of id names) id

-- the ticket, a colon and the name
abbrev pub item_text : Names → ℕ × Transaction → List ℕ
item_text names item = number_text item.0 ++ 58 ∷ tx_name_text names (id_of item.1)

-- the items, oldest first
abbrev pub items_text : Names → List (ℕ × Transaction) → List ℕ
items_text names items = flat_map (item_text names) items

-- the number of transactions, their bytes, and the last ticket
abbrev pub numbers_text : Pool → List ℕ
numbers_text p = number_text (length p.items) ++ number_text (bytes_held p) ++ number_text p.last
