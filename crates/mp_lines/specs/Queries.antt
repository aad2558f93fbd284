-- The meaning of lines that only read the pool.
use Rattle.std.specs.Prelude.{ℕ, nat_eq, List, codes, Option, None, option_map, option_and_then, if◌then◌else◌}
use Rattle.std.specs.Cmp.Lexicographic.{pointwise}
use Rattle.mp_text.specs.Numbers.{number_of}
use Rattle.mp_names.specs.Names.{Names}
use Rattle.mp_names.specs.Ids.{id_meant}
use Rattle.mp_lines.specs.declared.query.Query.{Query}
use Rattle.mp_lines.specs.declared.query.Query.TheVariants.{Snapshot, After, Lookup, Has, Take, Forge, Offer}
use Rattle.mp_lines.specs.Words.{no_word, one_word, two_words}

-- the number in a line that has one
abbrev pub one_number : List (List ℕ) → Option ℕ
one_number words = option_and_then number_of (one_word words)

-- snapshot
abbrev pub snapshot_query : List (List ℕ) → Option Query
snapshot_query words = option_map (λ u. Snapshot) (no_word words)

-- has TX
abbrev pub has_query : Names → List (List ℕ) → Option Query
has_query names words = option_map Has (option_and_then (id_meant names) (one_word words))

abbrev pub offer_by : List ℕ × List ℕ → Option Query
offer_by words = option_and_then (λ count. option_map (Offer count) (number_of words.1)) (number_of words.0)

-- offer COUNT BYTES
abbrev pub offer_query : List (List ℕ) → Option Query
offer_query words = option_and_then offer_by (two_words words)

-- take BYTES, forge BYTES, offer COUNT BYTES
abbrev pub first_query : List ℕ → List (List ℕ) → Option Query
first_query word words =
    if pointwise nat_eq word (codes "take") then option_map Take (one_number words)
    else if pointwise nat_eq word (codes "forge") then option_map Forge (one_number words)
    else if pointwise nat_eq word (codes "offer") then offer_query words
    else None

-- by the first word; after TICKET and lookup TICKET too
abbrev pub query_of : Names → List ℕ → List (List ℕ) → Option Query
query_of names word words =
    if pointwise nat_eq word (codes "snapshot") then snapshot_query words
    else if pointwise nat_eq word (codes "after") then option_map After (one_number words)
    else if pointwise nat_eq word (codes "lookup") then option_map Lookup (one_number words)
    else if pointwise nat_eq word (codes "has") then has_query names words
    else first_query word words
