-- The entries of a bundle, one by one.
use Rattle.std.proofs.Common.{◌≡◌, ℕ, ◌==◌, List, Option, Some, None, ap, ◌∙◌, sym}
use Rattle.std.specs.Prelude.{option_and_then}
use Rattle.std.specs.List.{slice_split}
use Rattle.mp_bundle.specs.Bundle.{TokenEntry}
use Rattle.mp_names.specs.Splitting.{split_once}
use Rattle.mp_names.specs.Rising.{entry_cmp, insert_rising}
use Rattle.mp_names.specs.Names.{Names}
use Rattle.mp_names.specs.Bundles.{entry_of, put_entries}
use Rattle.mp_names.proofs.Parts.{parts_left, parts-first}

-- the entries made of an entry and the words after it
abbrev put_more : Names → List TokenEntry → List (List ℕ) → Option TokenEntry → Option (List TokenEntry)
put_more names es words e = option_and_then (λ x. put_entries names (insert_rising entry_cmp x es) words) e

put_first : (names : Names) (es : List TokenEntry) (part first : List ℕ) (rest : Option (List ℕ)) (all : Option (List TokenEntry))
    → put_entries names es (slice_split (λ b. b == 44) part) ≡ all → first ≡ (split_once 44 part).0 → rest ≡ (split_once 44 part).1
    → all ≡ put_more names es (parts_left 44 rest) (entry_of names first)
put_first names es part first rest all before is left =
    sym before ∙ ap (put_entries names es) (parts-first 44 part)
    ∙ ap (λ r. put_more names es (parts_left 44 r) (entry_of names (split_once 44 part).0)) (sym left)
    ∙ ap (λ f. put_more names es (parts_left 44 rest) (entry_of names f)) (sym is)

pub put-bad : (names : Names) (es : List TokenEntry) (part first : List ℕ) (rest : Option (List ℕ)) (all : Option (List TokenEntry))
    → put_entries names es (slice_split (λ b. b == 44) part) ≡ all → first ≡ (split_once 44 part).0 → rest ≡ (split_once 44 part).1
    → entry_of names first ≡ None → all ≡ None
put-bad names es part first rest all before is left bad =
    put_first names es part first rest all before is left ∙ ap (put_more names es (parts_left 44 rest)) bad

pub put-more : (names : Names) (es after : List TokenEntry) (part first : List ℕ) (rest : Option (List ℕ)) (all : Option (List TokenEntry)) (e : TokenEntry)
    → put_entries names es (slice_split (λ b. b == 44) part) ≡ all → first ≡ (split_once 44 part).0 → rest ≡ (split_once 44 part).1
    → entry_of names first ≡ Some e → after ≡ insert_rising entry_cmp e es → put_entries names after (parts_left 44 rest) ≡ all
put-more names es after part first rest all e before is left found put =
    ap (λ xs. put_entries names xs (parts_left 44 rest)) put
    ∙ sym (put_first names es part first rest all before is left ∙ ap (put_more names es (parts_left 44 rest)) found)
