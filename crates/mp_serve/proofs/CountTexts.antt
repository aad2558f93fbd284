-- The texts of counts, one after the other.
use Rattle.std.proofs.Common.{◌≡◌, ℕ, ◌+◌, ◌<◌, ◌≤◌, List, [], ◌∷◌, ◌++◌, length, drop, map, sym, ap, subst, ◌∙◌, arith, Bor}
use Rattle.std.specs.Prelude.{slice_index_or}
use Rattle.std.proofs.lemmas.List.{at_drop_more, append_assoc, get_or-map, length-map}
use Rattle.mp_serve.specs.Refused.{count_text, texts}

texts_at : (words : List (List ℕ)) (counts : List ℕ) (i : ℕ) → i < length words → i < length counts
    → texts (drop i words) (drop i counts) ≡ count_text (slice_index_or words i []) (slice_index_or counts i 0) ++ texts (drop (i + 1) words) (drop (i + 1) counts)
texts_at words counts i l m =
    at_drop_more (λ ws. texts ws (drop i counts)) words i [] l ∙ at_drop_more (texts (slice_index_or words i [] ∷ drop (i + 1) words)) counts i 0 m

abbrev read : List (Bor (List ℕ)) → List (List ℕ)
read words = map (λ w. w.now) words

-- after adding a word's text, the text so far and the texts that are left still make the whole
pub text-more : (words : List (Bor (List ℕ))) (counts : List ℕ) (i : ℕ) (d : Bor (List ℕ)) (before after whole : List ℕ)
    → i < length words → length words ≤ length counts
    → after ≡ before ++ count_text (slice_index_or words i d).now (slice_index_or counts i 0)
    → before ++ texts (drop i (read words)) (drop i counts) ≡ whole
    → after ++ texts (drop (i + 1) (read words)) (drop (i + 1) counts) ≡ whole
text-more words counts i d before after whole lt le e is =
    let rest : List ℕ = texts (drop (i + 1) (read words)) (drop (i + 1) counts) in
    let here : List ℕ → List ℕ = λ word. count_text word (slice_index_or counts i 0) in
    let step : texts (drop i (read words)) (drop i counts) ≡ here (slice_index_or words i d).now ++ rest =
    texts_at (read words) counts i (subst (λ n. i < n) (sym (length-map words (λ w. w.now))) lt) (omega (arith, lt, le))
    ∙ ap (λ word. here word ++ rest) (get_or-map (λ w. w.now) words i d [] lt) in
    ap (λ text. text ++ rest) e ∙ append_assoc before (here (slice_index_or words i d).now) rest ∙ ap (λ texts. before ++ texts) (sym step) ∙ is
