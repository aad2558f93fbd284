-- The first line of a text.
use Rattle.std.proofs.Common.{◌≡◌, ℕ, suc, ◌+◌, ◌==◌, ◌<◌, cond, not, true, false, List, [], ◌∷◌, length, take, drop, refl, sym, ap, ◌∙◌, arith}
use Rattle.std.specs.List.{position_or_len, onto_first}
use Rattle.mp_text.specs.Lines.{lines_of}

-- how many bytes precede the first line feed
abbrev pub end_of : List ℕ → ℕ
end_of text = position_or_len (λ b. b == 10) text

-- the lines, if `first_line` cuts at this index
abbrev cut_at : ℕ → List ℕ → List (List ℕ)
cut_at end text = take end text ∷ lines_of (drop (end + 1) text)

-- one more byte before the first line
longer : (b : ℕ) (text : List ℕ) (end : ℕ) → lines_of text ≡ cut_at end text → onto_first b (lines_of text) ≡ cut_at (1 + end) (b ∷ text)
longer b text end is =
    let counted : suc end ≡ 1 + end = omega arith in
    let step : cut_at (suc end) (b ∷ text) ≡ cut_at (1 + end) (b ∷ text) = ap (λ n. cut_at n (b ∷ text)) counted in
    let after : suc end + 1 ≡ suc (end + 1) = omega arith in
    ap (onto_first b) is ∙ ap (λ n. (b ∷ take end text) ∷ lines_of (drop n (b ∷ text))) (sym after) ∙ step

pub lines_of-first : (b : ℕ) (text : List ℕ) → lines_of (b ∷ text) ≡ cut_at (end_of (b ∷ text)) (b ∷ text)
lines_of-first b [] = elim (b == 10) as (λ t. cond t ([] ∷ []) ((b ∷ []) ∷ []) ≡ cut_at (cond (not t) 1 0) (b ∷ [])) [ true ↦ refl | false ↦ refl ]
lines_of-first b (c ∷ text) =
    elim (b == 10) as (λ t. cond t ([] ∷ lines_of (c ∷ text)) (onto_first b (lines_of (c ∷ text))) ≡ cut_at (cond (not t) (1 + end_of (c ∷ text)) 0) (b ∷ c ∷ text))
    [ true ↦ refl | false ↦ longer b (c ∷ text) (end_of (c ∷ text)) (lines_of-first c text) ]

pub lines_of-cut : (text : List ℕ) (end : ℕ) → 0 < length text → end ≡ end_of text → lines_of text ≡ cut_at end text
lines_of-cut [] end some is = absurd (omega arith)
lines_of-cut (b ∷ text) end some is = lines_of-first b text ∙ ap (λ n. cut_at n (b ∷ text)) (sym is)
