-- What follows a prefix of a text.
use Rattle.std.proofs.Common.{◌≡◌, ℕ, ◌+◌, true, false, List, ◌++◌, length, take, drop, sym, ap, ◌∙◌, MatchOption, Option, None, Some, IfSome, nat_eq}
use Rattle.std.specs.Prelude.{IfNone}
use Rattle.std.specs.Borrow.{Bor}
use Rattle.std.specs.Cmp.Lexicographic.{pointwise, bytes_decides}
use Rattle.std.proofs.lemmas.Bool.{false≢true}
use Rattle.std.proofs.Math.Seq.{take-append_seam}
use Rattle.std.proofs.lemmas.List.{take-append-drop}
use Rattle.mp_race.specs.Inside.HistoryReading.{IsApart}

-- what `strip_prefix` guarantees
abbrev pub IsStripped : List ℕ → List ℕ → Option (Bor (List ℕ)) → Type 0
IsStripped text front o =
    MatchOption o (pointwise nat_eq (take (length front) text) front ≡ false)
    (λ x. (pointwise nat_eq (take (length front) text) front ≡ true) × (x.now ≡ drop (length front) text) × (length x.now + length front ≡ length text))

pub behind-some : (text front : List ℕ) (o : Option (Bor (List ℕ))) → IsStripped text front o → IfSome o (λ rest. text ≡ front ++ rest.now)
behind-some text front None is = tt
behind-some text front (Some rest) is =
    let same : take (length front) text ≡ front = (bytes_decides (take (length front) text) front).0 is.0 in
    sym (take-append-drop (length front) text) ∙ ap (λ l. l ++ drop (length front) text) same ∙ ap (λ l. front ++ l) (sym is.1)

pub behind-none : (text front : List ℕ) (o : Option (Bor (List ℕ))) → IsStripped text front o → IfNone o (IsApart text front)
behind-none text front None is = λ rest begins.
    let same : take (length front) text ≡ front = ap (take (length front)) begins ∙ take-append_seam front rest in
    false≢true (sym is ∙ (bytes_decides (take (length front) text) front).1 same)
behind-none text front (Some rest) is = tt
