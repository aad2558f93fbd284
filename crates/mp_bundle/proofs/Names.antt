-- A name that is put into 32 zeros.
use Rattle.std.proofs.Common.{ℕ, ◌≤◌, List, ◌++◌, length, drop, ◌∙◌, arith, length-append, length-drop}
use Rattle.std.specs.Prelude.{replicate}
use Rattle.std.proofs.lemmas.List.{drop-replicate}
use Rattle.std.proofs.Math.Seq.{drop-append_seam}
use Rattle.mp_bundle.specs.Inside.TokenName.{IsPadded}

pub is_padded : (xs : List ℕ) → length xs ≤ 32 → IsPadded (record { bytes = xs ++ drop (length xs) (replicate 32 0); len = length xs })
is_padded xs le = record {
  fits = le;
  zeros = drop-append_seam xs (drop (length xs) (replicate 32 0)) ∙ drop-replicate (length xs) 32 0;
  whole = omega (arith, length-append xs (drop (length xs) (replicate 32 0)), length-drop {A = ℕ} (length xs) (replicate 32 0));
}
