-- The name of a token, stored in 32 bytes, the last of which are zeros.
use Rattle.std.specs.Prelude.{◌≡◌, ℕ, ◌-◌, ◌≤◌, List, ◌++◌, length, take, drop, replicate}
use Rattle.std.proofs.Common.{sym, ap, subst, ◌∙◌}
use Rattle.std.proofs.lemmas.List.{length-take-le, take-append-drop}
use Rattle.mp_bundle.specs.declared.token_name.TokenName.TheInside.{Inside}

-- the bytes of the name
abbrev pub name : Inside → List ℕ
name t = take t.len t.bytes

-- what is stored for a name
abbrev pub padded : List ℕ → Inside
padded bytes = record { bytes = bytes ++ replicate (32 - length bytes) 0; len = length bytes }

-- the bytes after the name are zeros
pub record IsPadded (t : Inside) : Type 0 where
  pub fits : t.len ≤ 32
  pub zeros : drop t.len t.bytes ≡ replicate (32 - t.len) 0
  pub whole : length t.bytes ≡ 32

-- a name gives its 32 bytes back
pub padded-name : (t : Inside) → IsPadded t → padded (name t) ≡ t
padded-name t h =
    let e : length (take t.len t.bytes) ≡ t.len =
    length-take-le t.len t.bytes (subst (λ n. t.len ≤ n) (sym h.whole) h.fits) in
    let b : take t.len t.bytes ++ replicate (32 - length (take t.len t.bytes)) 0 ≡ t.bytes =
    ap (λ n. take t.len t.bytes ++ replicate (32 - n) 0) e
    ∙ ap (λ z. take t.len t.bytes ++ z) (sym h.zeros) ∙ take-append-drop t.len t.bytes in
    λ i. record { bytes = b i; len = e i }
