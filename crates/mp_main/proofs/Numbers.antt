-- A number that is read from an option's text.
use Rattle.std.proofs.Common.{◌≡◌, ◌<◌, ◌^◌, Result, Ok, Err, ℕ, refl, ap, arith, Option, Some, None, IfSome}
use Rattle.std.specs.Option.{option_map}
use Rattle.std.specs.Str.Parse.{ParsesUnsigned, digits_value, without_leading_plus}
use Rattle.clap.specs.Matches.{ReadsOne}
use Rattle.clap.specs.Values.{IsUnsignedIn}
use Rattle.clap.specs.Walk.{Text}
use Rattle.mp_main.specs.CommandLine.{number_of}

-- all numbers up to `top` fit into this many bits
pub number_read : {E : Type 0} (bits top : ℕ) → top < 2 ^ bits → (gives : Text → Result ℕ E → Type 0) (text : Option Text) (r : Option ℕ)
    → ((t : Text) (x : Result ℕ E) → gives t x → ParsesUnsigned bits 10 t x)
    → IfSome text (IsUnsignedIn 0 top) → (text ≡ None → r ≡ None) → ((t : Text) → text ≡ Some t → ReadsOne gives t r)
    → r ≡ option_map number_of text
number_read bits top fits gives None r only small none reads = none refl
number_read {E} bits top fits gives (Some t) r only small none reads = go r (reads t refl)
  where
    go : (o : Option ℕ) → ReadsOne gives t o → o ≡ Some (number_of t)
    go (Some n) h = ap Some (only t (Ok n) h).1
    go None h =
        let most = small.3 in
        let less : digits_value 10 (without_leading_plus t) < 2 ^ bits = omega (arith, most, fits) in
        absurd (only t (Err h.0) h.1 (small.0, less))
