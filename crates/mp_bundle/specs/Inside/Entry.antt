-- Entries as they are checked, one after the other.
use Rattle.std.specs.Prelude.{Option}
use Rattle.std.specs.Option.{option_map}
use Rattle.std.specs.Borrow.{Bor}
use Rattle.mp_bundle.specs.declared.token.Token.{Token}
use Rattle.mp_bundle.specs.BundleFault.{Given, token_of}

-- the token of the entry before, if there is one
abbrev pub token_before : {Z : Type 0} → Option (Bor (Given Z)) → Option Token
token_before before = option_map (λ b. token_of b.now) before
