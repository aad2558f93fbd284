-- When a policy and a name have a token.
use Rattle.std.proofs.Common.{◌≡◌, ℕ, ◌<◌, Bool, true, false, cond, List, length, refl, arith}
use Rattle.std.specs.Prelude.{Some, None, nat_le}
use Rattle.std.proofs.lemmas.Bool.Decides.{nat_tests}
use Rattle.mp_bundle.specs.declared.token.Token.{Token}
use Rattle.mp_bundle.specs.Token.{token}

chosen : {X : Type 0} (b : Bool) (x y : X) → cond b (Some x) None ≡ Some y → x ≡ y
chosen true x y e = Prim.cc
chosen false x y e = Prim.cc

unchosen : {X : Type 0} (b : Bool) (x : X) → cond b (Some x) None ≡ None → b ≡ false
unchosen true x e = Prim.cc
unchosen false x e = refl

pub named : (policy name : List ℕ) (t : Token) → cond (nat_le (length name) 32) (Some (token policy name)) None ≡ Some t → token policy name ≡ t
named policy name t e = chosen (nat_le (length name) 32) (token policy name) t e

pub unnamed : (policy name : List ℕ) → cond (nat_le (length name) 32) (Some (token policy name)) None ≡ None → 32 < length name
unnamed policy name e = let long = unchosen (nat_le (length name) 32) (token policy name) e in grind (arith, nat_tests)
