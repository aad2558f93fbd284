-- What a call guarantees if it ends with an error.
use Rattle.std.proofs.Common.{◌≡◌, sym, subst}
use Rattle.std.specs.Prelude.{Result, Ok, Err, IfOk, OnOk, IfErr, IsErr, IsErrAnd}

-- nothing about a value
pub no_value : {A E : Type 0} (r : Result A E) (P : A → Type 0) → IsErr r → IfOk r P
no_value (Ok x) P is = Prim.cc
no_value (Err e) P is = tt

pub not_ok : {A E : Type 0} (r : Result A E) (P : Type 0) → IsErr r → OnOk r P
not_ok (Ok x) P is = Prim.cc
not_ok (Err e) P is = tt

-- what holds of the error that is passed on
pub passed_on : {A E : Type 0} (r : Result A E) (P : E → Type 0) (f : E) → IsErrAnd r (λ e. e ≡ f) → P f → IfErr r P
passed_on (Ok x) P f is one = tt
passed_on (Err e) P f is one = subst P (sym is) one
