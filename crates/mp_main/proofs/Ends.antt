-- The end of a command, given what is known of the bytes.
use Rattle.std.proofs.Common.{◌≡◌, ℕ, List, []}
use Rattle.std.proofs.Common.{refl, sym, append-nil}
use Rattle.std.specs.Prelude.{Option, None, Some, IfSome, Result}
use Rattle.std.specs.Io.KnownBytes.{Appends, Keeps}
use Rattle.mp_main.specs.Status.{status_of, EndsAs}

-- the result is this one, whatever the bytes are
pub ends : {T E : Type 0} (Holds : List ℕ → Result T E → Type 0) (known : Option (List ℕ)) (r : Result T E) (status : ℕ) → IfSome known (λ bytes. Holds bytes r) → status ≡ status_of r
    → IfSome known (λ bytes. EndsAs (Holds bytes) status)
ends Holds None r status holds is = tt
ends Holds (Some bytes) r status holds is = (r, holds, is)

pub keeps : (known : Option (List ℕ)) → Keeps known known
keeps None = tt
keeps (Some bytes) = refl

pub appends-nothing : (known : Option (List ℕ)) → Appends known known []
appends-nothing None = tt
appends-nothing (Some bytes) = sym (append-nil bytes)

pub for_all : (P : List ℕ → Type 0) (known : Option (List ℕ)) → ((bytes : List ℕ) → P bytes) → IfSome known P
for_all P None all = tt
for_all P (Some bytes) all = all bytes
