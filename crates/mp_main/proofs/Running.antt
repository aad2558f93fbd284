-- The end of a run.
use Rattle.std.proofs.Common.{◌≡◌, ℕ, List, refl}
use Rattle.std.specs.Prelude.{Option, IfSome, Err}
use Rattle.mp_signatures.specs.declared.scheme.Scheme.{Scheme}
use Rattle.mp_session.specs.declared.fault.RunFault.TheVariants.{NoMemory, ReadFault}
use Rattle.mp_session.specs.Ending.{Ended}
use Rattle.mp_main.specs.Status.{EndsAs}
use Rattle.mp_main.proofs.Ends.{ends, keeps, appends-nothing, for_all}

-- nothing is read
pub unread : (scheme : Scheme) (known old : Option (List ℕ)) (status : ℕ) → status ≡ 1 → IfSome known (λ bytes. EndsAs (Ended scheme bytes old old) status)
unread scheme known old status is = ends (λ bytes. Ended scheme bytes old old) known (Err ReadFault) status (for_all (λ bytes. Ended scheme bytes old old (Err ReadFault)) known (λ bytes. keeps old)) is

-- an allocation fails
pub unkept : (scheme : Scheme) (known old : Option (List ℕ)) (status : ℕ) → status ≡ 1 → IfSome known (λ bytes. EndsAs (Ended scheme bytes old old) status)
unkept scheme known old status is = ends (λ bytes. Ended scheme bytes old old) known (Err NoMemory) status (for_all (λ bytes. Ended scheme bytes old old (Err NoMemory)) known (λ bytes. (0, (appends-nothing old, refl)))) is
