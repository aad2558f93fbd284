-- A pool stays lawful, whatever the command.
use Rattle.std.proofs.Common.{◌≡◌, sym, subst}
use Rattle.std.specs.Prelude.{Result, Ok, Err, OnOk, OnErr}
use Rattle.mp_signatures.specs.declared.scheme.Scheme.{Scheme}
use Rattle.mp_signatures.specs.Scheme.{accepted_by}
use Rattle.mp_seqpool.specs.Command.{Command}
use Rattle.mp_seqpool.specs.Pool.{Pool}
use Rattle.mp_seqpool.specs.PoolLaws.{IsLawful}
use Rattle.mp_seqpool.specs.SlowPool.{next}
use Rattle.mp_seqpool.proofs.Histories.{lawful-next}

-- whether it executed the command or had no memory for it
pub lawful_either : {X E : Type 0} (scheme : Scheme) (r : Result X E) (old new : Pool) (c : Command) → OnOk r (new ≡ next (accepted_by scheme) old c)
    → OnErr r (new ≡ old) → IsLawful (accepted_by scheme) old → IsLawful (accepted_by scheme) new
lawful_either scheme (Ok x) old new c done same law = subst (IsLawful (accepted_by scheme)) (sym done) (lawful-next (accepted_by scheme) old c law)
lawful_either scheme (Err e) old new c done same law = subst (IsLawful (accepted_by scheme)) (sym same) law
