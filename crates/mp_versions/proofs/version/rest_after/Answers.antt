use Rattle.std.proofs.Common.{subst, arith}
use Rattle.std.specs.Prelude.{IfOk}
use Rattle.mp_versions.specs.Layout.{items_in}
use Rattle.mp_versions.specs.Inside.Version.{IsRestOf}
use Rattle.mp_versions.specs.declared.version.Rest.{Rest}
use Rattle.mp_versions.proofs.Gone.{apart_none, rising_apart, fewer}
use Rattle.mp_versions.proofs.version.rest_after.Goals as goal

pub take_out-requires-in-Removed-2-clause-rising : goal.take_out-requires-in-Removed-2-clause-rising
take_out-requires-in-Removed-2-clause-rising c =
    rw (c.in_ok-rest-in-Removed.ensures.all) (rising_apart c.as_slice-in-Removed.result.now 0 (items_in c.args.layout.now) c.requires.rising)

pub take_out-requires-in-Removed-2-clause-most : goal.take_out-requires-in-Removed-2-clause-most
take_out-requires-in-Removed-2-clause-most c =
    let less = fewer c.as_slice-in-Removed.result.now (items_in c.args.layout.now) in
    let was = c.requires.bytes in
    let most = c.requires.most in
    let is = c.in_ok-rest-in-Removed.ensures.bytes in
    omega (arith, less, was, most, is)

pub returns-in-Accepted : goal.returns-in-Accepted
returns-in-Accepted c =
    rw (c.in-Accepted.is) (subst (λ items. IfOk c.take_out.result (λ (rest : Rest). IsRestOf items rest)) (apart_none (items_in c.args.layout.now)) c.take_out.ensures)
