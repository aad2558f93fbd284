use Rattle.std.proofs.Common.{sym, ap, subst, is_none}
use Rattle.std.specs.Prelude.{IfSome}
use Rattle.mp_rules.specs.Checked.{WasValid}
use Rattle.mp_rules.proofs.Meeting.{once_accepted, stays_clear}
use Rattle.mp_rules.proofs.checking.stays_valid.Goals as goal

pub returns-then-is_unmoved : goal.returns-then-is_unmoved
returns-then-is_unmoved g c =
    let was : WasValid c.args.tx.now c.in-Some.before.now = subst (λ o. IfSome o (λ b. WasValid c.args.tx.now b.now)) c.in-Some.is c.requires.valid in
    sym (ap is_none (stays_clear c.args.tx.now c.in-Some.before.now was (g.V.Verifier.accepts c.args.verifier.now) (g.U.Utxo.map c.args.utxo.now) c.args.tick c.requires.signed (c.is_unmoved.ensures c.if-is_unmoved.true)))

pub recheck-requires-clause-accepted : goal.recheck-requires-clause-accepted
recheck-requires-clause-accepted g c = once_accepted c.args.tx.now c.args.before c.requires.valid
