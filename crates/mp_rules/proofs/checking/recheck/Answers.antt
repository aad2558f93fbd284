use Rattle.std.proofs.Common.{sym, ◌∙◌}
use Rattle.mp_rules.proofs.Order.{told_by_map, told_by_script, clear}
use Rattle.mp_rules.proofs.checking.recheck.Goals as goal

pub returns-in_err-resolved-clause-fault : goal.returns-in_err-resolved-clause-fault
returns-in_err-resolved-clause-fault g c =
    told_by_map (g.V.Verifier.accepts c.args._verifier.now) (g.U.Utxo.map c.args.utxo.now) c.args.tick c.args.tx.now c.from_residual.result c.in_err-resolved.field-0.0 c.from_residual.ensures.1 c.in_err-resolved.ensures

pub returns-in-Some-clause-fault : goal.returns-in-Some-clause-fault
returns-in-Some-clause-fault g c =
    told_by_script (g.V.Verifier.accepts c.args._verifier.now) (g.U.Utxo.map c.args.utxo.now) c.args.tick c.args.tx.now c.in_ok-resolved.resolved c.in_ok-resolved.ensures c.requires.signed c.in-Some.fault
    (sym c.in_ok-fault.ensures ∙ c.in-Some.is)

pub returns-clause-clear : goal.returns-clause-clear
returns-clause-clear g c =
    clear (g.V.Verifier.accepts c.args._verifier.now) (g.U.Utxo.map c.args.utxo.now) c.args.tick c.args.tx.now c.in_ok-resolved.resolved c.in_ok-resolved.ensures c.requires.signed
    (sym c.in_ok-fault.ensures ∙ c.in_default.is)
