use Rattle.std.proofs.Common.{sym, ◌∙◌}
use Rattle.mp_rules.proofs.Order.{told_by_map, told_by_signature, told_by_script, clear}
use Rattle.mp_rules.proofs.Valid.{valid}
use Rattle.mp_rules.proofs.checking.check_with.Goals as goal

pub returns-in_err-resolved-clause-fault : goal.returns-in_err-resolved-clause-fault
returns-in_err-resolved-clause-fault g c =
    told_by_map (g.V.Verifier.accepts c.args._verifier.now) (g.U.Utxo.map c.args.utxo.now) c.args.tick c.args.tx.now c.from_residual.result c.in_err-resolved.field-0.0 c.from_residual.ensures.1 c.in_err-resolved.ensures

pub returns-in-Some-clause-fault : goal.returns-in-Some-clause-fault
returns-in-Some-clause-fault g c =
    told_by_signature (g.V.Verifier.accepts c.args._verifier.now) (g.U.Utxo.map c.args.utxo.now) c.args.tick c.args.tx.now c.in_ok-resolved.resolved c.in_ok-resolved.ensures c.in-Some.fault
    (sym c.requires.signature ∙ sym c.signature.ensures ∙ c.in-Some.is)

pub returns-in-Some-2-clause-fault : goal.returns-in-Some-2-clause-fault
returns-in-Some-2-clause-fault g c =
    told_by_script (g.V.Verifier.accepts c.args._verifier.now) (g.U.Utxo.map c.args.utxo.now) c.args.tick c.args.tx.now c.in_ok-resolved.resolved c.in_ok-resolved.ensures (sym c.requires.signature ∙ sym c.signature.ensures ∙ c.in_default.is) c.in-Some-2.fault
    (sym c.in_ok-fault.ensures ∙ c.in-Some-2.is)

pub returns-clause-clear : goal.returns-clause-clear
returns-clause-clear g c =
    clear (g.V.Verifier.accepts c.args._verifier.now) (g.U.Utxo.map c.args.utxo.now) c.args.tick c.args.tx.now c.in_ok-resolved.resolved c.in_ok-resolved.ensures (sym c.requires.signature ∙ sym c.signature.ensures ∙ c.in_default.is)
    (sym c.in_ok-fault.ensures ∙ c.in_default-2.is)

pub returns-clause-valid : goal.returns-clause-valid
returns-clause-valid g c =
    valid (g.V.Verifier.accepts c.args._verifier.now) (g.U.Utxo.map c.args.utxo.now) c.args.tick c.args.tx.now
    (clear (g.V.Verifier.accepts c.args._verifier.now) (g.U.Utxo.map c.args.utxo.now) c.args.tick c.args.tx.now c.in_ok-resolved.resolved c.in_ok-resolved.ensures (sym c.requires.signature ∙ sym c.signature.ensures ∙ c.in_default.is)
    (sym c.in_ok-fault.ensures ∙ c.in_default-2.is))

pub returns-clause-was_valid : goal.returns-clause-was_valid
returns-clause-was_valid g c = record {
  accepts = g.V.Verifier.accepts c.args._verifier.now;
  there = g.U.Utxo.map c.args.utxo.now;
  tick = c.args.tick;
  named = c.in_ok-resolved.ensures.0;
  clear = clear (g.V.Verifier.accepts c.args._verifier.now) (g.U.Utxo.map c.args.utxo.now) c.args.tick c.args.tx.now c.in_ok-resolved.resolved c.in_ok-resolved.ensures (sym c.requires.signature ∙ sym c.signature.ensures ∙ c.in_default.is)
      (sym c.in_ok-fault.ensures ∙ c.in_default-2.is);
}
