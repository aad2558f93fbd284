use Rattle.std.proofs.Common.{◌≤◌, ◌≡◌, ℕ, length, ap, arith}
use Rattle.std.proofs.lemmas.List.{length-map}
use Rattle.mp_tx.specs.declared.input.Input.{Input}
use Rattle.mp_tx.specs.Transaction.{spent_refs}
use Rattle.mp_rules.proofs.Sums.{filter_map-few}
use Rattle.mp_rules.proofs.map.resolve.Goals as goal

at_most : (a b c d e : ℕ) → a ≡ b → b ≤ c → c ≡ d → d ≡ e → e ≤ 256 → a ≤ 256
at_most a b c d e is few same also most = omega arith

pub of-requires-clause-spent : goal.of-requires-clause-spent
of-requires-clause-spent g c =
    at_most _ _ _ _ _ (ap length c.in_ok-spent.ensures.0) (filter_map-few (g.U.Utxo.map c.args.utxo.now) (spent_refs c.inputs.result.now)) (length-map c.inputs.result.now (λ (i : Input). i.from)) (ap length c.inputs.ensures.inputs) c.inputs.ensures.fits.few_inputs

same : (a : ℕ) → a ≡ a
same a = omega arith

pub of-requires-clause-referenced : goal.of-requires-clause-referenced
of-requires-clause-referenced g c =
    at_most _ _ _ _ _ (ap length c.in_ok-referenced.ensures.0) (filter_map-few (g.U.Utxo.map c.args.utxo.now) c.references.result.now) (same (length c.references.result.now)) (ap length c.references.ensures.references) c.references.ensures.fits.few_references
