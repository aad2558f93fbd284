-- The effect of a transaction on a ledger state is its effect on the outputs that can be spent.
use Rattle.std.proofs.Common.{◌≡◌, ℕ, ◌<◌, length, ap, ◌∙◌}
use Rattle.std.specs.Prelude.{None}
use Rattle.std.specs.Option.{option_or}
use Rattle.std.specs.FinMap.{get}
use Rattle.mp_tx.specs.declared.reference.OutRef.{OutRef}
use Rattle.mp_tx.specs.Transaction.{Transaction, spent_refs}
use Rattle.mp_tx.specs.Ledger.{LedgerState, Utxo, without, AreFree}
use Rattle.mp_utxo.specs.Apply.{apply, own_ref, output_made}
use Rattle.mp_rules.specs.Block.{made_by, apply_tx}
use Rattle.mp_rules.proofs.Spending.{not_back, get-spent}
use Rattle.mp_rules.proofs.Making.{outputs_free, get-made}

pub get-apply_tx : (l : LedgerState) (t : Transaction) (r : OutRef) → get (apply_tx l t).utxo r ≡ apply t (get l.utxo) r
get-apply_tx l t r =
    get-made t (without l.utxo (spent_refs t.inputs)) r
    ∙ ap (option_or (output_made t r)) (get-spent l.utxo t.inputs r)

-- none of its outputs is there when what it spends is gone
pub made_is_free : (u : Utxo) (t : Transaction) → ((k : ℕ) → k < length t.outputs → get u (own_ref t k) ≡ None) → AreFree (without u (spent_refs t.inputs)) (made_by t)
made_is_free u t new = outputs_free (without u (spent_refs t.inputs)) t (λ k lt. not_back u (spent_refs t.inputs) (own_ref t k) (new k lt))
