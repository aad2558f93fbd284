use Rattle.std.proofs.Common.{◌≡◌, ◌+◌, ◌^◌, List, true, false, sym, ap, subst, rules, arith}
use Rattle.std.specs.Prelude.{nat_lt, is_some, IsNone}
use Rattle.std.specs.FinMap.{get}
use Rattle.std.proofs.lemmas.Bool.Decides.{nat_tests}
use Rattle.mp_tx.specs.declared.reference.OutRef.{OutRef}
use Rattle.mp_tx.specs.declared.output.Output.{Output}
use Rattle.mp_tx.specs.Ledger.{LedgerState, with_outputs, AreFree}
use Rattle.mp_names.specs.Payments.{output_of}
use Rattle.mp_names.specs.References.{opening_ref}
use Rattle.mp_session.specs.Inside.Beginning.{AreBelow}
use Rattle.mp_session.proofs.Pending.{get-next, free_push, all_below, out_taken, out_put}
use Rattle.mp_session.proofs.beginning.Beginning.put_out.Goals as goal

pub returns-then-is_taken-clause-bad : goal.returns-then-is_taken-clause-bad
returns-then-is_taken-clause-bad c u =
    let l : LedgerState = c.self.inside.ledger in
    let taken : is_some (get l.utxo (opening_ref c.self.inside.outs)) ≡ true = search rules in
    rw (← c.self.view_is) (out_taken l c.self.inside.pending.items c.self.inside.outs c.args.payment c.self.invariant.named taken)

pub invariant_of-self-2 : goal.invariant_of-self-2
invariant_of-self-2 c =
    let l : LedgerState = c.self.inside.ledger in
    let es : List (OutRef × Output) = c.self.inside.pending.items in
    let n = c.self.inside.outs in
    let r : OutRef = c.opening_ref-reference.result in
    let is : r ≡ opening_ref n = c.opening_ref-reference.ensures in
    let e : OutRef × Output = (r, output_of c.args.payment) in
    let free : IsNone (get l.utxo (opening_ref n)) = search rules in
    let there : IsNone (get (with_outputs l.utxo es) r) =
    subst (λ q. IsNone (get (with_outputs l.utxo es) q)) (sym is) (subst IsNone (sym (get-next l.utxo n es c.self.invariant.named)) free) in
    record {
      named = subst (AreBelow (n + 1)) (sym c.in_ok-put_named.ensures.pending) (all_below n es e c.self.invariant.named (ap (λ (q : OutRef). q.index) is));
      free = subst (AreFree l.utxo) (sym c.in_ok-put_named.ensures.pending) (free_push l.utxo es e c.self.invariant.free there);
    }

pub returns-clause-ok : goal.returns-clause-ok
returns-clause-ok c =
    let l : LedgerState = c.self.inside.ledger in
    let n = c.self.inside.outs in
    let free : is_some (get l.utxo (opening_ref n)) ≡ false = search rules in
    let few : nat_lt n (2 ^ 16) ≡ true = grind (arith, nat_tests) in
    rw (c.in_ok-put_named.ensures.pending, c.opening_ref-reference.ensures, ← c.self.view_is) (out_put l c.self.inside.pending.items n c.args.payment c.self.invariant.named free few)
