use Rattle.std.proofs.Common.{ℕ, List, ap, sym, subst, ◌∙◌}
use Rattle.std.specs.Prelude.{Option, IfSome}
use Rattle.mp_utxo.specs.declared.applied.Applied.{Applied}
use Rattle.mp_utxo.specs.Overlay.{Overlay}
use Rattle.mp_utxo.specs.Leaf.{IsSpentBy}
use Rattle.mp_utxo.specs.Inside.Applied.{items}
use Rattle.mp_utxo.specs.Inside.Changes.{last_change}
use Rattle.mp_utxo.specs.Inside.Leaf.{spender_of}
use Rattle.mp_utxo.proofs.Ends.{spender}
use Rattle.mp_utxo.proofs.overlay.Overlay.spender_of.Goals as goal

pub returns : goal.returns
returns c =
    let r = c.args.reference.now in
    let o = last_change c.self.inside.changes.entries r in
    let is = c.spender_of.ensures ∙ ap (λ (l : List Applied). spender_of l o) c.deref.ensures.value in
    subst (λ (p : Overlay). IfSome c.spender_of.result (IsSpentBy p.items r)) c.self.view_is
    (subst (λ (n : Option ℕ). IfSome n (IsSpentBy (items c.self.inside.applied.items) r)) (sym is) (spender c.self.inside.applied.items r o (c.self.invariant.changes.made r)))
