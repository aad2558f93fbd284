use Rattle.std.proofs.Common.{rules, ◌≡◌, length, refl, sym, ap, subst, arith, ◌∙◌}
use Rattle.std.specs.Vec.{vec_len}
use Rattle.std.specs.Vec.Iter.{into_iter_items}
use Rattle.mp_tx.specs.Inside.Changes.{changed}
use Rattle.mp_tx.proofs.Layering.{nothing_in}
use Rattle.mp_tx.proofs.Blocks.{IsMade, nothing_made, made_more, first_taken, all_made}
use Rattle.mp_tx.proofs.ledger.outputs.Outputs.make.Goals as goal

pub loop-reference-init : goal.loop-reference-init
loop-reference-init c =
    let from = c.into_iter-reference-iterator.ensures.into_iter_gives in
    let len : vec_len c.args.made ≡ length c.args.made.items = Prim.search rules in
    record {
      made = nothing_made c.args.self.now.utxo c.args.made.items (into_iter_items c.into_iter-reference-iterator.result) c.args.changes.now.entries from.0;
      salt = refl;
      len = from.1 ∙ len ∙ ap length (sym from.0);
    }

pub returns-then-is_there-clause-fault : goal.returns-then-is_there-clause-fault
returns-then-is_there-clause-fault c =
    let v = c.args.self.now.utxo in
    let made = subst (λ left. IsMade v (changed v c.args.changes.now.entries) c.args.made.items left c.loop-reference.changes.entries c.loop-reference.place) c.in-Some.ensures.steps.0 c.loop-reference.invariant.made in
    first_taken v _ c.args.made.items (into_iter_items c.next.new.self) c.loop-reference.changes.entries c.loop-reference.place (c.in-Some.reference, c.in-Some.output) (sym c.is_there.ensures ∙ c.if-is_there.true) made

pub loop-reference-preserved : goal.loop-reference-preserved
loop-reference-preserved c =
    let v = c.args.self.now.utxo in
    let made = subst (λ left. IsMade v (changed v c.args.changes.now.entries) c.args.made.items left c.loop-reference.changes.entries c.loop-reference.place) c.in-Some.ensures.steps.0 c.loop-reference.invariant.made in
    let gone = c.in-Some.ensures.steps.1 in
    let short = ap length c.in-Some.ensures.steps.0 in
    let was = c.loop-reference.invariant.len in
    record {
      made = made_more v _ c.args.made.items (into_iter_items c.next.new.self) c.loop-reference.changes.entries c.note.new.changes.entries c.loop-reference.place (c.in-Some.reference, c.in-Some.output)
          (sym c.is_there.ensures ∙ c.if-is_there.false) (c.in_ok-note.ensures.changed v) made;
      salt = c.in_ok-note.ensures.salt ∙ c.loop-reference.invariant.salt;
      len = omega arith;
    }

pub returns-clause-ok : goal.returns-clause-ok
returns-clause-ok c =
    let none = nothing_in _ (sym c.loop-reference.invariant.len ∙ c.in-None.ensures.steps.0) in
    (all_made c.args.self.now.utxo _ c.args.made.items (into_iter_items c.loop-reference.reference-iterator) c.loop-reference.changes.entries c.loop-reference.place none c.loop-reference.invariant.made).0

pub returns-clause-free : goal.returns-clause-free
returns-clause-free c =
    let none = nothing_in _ (sym c.loop-reference.invariant.len ∙ c.in-None.ensures.steps.0) in
    (all_made c.args.self.now.utxo _ c.args.made.items (into_iter_items c.loop-reference.reference-iterator) c.loop-reference.changes.entries c.loop-reference.place none c.loop-reference.invariant.made).1
