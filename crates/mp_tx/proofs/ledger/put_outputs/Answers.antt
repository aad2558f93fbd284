use Rattle.std.proofs.Common.{rules, ◌≡◌, ◌+◌, ◌++◌, length, true, false, if◌then◌else◌, refl, sym, ap, subst, ◌∙◌, arith}
use Rattle.std.specs.Option.{is_some}
use Rattle.std.specs.Map.{lookup}
use Rattle.std.specs.Vec.{vec_len}
use Rattle.std.specs.Vec.Iter.{into_iter_items}
use Rattle.indexmap.proofs.CallerLemmas.{insert_entry-new}
use Rattle.mp_tx.specs.Reference.{same_ref}
use Rattle.mp_tx.specs.Ledger.{refs, AreDistinct}
use Rattle.mp_tx.proofs.Repeats.{IsPut, repeats, one_more, all_put, not_there}
use Rattle.mp_tx.proofs.ledger.put_outputs.Goals as goal

pub loop-reference-init : goal.loop-reference-init
loop-reference-init c =
    let from = c.into_iter-reference-iterator.ensures.into_iter_gives in
    let len : vec_len c.args.outputs ≡ length c.args.outputs.items = Prim.search rules in
    record {
      put = record {
        whole = ap (λ es. es ++ into_iter_items c.into_iter-reference-iterator.result) c.requires ∙ from.0;
        distinct = subst (λ es. AreDistinct (refs es)) (sym c.requires) (λ i j d lt within. absurd (omega arith));
      };
      salt = refl;
      len = from.1 ∙ len ∙ ap length (sym from.0);
    }

pub returns-then-is_some-clause-fault : goal.returns-then-is_some-clause-fault
returns-then-is_some-clause-fault c =
    let there : is_some c.in_ok-insert.field-0 ≡ true = sym c.is_some.ensures ∙ c.if-is_some.true in
    let len = ap (λ b. length c.loop-reference.map.entries + (if b then 0 else 1)) there in
    let place = c.len.ensures.len ∙ c.in_ok-insert.ensures.len ∙ len in
    repeats _ c.loop-reference.map.entries (into_iter_items c.next.new.self) (c.in-Some.reference, c.in-Some.output) c.len.result
    (sym (ap is_some c.in_ok-insert.ensures.old) ∙ there)
    (omega arith)
    (subst (IsPut c.args.outputs.items c.loop-reference.map.entries) c.in-Some.ensures.steps.0 c.loop-reference.invariant.put)

pub loop-reference-preserved : goal.loop-reference-preserved
loop-reference-preserved c =
    let absent : is_some (lookup (same_ref c.in-Some.reference) c.loop-reference.map.entries) ≡ false =
    sym (ap is_some c.in_ok-insert.ensures.old) ∙ sym c.is_some.ensures ∙ c.if-is_some.false in
    let was = c.loop-reference.invariant.len in
    let gone = c.in-Some.ensures.steps.1 in
    let short = ap length c.in-Some.ensures.steps.0 in
    record {
      put = one_more _ c.loop-reference.map.entries (into_iter_items c.next.new.self) _ (c.in-Some.reference, c.in-Some.output) absent
          (c.in_ok-insert.ensures.entries ∙ insert_entry-new same_ref c.loop-reference.map c.in-Some.reference c.in-Some.output (not_there _ absent))
          (subst (IsPut c.args.outputs.items c.loop-reference.map.entries) c.in-Some.ensures.steps.0 c.loop-reference.invariant.put);
      salt = c.in_ok-insert.ensures.hasher ∙ c.loop-reference.invariant.salt;
      len = omega arith;
    }

pub returns-clause-all : goal.returns-clause-all
returns-clause-all c = all_put _ _ (into_iter_items c.loop-reference.reference-iterator) (sym c.loop-reference.invariant.len ∙ c.in-None.ensures.steps.0) c.loop-reference.invariant.put

pub returns-clause-distinct : goal.returns-clause-distinct
returns-clause-distinct c = subst (λ es. AreDistinct (refs es)) (all_put _ _ (into_iter_items c.loop-reference.reference-iterator) (sym c.loop-reference.invariant.len ∙ c.in-None.ensures.steps.0) c.loop-reference.invariant.put) c.loop-reference.invariant.put.distinct
