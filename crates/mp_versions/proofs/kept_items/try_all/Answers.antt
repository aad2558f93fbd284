use Rattle.std.proofs.Common.{◌≤◌, ◌^◌, map, sym, subst, ◌∙◌}
use Rattle.std.proofs.lemmas.Map.Iter.{iter_end}
use Rattle.std.proofs.lemmas.Map.Views.{All-turn}
use Rattle.mp_seqpool.specs.Item.{shown}
use Rattle.mp_rules.specs.Checked.{IsSigned}
use Rattle.mp_versions.specs.Inside.KeptItems.{HasTried}
use Rattle.mp_versions.proofs.Trying.{each_signed, one_more, room_in_turn, shown-last}
use Rattle.mp_versions.proofs.kept_items.try_all.Goals as goal

pub try_item-requires-clause-signed : goal.try_item-requires-clause-signed
try_item-requires-clause-signed g c =
    let accepts = g.V.Verifier.accepts c.args.verifier.now in
    All-turn shown (λ i. IsSigned accepts i.1) c.args.items c.loop-item.yielded c.into_iter-item-iterator.result c.loop-item.item-iterator c.next.new.self c.next.result c.in-Some.item
    (each_signed accepts c.args.items c.requires.signed) c.into_iter-item-iterator.ensures.into_iter_gives c.loop-item.yielded_by c.in-Some.is c.next.ensures.steps

pub try_item-requires-clause-room : goal.try_item-requires-clause-room
try_item-requires-clause-room g c =
    room_in_turn (g.V.Verifier.accepts c.args.verifier.now) c.args.ledger.now c.args.items c.into_iter-item-iterator.result c.loop-item.item-iterator c.next.new.self c.loop-item.yielded c.next.result c.in-Some.item c.loop-item.kept _
    c.into_iter-item-iterator.ensures.into_iter_gives c.loop-item.yielded_by c.in-Some.is c.next.ensures.steps
    c.requires.most
    c.loop-item.invariant.2

pub loop-item-preserved : goal.loop-item-preserved
loop-item-preserved g c =
    let accepts = g.V.Verifier.accepts c.args.verifier.now in (
      tt,
      tt,
      subst (λ l. HasTried accepts c.args.ledger.now l c.try_item.new.kept) (sym (shown-last c.loop-item.yielded c.in-Some.item))
          (one_more accepts c.args.ledger.now (map shown c.loop-item.yielded) (shown c.in-Some.item) c.loop-item.kept c.try_item.new.kept c.loop-item.invariant.2 c.in_ok-try_item.ensures),
    )

pub returns : goal.returns
returns g c =
    subst (λ l. HasTried (g.V.Verifier.accepts c.args.verifier.now) c.args.ledger.now l c.loop-item.kept)
    ((iter_end shown c.args.items c.loop-item.yielded c.into_iter-item-iterator.result c.loop-item.item-iterator c.next.new.self c.next.result
    c.into_iter-item-iterator.ensures.into_iter_gives c.loop-item.yielded_by c.in-None.is c.next.ensures.steps).0)
    c.loop-item.invariant.2
