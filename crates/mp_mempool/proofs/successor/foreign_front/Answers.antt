use Rattle.std.proofs.Common.{◌≡◌, take, sym, ap, subst, ◌∙◌}
use Rattle.std.specs.Prelude.{All}
use Rattle.std.proofs.lemmas.List.Elements.{All-more, at_read}
use Rattle.std.proofs.lemmas.List.{take_all}
use Rattle.mp_history.specs.Log.{Log}
use Rattle.mp_mempool.specs.Pass.{Pass}
use Rattle.mp_mempool.specs.Answers.{IsForeign}
use Rattle.mp_mempool.specs.Successor.{IsKnownTo}
use Rattle.mp_mempool.proofs.Entries.{foreign_told}
use Rattle.mp_mempool.proofs.successor.foreign_front.Goals as goal

pub returns-then-not-is_known_to-clause-foreign : goal.returns-then-not-is_known_to-clause-foreign
returns-then-not-is_known_to-clause-foreign g c =
    let is : c.front-front.result ≡ c.args.locked.now.log = c.front-front.ensures.front in
    let now : c.is_known_to.new.self.log ≡ c.args.locked.now.log = ap (λ l. l.log) (c.is_known_to.ensures.same ∙ c.loop-pass.invariant.0) in
    let told = foreign_told c.pass-item.result c.is_known_to.new.self.log c.front-front.result c.is_known_to.ensures.own c.is_known_to.ensures.begins (c.is_known_to.ensures.foreign c.if-not-is_known_to.true) (is ∙ sym now) in
    record {
      place = c.loop-pass.pass-index;
      foreign = at_read c.args.passes.now (λ (p : Pass). IsForeign p c.front-front.result) c.loop-pass.pass-index c.pass-item.result c.loop-pass-test.true c.pass-item.is told;
      before = subst (λ (l : Log). All (IsKnownTo l) (take c.loop-pass.pass-index c.args.passes.now)) (sym is) c.loop-pass.invariant.1;
    }

pub loop-pass-preserved : goal.loop-pass-preserved
loop-pass-preserved g c =
    let now = c.is_known_to.ensures.same ∙ c.loop-pass.invariant.0 in
    let here : IsKnownTo c.is_known_to.new.self.log c.pass-item.result = record { begins = c.is_known_to.ensures.begins; known = c.is_known_to.ensures.known c.if-not-is_known_to.false } in (
      now,
      All-more (IsKnownTo c.args.locked.now.log) c.args.passes.now c.loop-pass.pass-index c.pass-item.result c.loop-pass-test.true c.loop-pass.invariant.1
          (subst (IsKnownTo c.args.locked.now.log) c.pass-item.is (subst (λ (l : Log). IsKnownTo l c.pass-item.result) (ap (λ l. l.log) now) here)),
    )

pub returns-clause-known : goal.returns-clause-known
returns-clause-known g c =
    subst (All (IsKnownTo c.args.locked.now.log)) (take_all c.loop-pass.pass-index c.args.passes.now c.loop-pass-test.false) c.loop-pass.invariant.1
