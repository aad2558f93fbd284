use Rattle.std.proofs.Common.{List, ℕ, ◌∷◌, [], take, ap, ◌∙◌, arith}
use Rattle.std.proofs.lemmas.List.{take_all}
use Rattle.mp_names.specs.Names.{without_bindings}
use Rattle.mp_names.proofs.Forgetting.{without-none, without-more, without-shorter}
use Rattle.mp_names.proofs.names.Names.forget.Goals as goal

pub loop-name-init : goal.loop-name-init
loop-name-init c = without-none c.args.self.now

pub loop-name-preserved : goal.loop-name-preserved
loop-name-preserved c =
    let goes : List (List ℕ) = c.args.goes.now in
    let word : List ℕ = c.name-item.result in
    without-more c.args.self.now c.loop-name.self c.forget_name.new.self goes c.loop-name.name-index word c.loop-name-test.true c.name-item.is c.loop-name.invariant
    (c.forget_name.ensures ∙ ap (λ w. without_bindings c.loop-name.self (w ∷ [])) c.as_bytes.ensures)

pub returns-clause-left : goal.returns-clause-left
returns-clause-left c = c.loop-name.invariant ∙ ap (without_bindings c.args.self.now) (take_all c.loop-name.name-index c.args.goes.now c.loop-name-test.false)

pub overflow_sub-result : goal.overflow_sub-result
overflow_sub-result c =
    let shorter = without-shorter c.args.self.now c.loop-name.self (take c.loop-name.name-index c.args.goes.now) c.loop-name.invariant in
    omega (arith, shorter, c.binding_count-before.ensures, c.binding_count.ensures)

pub returns-clause-count : goal.returns-clause-count
returns-clause-count c =
    let shorter = without-shorter c.args.self.now c.loop-name.self (take c.loop-name.name-index c.args.goes.now) c.loop-name.invariant in
    omega (arith, shorter, c.binding_count-before.ensures, c.binding_count.ensures)
