use Rattle.std.proofs.Common.{length, not, sym, ap, ◌∙◌, arith}
use Rattle.std.specs.Prelude.{filter}
use Rattle.mp_names.specs.Inside.BindingTable.{has_name}
use Rattle.mp_names.proofs.Bindings.{filter-without_first, length-without_first, forgotten}
use Rattle.mp_names.proofs.binding_table.BindingTable.forget.Goals as goal

pub loop-smaller : goal.loop-smaller
loop-smaller c =
    let all = c.loop.self in
    let left = ap length c.take_first.ensures.left in
    let less = length-without_first (has_name c.args.word.now) all (sym c.take_first.ensures.found ∙ c.loop-test.true) in
    omega (arith, left, less)

pub loop-preserved : goal.loop-preserved
loop-preserved c =
    let test = has_name c.args.word.now in
    ap (filter (λ n. not (test n))) c.take_first.ensures.left ∙ filter-without_first test c.loop.self ∙ c.loop.invariant

pub returns : goal.returns
returns c =
    forgotten (has_name c.args.word.now) c.loop.self c.take_first.new.self (sym c.take_first.ensures.found ∙ c.loop-test.false) c.take_first.ensures.left
    ∙ c.loop.invariant
