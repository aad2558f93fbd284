use Rattle.std.proofs.Common.{arith, ap, sym, ◌+◌, ◌-◌, ◌∙◌}
use Rattle.std.specs.Option.{option_map}
use Rattle.mp_script.proofs.DatumRefLaws.{head_is_there, run_behind, run_is_short, run_is_over}
use Rattle.mp_script.proofs.datum_ref.skip.Goals as goal

pub unreachable-requires : goal.unreachable-requires
unreachable-requires c =
    head_is_there c.loop-left.rest.now c.loop-left.left c.requires.0 (c.loop-left.invariant.run c.requires.0 c.requires.1) c.loop-left-test.true (sym c.head.ensures ∙ ap (option_map (λ f. (f.0, f.1.now))) c.in_default.is)

pub overflow_add-left : goal.overflow_add-left
overflow_add-left c =
    let b = run_behind c.loop-left.rest.now c.loop-left.left c.requires.0 (c.in-Some.more, c.in-Some.after.now) (c.loop-left.invariant.run c.requires.0 c.requires.1) c.loop-left-test.true (sym c.head.ensures ∙ ap (option_map (λ f. (f.0, f.1.now))) c.in-Some.is) in
    omega (arith, run_is_short c.in-Some.after.now (c.loop-left.left - 1 + c.in-Some.more) c.requires.0 b.run, b.shorter, c.loop-left.invariant.shorter)

pub loop-left-smaller : goal.loop-left-smaller
loop-left-smaller c =
    let b = run_behind c.loop-left.rest.now c.loop-left.left c.requires.0 (c.in-Some.more, c.in-Some.after.now) (c.loop-left.invariant.run c.requires.0 c.requires.1) c.loop-left-test.true (sym c.head.ensures ∙ ap (option_map (λ f. (f.0, f.1.now))) c.in-Some.is) in
    b.shorter

pub loop-left-preserved : goal.loop-left-preserved
loop-left-preserved c =
    let e = sym c.head.ensures ∙ ap (option_map (λ f. (f.0, f.1.now))) c.in-Some.is in
    let b = run_behind c.loop-left.rest.now c.loop-left.left c.requires.0 (c.in-Some.more, c.in-Some.after.now) (c.loop-left.invariant.run c.requires.0 c.requires.1) c.loop-left-test.true e in
    record {
      run = λ end r. (run_behind c.loop-left.rest.now c.loop-left.left end (c.in-Some.more, c.in-Some.after.now) (c.loop-left.invariant.run end r) c.loop-left-test.true e).run;
      shorter = omega (arith, b.shorter, c.loop-left.invariant.shorter);
    }

pub returns : goal.returns
returns c end r = run_is_over c.loop-left.rest.now c.loop-left.left end (c.loop-left.invariant.run end r) c.loop-left-test.false
