use Rattle.std.proofs.Common.{◌≡◌, ◌≤◌, ◌*◌, ◌+◌, ◌-◌, ◌∙◌, sym, subst, None, drop, slice_index_or, arith}
use Rattle.mp_text.specs.Numbers.{value_of_digits, if_below}
use Rattle.mp_text.proofs.DigitValue.{completed, completed-drop, completed-ge, if_below-none, if_below-some}
use Rattle.mp_text.proofs.numbers.value.Goals as goal

pub returns-in_err-number : goal.returns-in_err-number
returns-in_err-number c =
    let digits = c.args.digits.now in
    let next = c.loop-digit.number * 10 + (slice_index_or digits c.loop-digit.digit-index 0 - 48) in
    let past : if_below 18446744073709551616 next ≡ None = sym c.with_digit.ensures ∙ c.in_err-number.was in
    let whole = sym (completed-drop c.loop-digit.number c.loop-digit.digit-index digits c.loop-digit-test.true) ∙ c.loop-digit.invariant.same in
    let less : next ≤ value_of_digits digits = subst (λ v. next ≤ v) whole (completed-ge next _) in
    c.from_residual.ensures ∙ sym (if_below-none _ next (value_of_digits digits) past less)

pub loop-digit-preserved : goal.loop-digit-preserved
loop-digit-preserved c =
    let digits = c.args.digits.now in
    let both = if_below-some 18446744073709551616 _ _ (sym c.with_digit.ensures ∙ c.in_ok-number.was) in
    let whole = sym (completed-drop c.loop-digit.number c.loop-digit.digit-index digits c.loop-digit-test.true) ∙ c.loop-digit.invariant.same in
    record { fits = omega (arith, both.1); same = subst (λ n. completed n (drop (c.loop-digit.digit-index + 1) digits) ≡ value_of_digits digits) both.0 whole }
