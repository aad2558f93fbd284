use Rattle.std.proofs.Common.{◌-◌, ◌+◌, List, ℕ, sym, ap, subst, ◌∙◌}
use Rattle.std.specs.Prelude.{None, length, slice_get}
use Rattle.mp_tx.specs.Reading.{items_read, itself, policy_read}
use Rattle.mp_tx.proofs.Items.{IsOnTheWay, goes_on_last, stops, last_key, last_is}
use Rattle.mp_tx.proofs.decoding.policy.put_policies.Goals as goal

pub returns-in-Err : goal.returns-in-Err
returns-in-Err c ne =
    let last = c.last.ensures.value ∙ ap (λ (xs : List (List ℕ)). slice_get xs (length xs - 1)) c.deref.ensures.value ∙ last_is c.loop.scripts.items in
    stops itself policy_read c.args.count c.loop.counter _ _ _ _ c.in-Err.fault c.loop-test.true c.loop.invariant
    (ap (λ b. policy_read b c.loop.rest.now) (sym last) ∙ c.in-Err.ensures ne)

pub loop-preserved : goal.loop-preserved
loop-preserved c =
    let last = c.last.ensures.value ∙ ap (λ (xs : List (List ℕ)). slice_get xs (length xs - 1)) c.deref.ensures.value ∙ last_is c.loop.scripts.items in
    subst (λ items. IsOnTheWay itself policy_read (c.args.count - (c.loop.counter + 1)) (items_read itself policy_read None c.args.count c.args.bytes.now) items (last_key itself None items) c.in-Ok.after.now)
    (sym c.in_ok-push-in-Ok.ensures.items)
    (goes_on_last policy_read c.args.count c.loop.counter _ _ _ c.in-Ok.script c.in-Ok.after.now c.loop-test.true c.loop.invariant (ap (λ b. policy_read b c.loop.rest.now) (sym last) ∙ c.in-Ok.ensures))
