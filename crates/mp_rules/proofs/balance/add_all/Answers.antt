use Rattle.std.proofs.Common.{◌≡◌, ℕ, ◌+◌, List, take, sym, subst, arith}
use Rattle.mp_bundle.specs.Bundle.{TokenEntry}
use Rattle.mp_bundle.specs.Sum.{AddsAll}
use Rattle.mp_rules.specs.Resolved.{values}
use Rattle.mp_rules.proofs.Sums.{AddsAll-push, values-more}
use Rattle.mp_rules.proofs.balance.add_all.Goals as goal

counted : (a b c n : ℕ) → a ≡ b + 1 → b ≡ c + n → a ≡ c + (n + 1)
counted a b c n one so_far = omega arith

pub loop-output-preserved : goal.loop-output-preserved
loop-output-preserved c =
    let more = values-more c.args.outputs.now c.loop-output.output-index c.output-item.result c.loop-output-test.true c.output-item.is in (
      subst (λ (bundles : List (List TokenEntry)). AddsAll c.args.sum.now bundles c.add.new.self) (sym more)
          (AddsAll-push (values (take c.loop-output.output-index c.args.outputs.now)) c.output-item.result.value c.args.sum.now c.loop-output.sum c.add.new.self c.loop-output.invariant.0 c.in_ok-add.ensures.ok),
      counted c.add.new.self.added c.loop-output.sum.added c.args.sum.now.added c.loop-output.output-index c.in_ok-add.ensures.ok.added c.loop-output.invariant.1,
    )
