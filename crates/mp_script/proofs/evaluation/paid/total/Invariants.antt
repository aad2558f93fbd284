use Rattle.std.proofs.Common.{◌≡◌, ◌+ℤ◌, ◌*◌, ◌^◌, ◌≤◌, drop}
use Rattle.std.specs.Prelude.{map, unsigned_abs}
use Rattle.mp_bundle.specs.Token.{token}
use Rattle.mp_script.specs.View.{paid_to_of}
use Rattle.mp_script.specs.Meaning.{paid_to}
use Rattle.mp_script.proofs.evaluation.paid.total.Given as goal

-- the sum so far and the sum of the remaining outputs make the whole sum
abbrev pub invariant-loop-output : goal.invariant-loop-output
invariant-loop-output l = record {
  sum : l.total +ℤ paid_to l.address (token l.policy l.name) (map paid_to_of (drop l.output-index l.outputs)) ≡ paid_to l.address (token l.policy l.name) (map paid_to_of l.outputs);
  small : unsigned_abs l.total ≤ l.output-index * 2 ^ 63;
}
