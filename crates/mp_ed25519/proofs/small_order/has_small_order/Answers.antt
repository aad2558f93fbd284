use Rattle.std.proofs.Common.{ap, ◌∙◌, ℕ, nat_eq}
use Rattle.std.specs.List.{list_any}
use Rattle.mp_ed25519.specs.Ed25519.{has_small_order, small_orders}
use Rattle.mp_ed25519.proofs.small_order.has_small_order.Goals as goal

pub returns : goal.returns
unfolding has_small_order
returns c = c.is_among.ensures ∙ ap (λ (m : ℕ). list_any (λ y. nat_eq y m) small_orders) c.low_bits.ensures
