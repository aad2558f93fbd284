use Rattle.std.proofs.Common.{◌≡◌, ℕ, List, sym, subst, ◌∙◌, eqb}
use Rattle.std.specs.List.{dedup}
use Rattle.std.specs.List.Sorted.{IsStrictlyIncreasing}
use Rattle.std.proofs.lemmas.List.Filters.{dedup_is}
use Rattle.std.proofs.lemmas.Map.Keys.{IsStrictlyIncreasing-dedup}
use Rattle.mp_seqpool.proofs.going.in_order.Goals as goal

pub as_tickets-requires : goal.as_tickets-requires
as_tickets-requires c =
    let sorted : List ℕ = c.sort_unstable.new.self.items in
    let once : c.deref.result.now ≡ dedup eqb sorted = c.deref.ensures.value ∙ dedup_is eqb sorted c.dedup.new.self.items c.dedup.ensures.filtered in
    subst IsStrictlyIncreasing (sym once) (IsStrictlyIncreasing-dedup sorted c.sort_unstable.ensures.sorted)
