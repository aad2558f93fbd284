use Rattle.std.proofs.Common.{◌≡◌, ◌≢◌, List, ℕ, map, sym, subst, ◌∙◌, eqb}
use Rattle.std.specs.Prelude.{IfOk, AllPairs}
use Rattle.std.specs.List.{dedup}
use Rattle.std.specs.List.Sorted.{IsStrictlyIncreasing}
use Rattle.std.proofs.lemmas.List.Filters.{dedup_is}
use Rattle.std.proofs.lemmas.Map.Keys.{IsStrictlyIncreasing-dedup}
use Rattle.mp_tx.specs.Spelling.{id_of}
use Rattle.mp_tickets.specs.Tickets.{IsRising}
use Rattle.mp_seqpool.specs.Keep.{transactions}
use Rattle.mp_seqpool.specs.Pool.{Holding}
use Rattle.mp_seqpool.proofs.Left.{rising_ticketed}
use Rattle.mp_seqpool.proofs.TicketsNamed.{in_order}
use Rattle.mp_seqpool.proofs.pool.SeqPool.named.Goals as goal

pub as_tickets-requires : goal.as_tickets-requires
as_tickets-requires c =
    let sorted : List ℕ = c.sort_unstable.new.self.items in
    let once : c.deref.result.now ≡ dedup eqb sorted = c.deref.ensures.value ∙ dedup_is eqb sorted c.dedup.new.self.items c.dedup.ensures.filtered in
    subst IsStrictlyIncreasing (sym once) (IsStrictlyIncreasing-dedup sorted c.sort_unstable.ensures.sorted)

pub returns : goal.returns
returns c =
    let sorted : List ℕ = c.sort_unstable.new.self.items in
    let once : c.deref.result.now ≡ dedup eqb sorted = c.deref.ensures.value ∙ dedup_is eqb sorted c.dedup.new.self.items c.dedup.ensures.filtered in
    let named = in_order c.args.self.now.pool.items c.args.ids.now c.in_ok-found.found.items sorted
    (subst (λ (h : Holding). AllPairs (λ a b. a ≢ b) (map id_of (transactions h.pool.items))) c.self.view_is c.self.invariant.distinct)
    (subst (λ (h : Holding). IsRising h.pool.items) c.self.view_is (rising_ticketed 0 c.self.inside.items c.self.invariant.rising))
    c.in_ok-found.ensures c.sort_unstable.ensures.permutation c.sort_unstable.ensures.sorted in
    subst (λ l. IfOk c.as_tickets.result (λ t. t ≡ l)) (once ∙ named) c.as_tickets.ensures
