use Rattle.std.proofs.Common.{ℕ, ◌-◌, ◌≤◌, length, sym, ap, ◌∙◌, slice_get, subst}
use Rattle.std.specs.Prelude.{option_map}
use Rattle.std.specs.List.{All}
use Rattle.mp_tickets.specs.Tickets.{shown}
use Rattle.mp_tickets.proofs.Listed.{last_ptr, last_pair, last_greatest, empty, no_last}
use Rattle.mp_tickets.proofs.list.TicketList.back.Goals as goal

pub get-link-requires : goal.get-link-requires
get-link-requires g c = last_ptr c.self.inside.chain.nodes.cells c.in_ok-self.field-0 (sym c.in_ok-self.was ∙ c.self.invariant.chained.back)

pub returns-clause-last : goal.returns-clause-last
returns-clause-last g c =
    last_pair c.self.inside.chain.nodes.cells c.in_ok-self.field-0 c.get-link.result.now (sym c.in_ok-self.was ∙ c.self.invariant.chained.back) c.get-link.ensures
    ∙ ap (λ l. slice_get l (length l - 1)) c.self.view_is

pub returns-in_err-self-clause-last : goal.returns-in_err-self-clause-last
returns-in_err-self-clause-last g c =
    ap (option_map shown) c.from_residual.ensures ∙ sym (no_last c.self.inside.chain.nodes.cells (sym c.in_err-self.was ∙ c.self.invariant.chained.back)) ∙ ap (λ l. slice_get l (length l - 1)) c.self.view_is

pub returns-in_err-self-clause-greatest : goal.returns-in_err-self-clause-greatest
returns-in_err-self-clause-greatest g c = rw c.from_residual.ensures (sym c.self.view_is ∙ empty c.self.inside.chain.nodes.cells (sym c.in_err-self.was ∙ c.self.invariant.chained.back))

pub returns-clause-greatest : goal.returns-clause-greatest
returns-clause-greatest g c =
    subst (All (λ (x : ℕ × _). x.0 ≤ c.get-link.result.now.ticket)) c.self.view_is
    (last_greatest c.self.inside.chain.nodes.cells c.in_ok-self.field-0 c.get-link.result.now c.self.invariant.rising (sym c.in_ok-self.was ∙ c.self.invariant.chained.back) c.get-link.ensures)
