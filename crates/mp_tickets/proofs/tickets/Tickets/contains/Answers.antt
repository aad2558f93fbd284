use Rattle.std.proofs.Common.{◌∙◌, ap, subst}
use Rattle.std.specs.Ordering.{nat_cmp}
use Rattle.std.specs.List.Sorted.{IsBinarySearchResult}
use Rattle.mp_tickets.specs.Tickets.{has_ticket}
use Rattle.mp_tickets.proofs.Searched.{found_where}
use Rattle.mp_tickets.proofs.tickets.Tickets.contains.Goals as goal

pub returns : goal.returns
returns c =
    let told = subst (λ l. IsBinarySearchResult (λ y. nat_cmp y c.args.ticket) l c.binary_search.result) c.deref.ensures.value c.binary_search.ensures.position in
    c.is_ok.ensures.value ∙ found_where c.self.inside.tickets.items c.args.ticket c.binary_search.result c.self.invariant told ∙ ap (λ l. has_ticket l c.args.ticket) c.self.view_is
