use Rattle.std.proofs.Common.{sym, ◌∙◌, subst}
use Rattle.mp_tickets.specs.Inside.Found.{IsFirstAfter}
use Rattle.mp_tickets.proofs.Listed.{first_ptr}
use Rattle.mp_tickets.proofs.Follows.{after_front, after_nothing}
use Rattle.mp_tickets.proofs.chain.Chain.first_after.Goals as goal

pub returns-in_err-front : goal.returns-in_err-front
returns-in_err-front g c =
    let cs = c.args.self.now.nodes.cells in
    subst (IsFirstAfter c.args.ticket cs) (sym c.from_residual.ensures) (after_nothing c.args.ticket cs (sym c.in_err-front.was ∙ c.requires.chained.front))

pub get-requires : goal.get-requires
get-requires g c = first_ptr c.args.self.now.nodes.cells c.in_ok-front.front (sym c.in_ok-front.was ∙ c.requires.chained.front)

pub returns-then-ticket-get : goal.returns-then-ticket-get
returns-then-ticket-get g c =
    after_front c.args.ticket c.args.self.now.nodes.cells c.in_ok-front.front c.get.result.now (sym c.in_ok-front.was ∙ c.requires.chained.front) c.get.ensures c.requires.rising c.if-ticket-get.true
