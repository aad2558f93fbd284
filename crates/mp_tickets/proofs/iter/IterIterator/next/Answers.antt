use Rattle.std.proofs.Common.{◌∷◌, length, sym, ap, ◌∙◌, subst, rules}
use Rattle.mp_tickets.specs.Inside.Iter.{LeadsOn, nodes_from}
use Rattle.mp_tickets.specs.Inside.Links.{pairs}
use Rattle.mp_tickets.specs.declared.node.Link.{Link}
use Rattle.mp_tickets.proofs.Listed.{goes, leads_on, one_gone}
use Rattle.mp_tickets.proofs.iter.IterIterator.next.Goals as goal

pub get-link-requires : goal.get-link-requires
get-link-requires g c =
    let h = c.self.inside.nodes.now in
    let s = goes h.cells h.apart c.in_ok-self.field-0 (subst (λ a. LeadsOn a h.cells) c.in_ok-self.was c.self.invariant) in
    (s.xs, s.c, s.ys, s.cut, s.here)

pub invariant_of-self : goal.invariant_of-self
invariant_of-self g c =
    let h = c.self.inside.nodes.now in
    let on = subst (λ a. LeadsOn a h.cells) c.in_ok-self.was c.self.invariant in
    let s = goes h.cells h.apart c.in_ok-self.field-0 on in
    let told = c.get-link.ensures s.xs s.c s.ys s.cut s.here in
    rw told (leads_on h.cells h.apart c.in_ok-self.field-0 on s)

pub returns-clause-steps : goal.returns-clause-steps
returns-clause-steps g c =
    let h = c.self.inside.nodes.now in
    let on = subst (λ a. LeadsOn a h.cells) c.in_ok-self.was c.self.invariant in
    let s = goes h.cells h.apart c.in_ok-self.field-0 on in
    let told = c.get-link.ensures s.xs s.c s.ys s.cut s.here in
    sym c.self.view_is ∙ ap (λ a. pairs (nodes_from a h.cells)) c.in_ok-self.was ∙ one_gone h.cells h.apart c.in_ok-self.field-0 on s
    ∙ sym (ap (λ (l : Link _). (l.ticket, l.item) ∷ pairs (nodes_from l.next h.cells)) told)

pub returns-clause-goes : goal.returns-clause-goes
returns-clause-goes g c =
    let h = c.self.inside.nodes.now in
    let on = subst (λ a. LeadsOn a h.cells) c.in_ok-self.was c.self.invariant in
    let s = goes h.cells h.apart c.in_ok-self.field-0 on in
    let told = c.get-link.ensures s.xs s.c s.ys s.cut s.here in
    let steps = sym c.self.view_is ∙ ap (λ a. pairs (nodes_from a h.cells)) c.in_ok-self.was ∙ one_gone h.cells h.apart c.in_ok-self.field-0 on s
    ∙ sym (ap (λ (l : Link _). (l.ticket, l.item) ∷ pairs (nodes_from l.next h.cells)) told) in
    let fewer = ap length steps in search rules
