use Rattle.std.proofs.Common.{[], ◌∷◌, ◌++◌, length, ap, sym, ◌∙◌, subst, arith}
use Rattle.mp_tickets.specs.Inside.Cell.{Cell}
use Rattle.mp_tickets.specs.declared.node_store.NodePtr.{NodePtr}
use Rattle.mp_tickets.specs.declared.node.Link.{Link}
use Rattle.mp_tickets.specs.Inside.Links.{pairs}
use Rattle.mp_tickets.proofs.Links.{head_at, no_head}
use Rattle.mp_tickets.proofs.Moved.{Moves, moves_on, moves_end}
use Rattle.mp_tickets.proofs.chain.Chain.move_to.Goals as goal

pub remove-requires : goal.remove-requires
remove-requires g c =
    let h = head_at c.loop-at.nodes.cells c.in-Some.ptr (sym c.loop-at.invariant.leads ∙ c.in-Some.is) in
    ([], h.0, h.1, h.2, ap (λ (q : NodePtr). q.at) h.3)

pub loop-at-smaller : goal.loop-at-smaller
loop-at-smaller g c =
    let h = head_at c.loop-at.nodes.cells c.in-Some.ptr (sym c.loop-at.invariant.leads ∙ c.in-Some.is) in
    let removed = c.remove.ensures [] h.0 h.1 h.2 (ap (λ (q : NodePtr). q.at) h.3) in
    let before = ap length h.2 in let after = ap length removed.0 in
    omega arith

pub loop-at-preserved : goal.loop-at-preserved
loop-at-preserved g c =
    let h = head_at c.loop-at.nodes.cells c.in-Some.ptr (sym c.loop-at.invariant.leads ∙ c.in-Some.is) in
    let removed = c.remove.ensures [] h.0 h.1 h.2 (ap (λ (q : NodePtr). q.at) h.3) in
    let boxed = c.into_box-link.ensures ∙ sym (ap (λ (n : Cell _). n.value) removed.1) in
    let here = ap (λ (l : Link _). l.next) (c.deref.ensures ∙ boxed) in
    let pushed = c.push.ensures.pairs ∙ (λ i. pairs c.loop-at.to.nodes.cells ++ (((c.deref-in-Some.ensures ∙ boxed) i).ticket, (boxed i).item) ∷ []) in
    subst (λ n. Moves c.args.to.now.nodes.cells c.args.self.nodes.cells c.remove.new.self.cells n c.push.new.self) (sym here)
    (moves_on c.args.to.now.nodes.cells c.args.self.nodes.cells c.loop-at.nodes.cells c.loop-at.to c.loop-at.at c.push.new.self h.0 h.1 c.remove.new.self.cells c.loop-at.invariant h.2 removed.0 c.push.ensures.chained pushed)

pub end-requires : goal.end-requires
end-requires g c = no_head c.loop-at.nodes.cells (sym c.loop-at.invariant.leads ∙ c.in_default.is)

pub returns-clause-pairs : goal.returns-clause-pairs
returns-clause-pairs g c =
    moves_end c.args.to.now.nodes.cells c.args.self.nodes.cells c.loop-at.nodes.cells c.loop-at.to c.loop-at.at c.loop-at.invariant (no_head c.loop-at.nodes.cells (sym c.loop-at.invariant.leads ∙ c.in_default.is))
