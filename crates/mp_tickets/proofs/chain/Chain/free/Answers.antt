use Rattle.std.proofs.Common.{[], List, None, length, ap, sym, ◌∙◌, subst, arith}
use Rattle.mp_tickets.specs.Inside.Cell.{Cell}
use Rattle.mp_tickets.specs.declared.node_store.NodePtr.{NodePtr}
use Rattle.mp_tickets.specs.declared.node.Link.{Link}
use Rattle.mp_tickets.specs.Inside.Links.{Forward, StoredNode, first_of, nexts}
use Rattle.mp_tickets.proofs.Links.{head_at, no_head}
use Rattle.mp_tickets.proofs.chain.Chain.free.Goals as goal

pub remove-requires : goal.remove-requires
remove-requires g c =
    let h = head_at c.loop-at.nodes.cells c.in-Some.ptr (sym c.loop-at.invariant.1 ∙ c.in-Some.is) in
    ([], h.0, h.1, h.2, ap (λ (q : NodePtr). q.at) h.3)

pub loop-at-smaller : goal.loop-at-smaller
loop-at-smaller g c =
    let h = head_at c.loop-at.nodes.cells c.in-Some.ptr (sym c.loop-at.invariant.1 ∙ c.in-Some.is) in
    let removed = c.remove.ensures [] h.0 h.1 h.2 (ap (λ (q : NodePtr). q.at) h.3) in
    let before = ap length h.2 in let after = ap length removed.0 in
    omega arith

pub loop-at-preserved : goal.loop-at-preserved
loop-at-preserved g c =
    let h = head_at c.loop-at.nodes.cells c.in-Some.ptr (sym c.loop-at.invariant.1 ∙ c.in-Some.is) in
    let removed = c.remove.ensures [] h.0 h.1 h.2 (ap (λ (q : NodePtr). q.at) h.3) in
    let f = subst (λ (cs : List (StoredNode _)). Forward (nexts cs) None) h.2 c.loop-at.invariant.0 in
    let value = c.deref.ensures ∙ c.into_box-link.ensures ∙ sym (ap (λ (n : Cell _). n.value) removed.1) in (
      subst (λ (cs : List (StoredNode _)). Forward (nexts cs) None) (sym removed.0) f.1,
      ap (λ (l : Link _). l.next) value ∙ f.0 ∙ sym (ap (λ (cs : List (StoredNode _)). first_of (nexts cs) None) removed.0),
    )

pub end-requires : goal.end-requires
end-requires g c = no_head c.loop-at.nodes.cells (sym c.loop-at.invariant.1 ∙ c.in_default.is)
