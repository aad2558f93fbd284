use Rattle.std.proofs.Common.{ap, subst, arith}
use Rattle.mp_tickets.specs.declared.node_store.NodePtr.{NodePtr}
use Rattle.mp_tickets.specs.declared.node.Link.{Link}
use Rattle.mp_tickets.specs.Inside.Chain.{bucket_count}
use Rattle.mp_tickets.proofs.Follows.{Follows, near_first, near_less, after_near, follows_first, last, last_there, stops, follows_on, follows_less, follows_end}
use Rattle.mp_tickets.proofs.chain.Chain.seek_after.Goals as goal

pub loop-at-init : goal.loop-at-init
loop-at-init g c = (follows_first c.args.self.now c.requires.chained c.requires.rising c.args.ticket, near_first c.args.ticket c.args.self.now.nodes.cells)

pub get-link-requires : goal.get-link-requires
get-link-requires g c =
    let o = c.args.self.now in let p = c.in-Some.ptr in
    let s = last o c.requires.chained c.requires.rising c.args.ticket c.loop-at.after p (subst (Follows c.args.ticket o.nodes.cells c.loop-at.after) c.in-Some.is c.loop-at.invariant.0) in
    last_there o c.requires.chained c.requires.rising c.args.ticket c.loop-at.after p s

pub returns-then-link-ticket : goal.returns-then-link-ticket
returns-then-link-ticket g c =
    let o = c.args.self.now in let p = c.in-Some.ptr in
    let s = last o c.requires.chained c.requires.rising c.args.ticket c.loop-at.after p (subst (Follows c.args.ticket o.nodes.cells c.loop-at.after) c.in-Some.is c.loop-at.invariant.0) in
    let told = c.get-link.ensures s.us s.c s.vs s.cut (ap (λ (q : NodePtr). q.at) s.here) in
    stops o c.requires.chained c.requires.rising c.args.ticket c.loop-at.after p s (rw told at c.if-link-ticket.true)

pub loop-at-smaller : goal.loop-at-smaller
loop-at-smaller g c =
    let o = c.args.self.now in let p = c.in-Some.ptr in
    let s = last o c.requires.chained c.requires.rising c.args.ticket c.loop-at.after p (subst (Follows c.args.ticket o.nodes.cells c.loop-at.after) c.in-Some.is c.loop-at.invariant.0) in
    let told = c.get-link.ensures s.us s.c s.vs s.cut (ap (λ (q : NodePtr). q.at) s.here) in
    rw (told, c.in-Some.is) (follows_less o c.requires.chained c.requires.rising c.args.ticket c.loop-at.after p s)

pub loop-at-preserved : goal.loop-at-preserved
loop-at-preserved g c =
    let o = c.args.self.now in let p = c.in-Some.ptr in
    let s = last o c.requires.chained c.requires.rising c.args.ticket c.loop-at.after p (subst (Follows c.args.ticket o.nodes.cells c.loop-at.after) c.in-Some.is c.loop-at.invariant.0) in
    let told = c.get-link.ensures s.us s.c s.vs s.cut (ap (λ (q : NodePtr). q.at) s.here) in
    let above = rw told at c.if-link-ticket.false in
    let less = c.saturating_sub-near.ensures in (
      rw told (follows_on o c.requires.chained c.requires.rising c.args.ticket c.loop-at.after p s above),
      near_less c.args.ticket c.loop-at.near c.saturating_sub-near.result o.nodes.cells (omega arith) (omega arith) c.in_default-find.ensures c.loop-at.invariant.1,
    )

pub returns : goal.returns
returns g c = follows_end c.args.self.now c.requires.chained c.requires.rising c.args.ticket c.loop-at.after (rw c.in_default.is at c.loop-at.invariant.0)

pub returns-in-Some-find : goal.returns-in-Some-find
returns-in-Some-find g c =
    let o = c.args.self.now in let found = c.in-Some-find.ensures in
    let told = c.get.ensures found.0 found.1 found.2 found.3 found.4 in
    after_near c.args.ticket c.loop-at.near (bucket_count o) o.nodes.cells c.in-Some-find.found c.get.result.now.next c.requires.chained.forward c.requires.rising c.loop-at.invariant.1 found (ap (λ (l : Link _). l.next) told)
