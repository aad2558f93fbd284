use Rattle.std.proofs.Common.{ap, sym, ◌∙◌, subst}
use Rattle.mp_tickets.specs.declared.node_store.NodePtr.{NodePtr}
use Rattle.mp_tickets.specs.declared.node.Link.{Link}
use Rattle.mp_tickets.specs.Inside.Chain.{bucket_count}
use Rattle.mp_tickets.proofs.Seeks.{Looks, stands, stands_at, finds, looks_on, looks_less, looks_end}
use Rattle.mp_tickets.proofs.chain.Chain.find.Goals as goal

pub get-link-requires : goal.get-link-requires
get-link-requires g c =
    let o = c.args.self.now in let p = c.in-Some.ptr in
    let s = stands o c.requires c.args.ticket c.loop-at.bucket_next p (subst (Looks (bucket_count o) c.args.ticket o.nodes.cells c.loop-at.bucket_next) c.in-Some.is c.loop-at.invariant) in
    stands_at o c.requires c.args.ticket c.loop-at.bucket_next p s

pub returns-then-link-ticket : goal.returns-then-link-ticket
returns-then-link-ticket g c =
    let o = c.args.self.now in let p = c.in-Some.ptr in
    let s = stands o c.requires c.args.ticket c.loop-at.bucket_next p (subst (Looks (bucket_count o) c.args.ticket o.nodes.cells c.loop-at.bucket_next) c.in-Some.is c.loop-at.invariant) in
    let told = c.get-link.ensures s.us s.c s.vs s.cut (ap (λ (q : NodePtr). q.at) s.here) in
    finds o c.requires c.args.ticket c.loop-at.bucket_next p s (sym (ap (λ (l : Link _). l.ticket) told) ∙ c.if-link-ticket.true)

pub loop-at-smaller : goal.loop-at-smaller
loop-at-smaller g c =
    let o = c.args.self.now in let p = c.in-Some.ptr in
    let s = stands o c.requires c.args.ticket c.loop-at.bucket_next p (subst (Looks (bucket_count o) c.args.ticket o.nodes.cells c.loop-at.bucket_next) c.in-Some.is c.loop-at.invariant) in
    let told = c.get-link.ensures s.us s.c s.vs s.cut (ap (λ (q : NodePtr). q.at) s.here) in
    rw (told, c.in-Some.is) (looks_less o c.requires c.args.ticket c.loop-at.bucket_next p s)

pub loop-at-preserved : goal.loop-at-preserved
loop-at-preserved g c =
    let o = c.args.self.now in let p = c.in-Some.ptr in
    let s = stands o c.requires c.args.ticket c.loop-at.bucket_next p (subst (Looks (bucket_count o) c.args.ticket o.nodes.cells c.loop-at.bucket_next) c.in-Some.is c.loop-at.invariant) in
    let told = c.get-link.ensures s.us s.c s.vs s.cut (ap (λ (q : NodePtr). q.at) s.here) in
    rw told (looks_on o c.requires c.args.ticket c.loop-at.bucket_next p s (λ e. c.if-link-ticket.false (ap (λ (l : Link _). l.ticket) told ∙ e)))

pub returns : goal.returns
returns g c = looks_end c.args.self.now c.requires c.args.ticket c.loop-at.bucket_next (rw c.in_default.is at c.loop-at.invariant)
