use Rattle.std.proofs.Common.{◌≡◌, ◌-◌, ◌≤◌, ℕ, length, take, sym, ap, subst, ◌∙◌, arith, rules}
use Rattle.std.specs.Prelude.{Some, IfOk}
use Rattle.mp_seqpool.specs.Command.{Sync}
use Rattle.mp_serve.specs.ServedPool.{state_back}
use Rattle.mp_serve.specs.Inside.Former.{states_of}
use Rattle.mp_serve.proofs.Formers.{length-states}
use Rattle.mp_clients.specs.Client.{Client}
use Rattle.mp_clients.specs.Inside.Asked.{answer_in, if_made}
use Rattle.mp_clients.specs.Inside.Client.{client_of}
use Rattle.mp_clients.proofs.Backs.{within, is_back}
use Rattle.mp_clients.proofs.Clients.{opening-asked, still, asked_adopted}
use Rattle.mp_clients.proofs.client.Client.go_back.Goals as goal

pub overflow_sub-left : goal.overflow_sub-left
overflow_sub-left g c =
    let i = c.self.inside in
    let found = subst (λ (k : Client). state_back k.former k.ledger c.args.count ≡ Some c.args.ledger) (sym c.self.view_is) c.requires in
    let le : c.args.count ≤ length i.former.items = within i.former.items i.ledger c.args.ledger c.args.count found in
    let many : c.len.result ≡ length i.former.items = search rules in
    omega (arith, le, many)

pub go_back-requires-clause-back : goal.go_back-requires-clause-back
go_back-requires-clause-back g c =
    let i = c.self.inside in
    let found = subst (λ (k : Client). state_back k.former k.ledger c.args.count ≡ Some c.args.ledger) (sym c.self.view_is) c.requires in
    let many : c.len.result ≡ length i.former.items = search rules in
    is_back i.former.items i.ledger c.args.ledger c.args.count (c.len.result - c.args.count) (ap (λ n. n - c.args.count) many) found

pub invariant_of-self : goal.invariant_of-self
invariant_of-self g c =
    let i = c.self.inside in
    let few = c.go_back.ensures.few in
    let most = c.self.invariant.few in
    still g.N.PoolName.accepts i.signatures i.limit i.pass c.go_back.new.pass i.ledger c.go_back.new.now i.former.items c.go_back.new.formers.items
    (opening-asked g.N.PoolName.accepts g.N.PoolName.callers i.pass (Sync c.args.ledger) c.go_back.result c.go_back.new.pass c.go_back.ensures.ok c.go_back.ensures.err) (omega (arith, few, most)) c.go_back.ensures.can c.self.invariant

pub returns-clause-ok : goal.returns-clause-ok
returns-clause-ok g c =
    let i = c.self.inside in
    let k : Client = client_of i.pass i.signatures i.ledger i.former.items i.refused i.cursor in
    let states = states_of c.go_back.new.formers.items c.go_back.new.now in
    let many : c.len.result ≡ length i.former.items = search rules in
    let at : c.len.result - c.args.count ≡ length k.former - c.args.count = ap (λ n. n - c.args.count) (many ∙ sym (length-states i.former.items i.ledger)) in
    let former = subst (λ (n : ℕ). IfOk c.go_back.result (λ a. states ≡ if_made (answer_in a) (take n k.former) k.former)) at c.go_back.ensures.formers in
    rw (← c.self.view_is) (asked_adopted g.N.PoolName.accepts g.N.PoolName.callers k (Sync c.args.ledger) c.args.ledger (take (length k.former - c.args.count) k.former) c.go_back.result c.go_back.new.pass states c.go_back.new.now
    c.go_back.ensures.ok former c.go_back.ensures.now)
