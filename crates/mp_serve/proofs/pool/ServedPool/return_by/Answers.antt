use Rattle.std.proofs.Common.{◌≡◌, ◌-◌, ◌<◌, ◌≤◌, List, length, refl, rules}
use Rattle.mp_serve.specs.declared.former.Former.{Former}
use Rattle.mp_serve.specs.Inside.Former.{states_of}
use Rattle.mp_serve.specs.Inside.ServedPool.{served_of}
use Rattle.mp_serve.proofs.Backs.{refused_back, went_back-ok}
use Rattle.mp_serve.proofs.pool.ServedPool.return_by.Goals as goal

pub returns-then-count-kept-clause-ok : goal.returns-then-count-kept-clause-ok
returns-then-count-kept-clause-ok c =
    let fs : List Former = c.self.inside.former.items in
    let few : length fs < c.args.count = search rules in
    let kept : c.len-kept.result ≡ length fs = search rules in
    rw (← c.self.view_is) (refused_back c.args.names.now (served_of c.self.inside) fs c.args.count refl c.len-kept.result c.count_one.new.count c.in_ok-text.text.items few kept c.count_one.ensures c.in_ok-text.ensures)

pub returns-clause-ok : goal.returns-clause-ok
returns-clause-ok c =
    let fs : List Former = c.self.inside.former.items in
    let enough : c.args.count ≤ length fs = search rules in
    let left : c.len-kept.result - c.args.count ≡ length fs - c.args.count = search rules in
    rw (← c.self.view_is)
    (went_back-ok c.args.names.now (served_of c.self.inside) fs c.args.count refl c.go_back.result (c.len-kept.result - c.args.count) c.go_back.new.pool.pool
    (states_of c.go_back.new.formers.items c.go_back.new.pool.pool.ledger) enough left c.go_back.ensures.pool c.go_back.ensures.formers c.go_back.ensures.text)
