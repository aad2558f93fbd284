use Rattle.std.proofs.Common.{◌-◌, length, refl}
use Rattle.mp_serve.proofs.Formers.{can-behind}
use Rattle.mp_clients.proofs.Backs.{found_back, lost_back}
use Rattle.mp_clients.proofs.former.state_back.Goals as goal

pub earliest-requires : goal.earliest-requires
earliest-requires c =
    let fs = c.args.formers.now in
    can-behind (length fs - c.args.count) fs fs c.args.now.now c.args.now.now refl refl c.requires

pub returns-then-count-kept : goal.returns-then-count-kept
returns-then-count-kept c =
    let fs = c.args.formers.now in
    lost_back fs c.args.now.now c.args.count (length fs) refl c.if-count-kept.true

pub returns : goal.returns
returns c =
    let fs = c.args.formers.now in
    found_back fs c.args.now.now c.in_ok-ledger.ledger c.args.count (length fs) refl c.if-count-kept.false c.in_ok-ledger.ensures
