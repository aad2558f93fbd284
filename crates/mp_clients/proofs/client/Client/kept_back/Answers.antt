use Rattle.std.proofs.Common.{◌≡◌, length, sym, ◌∙◌, rules}
use Rattle.mp_serve.proofs.Formers.{length-states}
use Rattle.mp_clients.proofs.client.Client.kept_back.Goals as goal

pub returns : goal.returns
returns g c =
    let many : c.len.result ≡ length c.self.inside.former.items = search rules in
    rw (← c.self.view_is) (many ∙ sym (length-states c.self.inside.former.items c.self.inside.ledger))
