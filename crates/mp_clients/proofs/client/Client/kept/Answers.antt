use Rattle.std.proofs.Common.{sym, ap, subst, ◌∙◌}
use Rattle.std.specs.Prelude.{All}
use Rattle.mp_rules.specs.Checked.{IsSigned}
use Rattle.mp_seqpool.specs.Keep.{keep, transactions}
use Rattle.mp_signatures.specs.Scheme.{accepted_by}
use Rattle.mp_mempool.proofs.Signed.{signed_after}
use Rattle.mp_clients.specs.Client.{Client}
use Rattle.mp_clients.specs.Inside.Client.{client_of}
use Rattle.mp_clients.proofs.Responses.{tries_ok}
use Rattle.mp_clients.proofs.client.Client.kept.Goals as goal

pub keep_valid-requires-clause-signed : goal.keep_valid-requires-clause-signed
keep_valid-requires-clause-signed g c =
    subst (λ items. All (IsSigned (accepted_by c.self.inside.signatures)) (transactions items)) (sym c.contents.ensures)
    (signed_after g.N.PoolName.accepts (accepted_by c.self.inside.signatures) g.N.PoolName.callers c.shown.result.now c.version-version.result.now.pool c.self.invariant.verifier c.version-version.ensures.legal c.version-version.ensures.state)

pub returns : goal.returns
returns g c =
    let i = c.self.inside in
    let k : Client = client_of i.pass i.signatures i.ledger i.former.items i.refused i.cursor in
    rw (← c.self.view_is) (tries_ok g.N.PoolName.accepts c.args.names.now k c.for_line.result c.args.ledger.now c.shown.result.now c.version-version.result.now.pool _ c.version-version.ensures.state c.shown.ensures
    (c.as_slice.ensures ∙ c.in_ok-kept.ensures.items ∙ ap (keep (accepted_by i.signatures) c.args.ledger.now) c.contents.ensures) c.for_line.ensures)
