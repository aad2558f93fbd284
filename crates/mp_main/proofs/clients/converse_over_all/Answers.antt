use Rattle.std.proofs.Common.{◌∙◌, ◌+◌, ap, length}
use Rattle.std.specs.Prelude.{Err}
use Rattle.std.specs.declared.marker.Brand.{Brand}
use Rattle.mp_serve.specs.declared.fault.ConversationFault.TheVariants.{NoMemory}
use Rattle.mp_serve.specs.Talk.{new_conversation}
use Rattle.mp_main.proofs.Holding.{ends_early, none_answered, same_start}
use Rattle.mp_main.proofs.clients.converse_over_all.Goals as goal

pub returns-in-Ok : goal.returns-in-Ok
returns-in-Ok g c = same_start Brand _ _ g.D.Device.input g.D.Device.output c.in-Ok.operator _ c.args.device c.args.clients.items _ _
    (c.callers_of-callers.ensures ∙ ap (λ clients. length clients + 1) c.deref.ensures.value) c.in-Ok.ensures c.converse_from.ensures

pub returns-in-Err : goal.returns-in-Err
returns-in-Err g c =
    let start = new_conversation c.args.signatures c.args.salt c.args.names in
    let all = g.D.Device.input c.args.device in
    ends_early Brand _ g.D.Device.input g.D.Device.output start c.args.device c.args.device c.args.clients.items _ (Err NoMemory) all
    (none_answered start all (g.D.Device.output c.args.device)) c.end_fault.ensures
