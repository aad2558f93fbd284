use Rattle.std.proofs.Common.{inl}
use Rattle.mp_main.proofs.clients.open_and_serve.Goals as goal

pub returns-in-Ok-serve-clause-ok : goal.returns-in-Ok-serve-clause-ok
returns-in-Ok-serve-clause-ok g c =
    let service = c.in-Ok-serve.service in
    inl (
      service.is_known,
      service.finished.items,
      record {
        front = c.in-Ok.opened.front;
        seats = c.in-Ok.opened.seats.items;
        opened = c.in-Ok.ensures;
        history = service.front;
        legal = c.in-Ok-serve.ensures.legal;
        begins = c.in-Ok-serve.ensures.begins;
        seen = c.in-Ok-serve.ensures.seen;
        known = c.in-Ok-serve.ensures.known;
        served = c.in-Ok-serve.ensures.served;
      },
      c.end_conversations.ensures,
    )
