use Rattle.std.proofs.Common.{◌≡◌, ℕ, List, sym, ap, subst, ◌∙◌}
use Rattle.mp_tickets.specs.Tickets.{among}
use Rattle.mp_tx.specs.Transaction.{Transaction}
use Rattle.mp_seqpool.specs.Pool.{Pool}
use Rattle.mp_seqpool.specs.SlowPool.{pool_upon}
use Rattle.mp_seqpool.specs.declared.command.Reply.{Reply}
use Rattle.mp_seqpool.specs.Prepared.{Prepared, Effect, Append, Keep, TakeOut, Adopt, changed, HasApplied, CanChange, IsPrepared, apart, left_by}
use Rattle.mp_seqpool.specs.Inside.Effect.{effect_of}
use Rattle.mp_seqpool.proofs.Finishing.{next_valid, told_left}
use Rattle.mp_seqpool.proofs.pool.SeqPool.finish.Goals as goal

-- it is its command, its reply and its effect
parted : (q : Prepared) (r : Reply) (e : Effect) → r ≡ q.reply → e ≡ q.effect → q ≡ record { command = q.command; reply = r; effect = e }
parted q r e reply effect =
    ap (λ r. record { command = q.command; reply = r; effect = q.effect }) (sym reply) ∙ ap (λ e. record { command = q.command; reply = r; effect = e }) (sym effect)

pub append-requires-clause-valid : goal.append-requires-clause-valid
append-requires-clause-valid c =
    let pool : Pool = c.args.self.now.pool in
    let q : Prepared = c.args.prepared in
    let effect : q.effect ≡ Append c.in-Append.node = sym c.into_parts-reply.ensures.effect ∙ ap effect_of c.in-Append.is in
    next_valid c.requires.accepts pool q.command q.reply c.in-Append.node.tx (sym (ap (changed pool) effect) ∙ c.requires.tells) c.requires.reply

pub leave-requires-clause-told : goal.leave-requires-clause-told
leave-requires-clause-told c =
    let q : Prepared = c.args.prepared in
    record {
      command = q.command;
      kept = c.in-Keep._kept;
      prepared = subst (IsPrepared c.args.self.now)
          (parted q c.into_parts-reply.result.0 (effect_of c.into_parts-reply.result.1) c.into_parts-reply.ensures.reply c.into_parts-reply.ensures.effect
          ∙ ap (λ e. record { command = q.command; reply = c.into_parts-reply.result.0; effect = effect_of e }) c.in-Keep.is
          ∙ ap (λ o. record { command = q.command; reply = c.into_parts-reply.result.0; effect = Keep o c.in-Keep._kept }) (sym c.into_inner.ensures))
          c.requires;
    }

pub leave-requires-clause-applied : goal.leave-requires-clause-applied
leave-requires-clause-applied c =
    let pool : Pool = c.args.self.now.pool in
    let q : Prepared = c.args.prepared in
    let overlay = c.into_inner.result in
    let kept = c.in-Keep._kept in
    let effect : q.effect ≡ Keep overlay kept = sym c.into_parts-reply.ensures.effect ∙ ap effect_of c.in-Keep.is ∙ ap (λ o. Keep o kept) (sym c.into_inner.ensures) in
    let fits : HasApplied overlay (among kept pool.items) = subst (CanChange c.args.self.now) effect c.requires.fits in
    subst (HasApplied overlay)
    (told_left pool q.command q.reply overlay.ledger (among kept pool.items) (sym (ap (changed pool) effect) ∙ c.requires.tells)
    ∙ ap (λ r. left_by r pool.items) (sym c.into_parts-reply.ensures.reply))
    fits

pub take_out-requires-clause-turn : goal.take_out-requires-clause-turn
take_out-requires-clause-turn c =
    let effect = sym c.into_parts-reply.ensures.effect ∙ ap effect_of c.in-TakeOut.is in
    subst (CanChange c.args.self.now) effect c.requires.fits

pub take_out-requires-clause-told : goal.take_out-requires-clause-told
take_out-requires-clause-told c =
    let pool : Pool = c.args.self.now.pool in
    let q : Prepared = c.args.prepared in
    let gone : List ℕ = c.in-TakeOut.gone in
    let effect : q.effect ≡ TakeOut gone = sym c.into_parts-reply.ensures.effect ∙ ap effect_of c.in-TakeOut.is in
    told_left pool q.command q.reply pool.ledger (apart gone pool.items) (sym (ap (changed pool) effect) ∙ c.requires.tells)
    ∙ ap (λ r. left_by r pool.items) (sym c.into_parts-reply.ensures.reply)

pub adopt-requires-clause-leaves : goal.adopt-requires-clause-leaves
adopt-requires-clause-leaves c =
    let effect = sym c.into_parts-reply.ensures.effect ∙ ap effect_of c.in-Adopt.is in
    subst (CanChange c.args.self.now) effect c.requires.fits

pub adopt-requires-clause-left : goal.adopt-requires-clause-left
adopt-requires-clause-left c =
    let pool : Pool = c.args.self.now.pool in
    let q : Prepared = c.args.prepared in
    let gone : List ℕ = c.in-Adopt.gone in
    let effect : q.effect ≡ Adopt c.in-Adopt.ledger gone = sym c.into_parts-reply.ensures.effect ∙ ap effect_of c.in-Adopt.is in
    told_left pool q.command q.reply c.in-Adopt.ledger (apart gone pool.items) (sym (ap (changed pool) effect) ∙ c.requires.tells)
    ∙ ap (λ r. left_by r pool.items) (sym c.into_parts-reply.ensures.reply)

pub adopt-requires-clause-told : goal.adopt-requires-clause-told
adopt-requires-clause-told c =
    let q : Prepared = c.args.prepared in
    record {
      command = q.command;
      prepared = subst (IsPrepared c.args.self.now)
          (parted q c.into_parts-reply.result.0 (effect_of c.into_parts-reply.result.1) c.into_parts-reply.ensures.reply c.into_parts-reply.ensures.effect
          ∙ ap (λ e. record { command = q.command; reply = c.into_parts-reply.result.0; effect = effect_of e }) c.in-Adopt.is)
          c.requires;
    }

pub returns-in-Append : goal.returns-in-Append
returns-in-Append c =
    let pool : Pool = c.args.self.now.pool in
    record {
      pool = c.append.ensures ∙ sym (ap (changed pool) (sym c.into_parts-reply.ensures.effect ∙ ap effect_of c.in-Append.is));
      reply = c.into_parts-reply.ensures.reply;
    }

pub returns-in-Keep : goal.returns-in-Keep
returns-in-Keep c =
    let pool : Pool = c.args.self.now.pool in
    let q : Prepared = c.args.prepared in
    let overlay = c.into_inner.result in
    let left : List (ℕ × Transaction) = among c.in-Keep._kept pool.items in
    let leads : changed pool q.effect ≡ pool_upon pool overlay.ledger left = ap (changed pool) (sym c.into_parts-reply.ensures.effect ∙ ap effect_of c.in-Keep.is ∙ ap (λ o. Keep o c.in-Keep._kept) (sym c.into_inner.ensures)) in
    record {
      pool = c.leave.ensures ∙ ap (λ r. pool_upon pool overlay.ledger (left_by r pool.items)) c.into_parts-reply.ensures.reply
          ∙ ap (pool_upon pool overlay.ledger) (sym (told_left pool q.command q.reply overlay.ledger left (sym leads ∙ c.requires.tells))) ∙ sym leads;
      reply = c.into_parts-reply.ensures.reply;
    }

pub returns-in-TakeOut : goal.returns-in-TakeOut
returns-in-TakeOut c =
    let pool : Pool = c.args.self.now.pool in
    let q : Prepared = c.args.prepared in
    let left : List (ℕ × Transaction) = apart c.in-TakeOut.gone pool.items in
    let leads : changed pool q.effect ≡ pool_upon pool pool.ledger left = ap (changed pool) (sym c.into_parts-reply.ensures.effect ∙ ap effect_of c.in-TakeOut.is) in
    record {
      pool = c.take_out.ensures ∙ ap (λ r. pool_upon pool pool.ledger (left_by r pool.items)) c.into_parts-reply.ensures.reply
          ∙ ap (pool_upon pool pool.ledger) (sym (told_left pool q.command q.reply pool.ledger left (sym leads ∙ c.requires.tells))) ∙ sym leads;
      reply = c.into_parts-reply.ensures.reply;
    }

pub returns-in-Adopt : goal.returns-in-Adopt
returns-in-Adopt c =
    let pool : Pool = c.args.self.now.pool in
    let q : Prepared = c.args.prepared in
    let ledger = c.in-Adopt.ledger in
    let left : List (ℕ × Transaction) = apart c.in-Adopt.gone pool.items in
    let leads : changed pool q.effect ≡ pool_upon pool ledger left = ap (changed pool) (sym c.into_parts-reply.ensures.effect ∙ ap effect_of c.in-Adopt.is) in
    record {
      pool = c.adopt.ensures ∙ ap (λ r. pool_upon pool ledger (left_by r pool.items)) c.into_parts-reply.ensures.reply
          ∙ ap (pool_upon pool ledger) (sym (told_left pool q.command q.reply ledger left (sym leads ∙ c.requires.tells))) ∙ sym leads;
      reply = c.into_parts-reply.ensures.reply;
    }
