-- What stays true of a client.
use Rattle.std.proofs.Common.{◌≡◌, ℕ, ◌≤◌, List, [], ◌∷◌, length, refl, sym, ap, ap₂, ◌∙◌}
use Rattle.std.specs.Prelude.{Result, Ok, Err, IfOk, OnErr}
use Rattle.mp_tx.specs.Ledger.{LedgerState}
use Rattle.mp_rules.specs.Verifier.{Accepts}
use Rattle.mp_signatures.specs.declared.scheme.Scheme.{Scheme}
use Rattle.mp_seqpool.specs.Pool.{Pool}
use Rattle.mp_seqpool.specs.declared.refusal.Refusal.{Refusal}
use Rattle.mp_seqpool.specs.declared.command.Reply.{Reply}
use Rattle.mp_seqpool.specs.Command.{Command}
use Rattle.mp_seqpool.specs.SlowPool.{next}
use Rattle.mp_history.specs.Entry.{Entry}
use Rattle.mp_history.specs.Log.{Log, pool_of, state_after}
use Rattle.mp_mempool.specs.Pass.{Pass}
use Rattle.mp_mempool.specs.Seen.{IsSeen}
use Rattle.mp_mempool.specs.declared.read.receipt.Receipt.{Receipt}
use Rattle.mp_serve.specs.declared.former.Former.{Former}
use Rattle.mp_serve.specs.Inside.Former.{CanAllGoBack}
use Rattle.mp_serve.proofs.Pools.{limit-next}
use Rattle.mp_clients.specs.declared.stop.ClientStop.{ClientStop}
use Rattle.mp_clients.specs.Answers.{IsAnswerTo, IsAsked, moved, adopted}
use Rattle.mp_clients.specs.Client.{Client}
use Rattle.mp_clients.specs.Inside.Asked.{answer_in, if_made}
use Rattle.mp_clients.specs.Inside.Client.{IsClient}

module _ (accepts : Accepts) where
  limit-entries : (p : Pool) (es : List Entry) → (pool_of accepts p es).limit ≡ p.limit
  limit-entries p [] = refl
  limit-entries p (e ∷ es) = limit-entries (next accepts p e.command) es ∙ limit-next accepts p e.command

  -- the limit of changes stays
  pub limit-after : (log : Log) → (state_after accepts log).limit ≡ log.opening.limit
  limit-after log = limit-entries log.opening log.entries

  module _ (callers : ℕ) where
    pub opening-seen : (p q : Pass) → IsSeen accepts callers p q → q.front.opening ≡ p.front.opening
    opening-seen p q s = ap (λ (r : Pass). r.front.opening) s.pass

    opening-answer : (p : Pass) (command : Command) (a : Result Reply Refusal) (q : Pass) → IsAnswerTo accepts callers p command a q → q.front.opening ≡ p.front.opening
    opening-answer p command (Ok reply) q (place, e, entered, same) = ap (λ (r : Pass). r.front.opening) entered.pass
    opening-answer p command (Err refusal) q refused = ap (λ (r : Pass). r.front.opening) refused.pass

    pub opening-asked : (p : Pass) (command : Command) (r : Result (Result Receipt Refusal) ClientStop) (q : Pass) → IfOk r (λ a. IsAnswerTo accepts callers p command (answer_in a) q) → OnErr r (q ≡ p)
        → q.front.opening ≡ p.front.opening
    opening-asked p command (Ok a) q is same = opening-answer p command (answer_in a) q is
    opening-asked p command (Err stop) q is same = ap (λ (r : Pass). r.front.opening) same

    -- the client has adopted a ledger state, if the change was made
    pub asked_adopted : (k : Client) (command : Command) (l : LedgerState) (former : List LedgerState) (r : Result (Result Receipt Refusal) ClientStop) (q : Pass) (fs : List LedgerState) (now : LedgerState)
        → IfOk r (λ a. IsAnswerTo accepts callers k.pass command (answer_in a) q) → IfOk r (λ a. fs ≡ if_made (answer_in a) former k.former) → IfOk r (λ a. now ≡ if_made (answer_in a) l k.ledger)
        → IfOk r (λ a. IsAsked accepts callers k command (adopted k l former) (answer_in a) (record k { pass = q; ledger = now; former = fs }))
    asked_adopted k command l former (Ok (Ok receipt)) q fs now is f n = record { answer = is; after_is = ap₂ (λ x y. record k { pass = q; ledger = x; former = y }) n f }
    asked_adopted k command l former (Ok (Err refusal)) q fs now is f n = record { answer = is; after_is = ap₂ (λ x y. record k { pass = q; ledger = x; former = y }) n f }
    asked_adopted k command l former (Err stop) q fs now is f n = tt

    -- the client has moved
    pub asked_moved : (k : Client) (command : Command) (r : Result (Result Receipt Refusal) ClientStop) (q : Pass) → IfOk r (λ a. IsAnswerTo accepts callers k.pass command (answer_in a) q)
        → IfOk r (λ a. IsAsked accepts callers k command (moved k) (answer_in a) (record k { pass = q }))
    asked_moved k command (Ok a) q is = record { answer = is; after_is = refl }
    asked_moved k command (Err stop) q is = tt

  -- the client has another pass of the pool, and perhaps another ledger state and other former ones
  pub still : (s : Scheme) (n : ℕ) (p q : Pass) (l m : LedgerState) (fs gs : List Former) → q.front.opening ≡ p.front.opening → length gs ≤ 2160 → CanAllGoBack gs m → IsClient accepts s n p l fs
      → IsClient accepts s n q m gs
  still s n p q l m fs gs same few can is = record {
    verifier = is.verifier;
    limit_is = is.limit_is ∙ ap (λ (o : Pool). o.limit) (sym same);
    few = few;
    can = can;
  }
