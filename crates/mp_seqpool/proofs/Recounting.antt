-- What a pool stores in addition to its state, after some of its items are gone.
use Rattle.std.proofs.Common.{◌≡◌, ℕ, ◌+◌, ◌-◌, ◌^◌, ◌<◌, ◌≤◌, sym, ap, subst, ◌∙◌, arith}
use Rattle.std.specs.Prelude.{All}
use Rattle.std.specs.FinMap.{get}
use Rattle.mp_rules.specs.Validity.{Chain}
use Rattle.mp_seqpool.specs.ValidatedTx.{ticketed}
use Rattle.mp_seqpool.specs.Keep.{transactions, tickets}
use Rattle.mp_seqpool.specs.declared.command.Reply.{Reply}
use Rattle.mp_seqpool.specs.declared.pool.SeqPool.TheInside.{Inside}
use Rattle.mp_seqpool.specs.SlowPool.{pool_upon}
use Rattle.mp_seqpool.specs.Prepared.{HasApplied, left_by}
use Rattle.mp_seqpool.specs.Inside.Leaving.{bytes_in, Leaves}
use Rattle.mp_seqpool.specs.Inside.Chained.{all_accepted, IsChained}
use Rattle.mp_seqpool.specs.Inside.SeqPool.{state, IsCounted}

fewer : (old new bytes_then bytes_now gone : ℕ) → old ≡ bytes_then → bytes_now + gone ≡ bytes_then → new ≡ old - gone → new ≡ bytes_now
fewer old new bytes_then bytes_now gone h k e = omega arith

less : (old new gone most : ℕ) → old ≤ most → new ≡ old - gone → new ≤ most
less old new gone most h e = omega arith

one_more : (n new limit : ℕ) → n < limit → new ≡ n + 1 → new ≤ limit
one_more n new limit lt e = omega arith

-- it is right if they left as the reply says, and the overlay has what stayed
pub recounted : (was new : Inside) (reply : Reply) (gone : ℕ) → new.config ≡ was.config → new.last ≡ was.last → HasApplied new.overlay (left_by reply (ticketed was.items))
    → Leaves reply was.items new.items gone → new.bytes ≡ was.bytes - gone → new.changes ≡ was.changes + 1 → was.changes < was.config.limit
    → IsChained (pool_upon (state was) new.overlay.ledger (left_by reply (ticketed was.items))) → IsCounted was → IsCounted new
recounted was new reply gone config last applied leaves bytes changes below chained law = record {
  applied = applied.applied ∙ sym (ap transactions leaves.items);
  under = applied.under ∙ sym leaves.items;
  chained = subst (λ items. Chain all_accepted (get new.overlay.ledger.utxo) new.overlay.ledger.tick (transactions items)) (sym leaves.items) chained;
  distinct = leaves.known.distinct;
  valid = leaves.valid law.valid;
  bytes = fewer was.bytes new.bytes (bytes_in was.items) (bytes_in new.items) gone law.bytes leaves.bytes bytes;
  most = less was.bytes new.bytes gone (2 ^ 40) law.most bytes;
  changes = subst (λ c. new.changes ≤ c.limit) (sym config) (one_more was.changes new.changes was.config.limit below changes);
  rising = leaves.known.rising;
  given = subst (λ n. All (λ k. k ≤ n) (tickets (ticketed new.items))) (sym last) (leaves.given was.last law.given);
}
