-- Offers of pools that take over from each other.
use Rattle.std.proofs.Common.{◌≡◌, ℕ, ◌≤◌, List, [], ◌∷◌, ◌++◌, sym, ap, subst, ◌∙◌, arith, append_assoc, append-nil}
use Rattle.std.specs.Prelude.{Contains}
use Rattle.std.proofs.lemmas.List.Elements.{All-head, All-contains, Contains-get_or}
use Rattle.mp_tx.specs.Transaction.{Transaction}
use Rattle.mp_rules.specs.Verifier.{Accepts}
use Rattle.mp_tickets.specs.Tickets.{IsRisingFrom}
use Rattle.mp_seqpool.specs.PoolLaws.{Lasts}
use Rattle.mp_seqpool.specs.Reading.{moved}
use Rattle.mp_seqpool.proofs.Moving.{moved-append}
use Rattle.mp_history.specs.Log.{Log, IsLegalLog, state_after}
use Rattle.mp_history.specs.Successors.{Succeeds}
use Rattle.mp_history.proofs.Rising.{successor_law}
use Rattle.mp_versions.specs.Offers.{Offer, Turn, AreOffersOf, AreTurns, IsOfferedOnceInAll, offered, offered_in, cursor_after, cursor_in, last_log}
use Rattle.mp_versions.proofs.Beginnings.{lawful-state}
use Rattle.mp_versions.proofs.Rising.{increasing, rising-joined}
use Rattle.mp_versions.proofs.Rounds.{IsWhole, above_zero, all_rise, bound_all, last_one, offered_whole, whole}

module _ (accepts : Accepts) where
  -- What was offered, up to this cursor, of the pool with this history and of the pools before it.
  pub record IsOffered (callers : ℕ) (log : Log) (seen : List (ℕ × Transaction)) (cursor : ℕ) : Type 0 where
    pub legal : IsLegalLog accepts callers log
    pub rising : IsRisingFrom 0 seen
    pub last : cursor ≡ moved 0 seen
    pub given : cursor ≤ (state_after accepts log).last
    pub whole : IsWhole 0 seen cursor (state_after accepts log)

  -- for the first pool
  first : (callers : ℕ) (log : Log) (offers : List Offer) → IsLegalLog accepts callers log → AreOffersOf log offers
      → IsOffered callers log (offered accepts 0 offers) (cursor_after accepts 0 offers)
  first callers log offers legal are =
      let bound = bound_all accepts callers log legal 0 offers are in
      record {
        legal = legal;
        rising = all_rise accepts callers log legal 0 offers are;
        last = last_one accepts 0 offers;
        given = omega (arith, bound);
        whole = offered_whole accepts callers log legal 0 offers are;
      }

  -- a pool opens with what the pool before it had
  over : (callers : ℕ) (log later : Log) → IsLegalLog accepts callers log → Succeeds accepts log later → Lasts (state_after accepts log) (state_after accepts later)
  over callers log later legal follow = All-head (λ l. Lasts (state_after accepts log) (state_after accepts l)) later [] (successor_law accepts callers log (later ∷ []) legal (follow, tt)).lasts

  -- for a pool that takes over
  next : (callers : ℕ) (log : Log) (seen : List (ℕ × Transaction)) (cursor : ℕ) (t : Turn) → IsOffered callers log seen cursor → (follow : Succeeds accepts log t.log) → AreOffersOf t.log t.offers
      → IsOffered follow.callers t.log (seen ++ offered accepts cursor t.offers) (cursor_after accepts cursor t.offers)
  next callers log seen cursor t before follow are =
      let more : List (ℕ × Transaction) = offered accepts cursor t.offers in
      let kept = over callers log t.log before.legal follow in
      let legal = follow.legal in
      let bound = bound_all accepts follow.callers t.log legal cursor t.offers are in
      let old = before.given in
      let later = kept.last in
      record {
        legal = legal;
        rising = rising-joined 0 seen more before.rising (subst (λ n. IsRisingFrom n more) before.last (all_rise accepts follow.callers t.log legal cursor t.offers are));
        last = last_one accepts cursor t.offers ∙ ap (λ n. moved n more) before.last ∙ sym (moved-append 0 seen more);
        given = omega (arith, bound, old, later);
        whole = whole accepts follow.callers t.log legal 0 seen cursor t.offers are
            (λ x c above le. before.whole x (All-contains (λ i. i.0 ≤ (state_after accepts log).last → Contains (state_after accepts log).items i) (state_after accepts t.log).items x kept.kept c (omega (arith, le, old))) above le);
      }

  -- for all of them
  all : (callers : ℕ) (log : Log) (seen : List (ℕ × Transaction)) (cursor : ℕ) (turns : List Turn) → IsOffered callers log seen cursor → AreTurns accepts log turns
      → (known : ℕ) × IsOffered known (last_log log turns) (seen ++ offered_in accepts cursor turns) (cursor_in accepts cursor turns)
  all callers log seen cursor [] before are = (callers, subst (λ l. IsOffered callers log l cursor) (sym (append-nil seen)) before)
  all callers log seen cursor (t ∷ ts) before are =
      let more : List (ℕ × Transaction) = offered accepts cursor t.offers in
      let now = cursor_after accepts cursor t.offers in
      let rest = all are.0.callers t.log (seen ++ more) now ts (next callers log seen cursor t before are.0 are.1) are.2 in
      (rest.0, subst (λ l. IsOffered rest.0 (last_log t.log ts) l (cursor_in accepts now ts)) (append_assoc seen more (offered_in accepts now ts)) rest.1)

pub offered_once_in_all : (accepts : Accepts) (callers : ℕ) (offers : List Offer) (log : Log) (turns : List Turn) → IsLegalLog accepts callers log → AreOffersOf log offers → AreTurns accepts log turns
    → IsOfferedOnceInAll accepts offers log turns
offered_once_in_all accepts callers offers log turns legal are follow =
    let seen : List (ℕ × Transaction) = offered accepts 0 offers in
    let end = all accepts callers log seen (cursor_after accepts 0 offers) turns (first accepts callers log offers legal are) follow in
    let items : List (ℕ × Transaction) = (state_after accepts (last_log log turns)).items in
    record {
      rising = increasing 0 (seen ++ offered_in accepts (cursor_after accepts 0 offers) turns) end.1.rising;
      whole = λ k d lt. let c = Contains-get_or items k d lt in
          end.1.whole _ c (above_zero accepts (state_after accepts (last_log log turns)) (lawful-state accepts end.0 (last_log log turns) end.1.legal) _ c);
    }
