-- Offers one after the other.
use Rattle.std.proofs.Common.{◌≡◌, ℕ, ◌<◌, ◌≤◌, max, Bool, true, false, List, [], ◌∷◌, ◌++◌, sym, subst, ◌∙◌, refl, arith, append_assoc, append-nil}
use Rattle.std.specs.Prelude.{All, Contains, nat_lt}
use Rattle.std.proofs.lemmas.Bool.{ltb-true}
use Rattle.std.proofs.lemmas.Bool.Decides.{nat_tests}
use Rattle.std.proofs.lemmas.List.Elements.{All-head, All-tail, All-contains, All-filter, All-contains_itself, Contains-get_or, Contains-append_left, Contains-append_right}
use Rattle.mp_tx.specs.Transaction.{Transaction}
use Rattle.mp_rules.specs.Verifier.{Accepts}
use Rattle.mp_tickets.specs.Tickets.{IsRisingFrom, after}
use Rattle.mp_seqpool.specs.Pool.{Pool}
use Rattle.mp_seqpool.specs.PoolLaws.{IsLawful}
use Rattle.mp_seqpool.proofs.Keeping.{All-unmap}
use Rattle.mp_history.specs.Log.{Log, Begins, IsLegalLog, state_after}
use Rattle.mp_versions.proofs.Histories.{lasts}
use Rattle.mp_seqpool.specs.Reading.{moved}
use Rattle.mp_seqpool.proofs.Moving.{moved-append}
use Rattle.mp_versions.specs.Offers.{Offer, offer_at, offered, cursor_after, IsEachOfferedOnce, IsEachOfferedAfter}
use Rattle.mp_versions.proofs.Beginnings.{begins_after, lawful-state}
use Rattle.mp_versions.proofs.Fronts.{legal-beginning}
use Rattle.mp_versions.proofs.Rising.{above_low, rising-lawful, rising-after, rising-left, rising-joined, increasing, moved-bound, in_offer}

-- the cursor is the ticket offered last
pub last_one : (accepts : Accepts) (cursor : ℕ) (offers : List Offer) → cursor_after accepts cursor offers ≡ moved cursor (offered accepts cursor offers)
last_one accepts cursor [] = refl
last_one accepts cursor (o ∷ os) =
    let g : List (ℕ × Transaction) = offer_at accepts cursor o in
    last_one accepts (moved cursor g) os ∙ sym (moved-append cursor g (offered accepts (moved cursor g) os))

-- what is above start, and up to the cursor, was offered
abbrev pub IsWhole : ℕ → List (ℕ × Transaction) → ℕ → Pool → Type 0
IsWhole start seen cursor p = (x : ℕ × Transaction) → Contains p.items x → start < x.0 → x.0 ≤ cursor → Contains seen x

-- nothing is both above start and up to it
none : (start : ℕ) (p : Pool) → IsWhole start [] start p
none start p x c more le = absurd (omega arith)

pub above_zero : (accepts : Accepts) (p : Pool) → IsLawful accepts p → (x : ℕ × Transaction) → Contains p.items x → 0 < x.0
above_zero accepts p law x c = All-contains (λ i. 0 < i.0) p.items x (All-unmap (λ i. i.0) (λ k. 0 < k) p.items law.above_zero) c

given : (accepts : Accepts) (p : Pool) → IsLawful accepts p → (x : ℕ × Transaction) → Contains p.items x → x.0 ≤ p.last
given accepts p law x c = All-contains (λ i. i.0 ≤ p.last) p.items x (All-unmap (λ i. i.0) (λ k. k ≤ p.last) p.items law.given) c

-- what is offered is in the pool at that time
there : (accepts : Accepts) (cursor : ℕ) (o : Offer) (x : ℕ × Transaction) → Contains (offer_at accepts cursor o) x → Contains (state_after accepts o.front).items x
there accepts cursor o x c =
    let items : List (ℕ × Transaction) = (state_after accepts o.front).items in
    let begins = begins_after cursor o.count o.bytes items in
    All-contains (Contains items) (after items cursor) x (All-filter _ (Contains items) items (All-contains_itself items))
    (subst (λ l. Contains l x) begins.1 (Contains-append_left (offer_at accepts cursor o) begins.0 x c))

module _ (accepts : Accepts) (callers : ℕ) (log : Log) (legal : IsLegalLog accepts callers log) where
  lawful_at : (o : Offer) → Begins o.front log → IsLawful accepts (state_after accepts o.front)
  lawful_at o begins = lawful-state accepts callers o.front (legal-beginning accepts callers o.front log begins legal)

  rises : (cursor : ℕ) (o : Offer) → Begins o.front log → IsRisingFrom cursor (offer_at accepts cursor o)
  rises cursor o begins =
      let items : List (ℕ × Transaction) = (state_after accepts o.front).items in
      let first = begins_after cursor o.count o.bytes items in
      rising-left cursor (offer_at accepts cursor o) first.0 (subst (IsRisingFrom cursor) (sym first.1) (rising-after 0 cursor items (rising-lawful accepts (state_after accepts o.front) (lawful_at o begins))))

  pub all_rise : (cursor : ℕ) (offers : List Offer) → All (λ o. Begins o.front log) offers → IsRisingFrom cursor (offered accepts cursor offers)
  all_rise cursor [] are = tt
  all_rise cursor (o ∷ os) are =
      let g : List (ℕ × Transaction) = offer_at accepts cursor o in
      rising-joined cursor g (offered accepts (moved cursor g) os) (rises cursor o (All-head (λ f. Begins f.front log) o os are)) (all_rise (moved cursor g) os (All-tail (λ f. Begins f.front log) o os are))

  -- the cursor moves to no ticket that hasn't been given yet
  bound_one : (cursor : ℕ) (o : Offer) → Begins o.front log → moved cursor (offer_at accepts cursor o) ≤ max cursor (state_after accepts o.front).last
  bound_one cursor o begins =
      let p : Pool = state_after accepts o.front in
      moved-bound (λ k. k ≤ max cursor p.last) cursor (offer_at accepts cursor o) (omega arith) (λ y d. let h = given accepts p (lawful_at o begins) y (there accepts cursor o y d) in omega arith)

  pub bound_all : (cursor : ℕ) (offers : List Offer) → All (λ o. Begins o.front log) offers → cursor_after accepts cursor offers ≤ max cursor (state_after accepts log).last
  bound_all cursor [] are = omega arith
  bound_all cursor (o ∷ os) are =
      let g : List (ℕ × Transaction) = offer_at accepts cursor o in
      let begins = All-head (λ f. Begins f.front log) o os are in
      let one = bound_one cursor o begins in
      let later = (lasts accepts callers o.front log legal begins).last in
      let rest = bound_all (moved cursor g) os (All-tail (λ f. Begins f.front log) o os are) in
      omega (arith, one, later, rest)

  -- this still holds after one more offer
  one_more : (start : ℕ) (seen : List (ℕ × Transaction)) (cursor : ℕ) (o : Offer) → Begins o.front log → IsWhole start seen cursor (state_after accepts log)
      → IsWhole start (seen ++ offer_at accepts cursor o) (moved cursor (offer_at accepts cursor o)) (state_after accepts log)
  one_more start seen cursor o begins before x c more le = by (nat_lt cursor x.0) refl
    where
      p : Pool
      p = state_after accepts o.front

      g : List (ℕ × Transaction)
      g = offer_at accepts cursor o

      law : IsLawful accepts p
      law = lawful_at o begins

      bound : moved cursor g ≤ max cursor p.last
      bound = bound_one cursor o begins

      then : cursor < x.0 → Contains p.items x
      then above = All-contains (λ i. i.0 ≤ p.last → Contains p.items i) (state_after accepts log).items x (lasts accepts callers o.front log legal begins).kept c (let b = bound in omega arith)

      by : (b : Bool) → nat_lt cursor x.0 ≡ b → Contains (seen ++ g) x
      by true e =
          let above : cursor < x.0 = ltb-true cursor x.0 e in
          Contains-append_right seen g x (in_offer cursor 0 p.items g (rising-lawful accepts p law) (begins_after cursor o.count o.bytes p.items) x (then above) above le)
      by false e = Contains-append_left seen g x (before x c more (grind (arith, nat_tests)))

  pub whole : (start : ℕ) (seen : List (ℕ × Transaction)) (cursor : ℕ) (offers : List Offer) → All (λ o. Begins o.front log) offers → IsWhole start seen cursor (state_after accepts log)
      → IsWhole start (seen ++ offered accepts cursor offers) (cursor_after accepts cursor offers) (state_after accepts log)
  whole start seen cursor [] are is = subst (λ l. IsWhole start l cursor (state_after accepts log)) (sym (append-nil seen)) is
  whole start seen cursor (o ∷ os) are is =
      let g : List (ℕ × Transaction) = offer_at accepts cursor o in
      subst (λ l. IsWhole start l (cursor_after accepts (moved cursor g) os) (state_after accepts log)) (append_assoc seen g (offered accepts (moved cursor g) os))
      (whole start (seen ++ g) (moved cursor g) os (All-tail (λ f. Begins f.front log) o os are) (one_more start seen cursor o (All-head (λ f. Begins f.front log) o os are) is))

  -- everything that is offered, up to the cursor
  pub offered_whole : (start : ℕ) (offers : List Offer) → All (λ o. Begins o.front log) offers → IsWhole start (offered accepts start offers) (cursor_after accepts start offers) (state_after accepts log)
  offered_whole start offers are = whole start [] start offers are (none start (state_after accepts log))

  each_once : (offers : List Offer) → All (λ o. Begins o.front log) offers → IsEachOfferedOnce accepts offers log
  each_once offers are =
      let all = offered_whole 0 offers are in let items : List (ℕ × Transaction) = (state_after accepts log).items in
      record {
        rising = increasing 0 (offered accepts 0 offers) (all_rise 0 offers are);
        last = last_one accepts 0 offers;
        whole = λ k d lt. let c = Contains-get_or items k d lt in all _ c (above_zero accepts (state_after accepts log) (lawful-state accepts callers log legal) _ c);
      }

  each_after : (start : ℕ) (offers : List Offer) → All (λ o. Begins o.front log) offers → IsEachOfferedAfter accepts start offers log
  each_after start offers are =
      let seen : List (ℕ × Transaction) = offered accepts start offers in let rises = all_rise start offers are in
      record {
        above = λ k d lt. above_low start seen _ rises (Contains-get_or seen k d lt);
        rising = increasing start seen rises;
        last = last_one accepts start offers;
        whole = λ k d lt. offered_whole start offers are _ (Contains-get_or (state_after accepts log).items k d lt);
      }

pub offered_once : (accepts : Accepts) (callers : ℕ) (offers : List Offer) (log : Log) → IsLegalLog accepts callers log → All (λ o. Begins o.front log) offers → IsEachOfferedOnce accepts offers log
offered_once accepts callers offers log legal are = each_once accepts callers log legal offers are

pub offered_after : (accepts : Accepts) (callers start : ℕ) (offers : List Offer) (log : Log) → IsLegalLog accepts callers log → All (λ o. Begins o.front log) offers → IsEachOfferedAfter accepts start offers log
offered_after accepts callers start offers log legal are = each_after accepts callers log legal start offers are
