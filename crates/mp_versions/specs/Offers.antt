-- Offers of a pool's items to a peer.
use Rattle.std.specs.Prelude.{◌≡◌, ℕ, ◌<◌, ◌≤◌, List, [], ◌∷◌, ◌++◌, length, All, Contains}
use Rattle.std.specs.List.Sorted.{IsStrictlyIncreasing}
use mathlib.Core.List.{IsPrefix}
use Rattle.mp_tx.specs.Transaction.{Transaction}
use Rattle.mp_rules.specs.Verifier.{Accepts}
use Rattle.mp_seqpool.specs.Keep.{tickets, bytes_of}
use Rattle.mp_history.specs.Log.{Log, Begins, state_after}
use Rattle.mp_history.specs.Successors.{Succeeds}
use Rattle.mp_seqpool.specs.Reading.{offer, moved}

-- the longest prefix with at most `count` items, whose sizes sum to at most `bytes`
pub record IsLongestOffer (count bytes : ℕ) (items offered : List (ℕ × Transaction)) : Type 0 where
  pub begins : IsPrefix offered items
  pub few : length offered ≤ count
  pub fits : bytes_of offered ≤ bytes
  pub longest : (other : List (ℕ × Transaction)) → IsPrefix other items → length other ≤ count → bytes_of other ≤ bytes →
      length other ≤ length offered

-- One offer of a reader.
pub record Offer : Type 0 where
  -- the history that its snapshot is after
  pub front : Log
  -- at most this many items
  pub count : ℕ
  -- at most this many bytes
  pub bytes : ℕ

-- Each is made on a snapshot of the pool with this history, or with a prefix of it.
abbrev pub AreOffersOf : Log → List Offer → Type 0
AreOffersOf log offers = All (λ o. Begins o.front log) offers

-- What a reader offers of one of several pools that take over from each other.
pub record Turn : Type 0 where
  -- the pool's history
  pub log : Log
  pub offers : List Offer

-- the last pool's history
abbrev pub last_log : Log → List Turn → Log
last_log log [] = log
last_log log (t ∷ ts) = last_log t.log ts

-- The verifier decides which signatures are good.
module _ (accepts : Accepts) where
  -- what one offer has, given a cursor
  abbrev pub offer_at : ℕ → Offer → List (ℕ × Transaction)
  offer_at cursor o = offer cursor o.count o.bytes (state_after accepts o.front).items

  -- all that is offered, given a cursor, one offer after the other
  abbrev pub offered : ℕ → List Offer → List (ℕ × Transaction)
  offered cursor [] = []
  offered cursor (o ∷ os) = offer_at cursor o ++ offered (moved cursor (offer_at cursor o)) os

  -- where the cursor is then
  abbrev pub cursor_after : ℕ → List Offer → ℕ
  cursor_after cursor [] = cursor
  cursor_after cursor (o ∷ os) = cursor_after (moved cursor (offer_at cursor o)) os

  -- What a reader that begins at 0 has offered of the pool with this history.
  pub record IsEachOfferedOnce (offers : List Offer) (log : Log) : Type 0 where
    -- tickets are strictly increasing over all offers, so nothing is offered twice
    pub rising : IsStrictlyIncreasing (tickets (offered 0 offers))
    -- the cursor is the last ticket
    pub last : cursor_after 0 offers ≡ moved 0 (offered 0 offers)
    -- each item of the pool with a ticket up to the cursor was offered
    pub whole : All (λ i. i.0 ≤ cursor_after 0 offers → Contains (offered 0 offers) i) (state_after accepts log).items

  -- What a reader that begins after the ticket start has offered of the pool with this history.
  pub record IsEachOfferedAfter (start : ℕ) (offers : List Offer) (log : Log) : Type 0 where
    -- what is offered is above start, and tickets are strictly increasing over all offers
    pub above : All (λ i. start < i.0) (offered start offers)
    pub rising : IsStrictlyIncreasing (tickets (offered start offers))
    -- the cursor is the last ticket, or start
    pub last : cursor_after start offers ≡ moved start (offered start offers)
    -- each item of the pool with a ticket above start and up to the cursor was offered
    pub whole : All (λ i. start < i.0 → i.0 ≤ cursor_after start offers → Contains (offered start offers) i) (state_after accepts log).items

  -- each pool takes over from the one before, and the offers are made of it
  abbrev pub AreTurns : Log → List Turn → Type 0
  AreTurns before [] = Unit {0}
  AreTurns before (t ∷ ts) = Succeeds accepts before t.log × AreOffersOf t.log t.offers × AreTurns t.log ts

  -- all that is offered, given a cursor, of one pool after the other
  abbrev pub offered_in : ℕ → List Turn → List (ℕ × Transaction)
  offered_in cursor [] = []
  offered_in cursor (t ∷ ts) = offered cursor t.offers ++ offered_in (cursor_after cursor t.offers) ts

  -- where the cursor is then
  abbrev pub cursor_in : ℕ → List Turn → ℕ
  cursor_in cursor [] = cursor
  cursor_in cursor (t ∷ ts) = cursor_in (cursor_after cursor t.offers) ts

  -- What a reader that begins at 0 has offered of a pool with this history, and then, with the same cursor, of pools that took
  -- over.
  pub record IsOfferedOnceInAll (offers : List Offer) (log : Log) (turns : List Turn) : Type 0 where
    -- tickets are strictly increasing from the first offer of the first pool to the last of the last one
    pub rising : IsStrictlyIncreasing (tickets (offered 0 offers ++ offered_in (cursor_after 0 offers) turns))
    -- each item of the last pool with a ticket up to the cursor was offered
    pub whole : All (λ i. i.0 ≤ cursor_in (cursor_after 0 offers) turns → Contains (offered 0 offers ++ offered_in (cursor_after 0 offers) turns) i)
        (state_after accepts (last_log log turns)).items
