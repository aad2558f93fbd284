-- A pool that is served, with the ledger states to which it can return.
use Rattle.std.specs.Prelude.{ℕ, ◌-◌, nat_le, List, [], ◌∷◌, ◌++◌, length, drop, slice_get, Option, None, if◌then◌else◌}
use Rattle.mp_tx.specs.Ledger.{LedgerState}
use Rattle.mp_seqpool.specs.Pool.{Pool}
use Rattle.mp_signatures.specs.declared.scheme.Scheme.{Scheme}
use Rattle.mp_serve.specs.declared.refused.Counts.{Counts}

pub record ServedPool : Type 0 where
  pub pool : Pool
  -- the signatures that it accepts
  pub signatures : Scheme
  -- the ledger states before the present one, oldest first
  pub former : List LedgerState
  -- how often each kind of refusal was answered
  pub refused : Counts
  -- the last ticket that the peer was offered
  pub cursor : ℕ

-- the last 2,160 items
abbrev pub latest : {X : Type 0} → List X → List X
latest states = drop (length states - 2160) states

-- the ledger state this many steps ago, if it is kept
abbrev pub state_back : List LedgerState → LedgerState → ℕ → Option LedgerState
state_back former now count =
    if nat_le count (length former) then slice_get (former ++ now ∷ []) (length former - count) else None
