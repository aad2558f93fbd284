-- How a pool hands over to a successor, which opens with the state of the pool.
use Rattle.std.specs.Prelude.{◌≡◌, ◌≢◌, ℕ, List, map, take, All, HoldsAt, None, Some, slice_get}
use Rattle.std.specs.List.{range_with_len}
use Rattle.mp_rules.specs.Verifier.{Accepts}
use Rattle.mp_history.specs.Log.{Log, Begins, IsLegalLog, last_of}
use Rattle.mp_history.specs.Successors.{successor}
use Rattle.mp_mempool.specs.Pass.{Pass}
use Rattle.mp_mempool.specs.declared.refusal.OpenRefusal.TheVariants as opening
use Rattle.mp_mempool.specs.declared.refusal.SuccessorRefusal.{SuccessorRefusal}
use Rattle.mp_mempool.specs.declared.refusal.SuccessorRefusal.TheVariants.{NoMemory, BadPasses, BadCallers, BadLimit, Foreign}
use Rattle.mp_mempool.specs.Answers.{IsForeign}
use Rattle.mp_mempool.specs.Opening.{open_fault, fresh_passes}

-- the numbers of the callers that have these passes
abbrev pub numbers : List Pass → List ℕ
numbers passes = map (λ p. p.caller) passes

-- the passes are those of the callers 0, 1, .., in order
abbrev pub AreAll : ℕ → List Pass → Type 0
AreAll callers passes = numbers passes ≡ range_with_len 0 callers

-- They aren't: this is the first place with a wrong pass, one too many, or a missing one.
pub record AreBadAt (callers : ℕ) (passes : List Pass) (place : ℕ) : Type 0 where
  pub before : take place (numbers passes) ≡ take place (range_with_len 0 callers)
  pub differs : slice_get (numbers passes) place ≢ slice_get (range_with_len 0 callers) place

-- the pass has seen a prefix of the history, and knows all entries of its caller there
pub record IsKnownTo (log : Log) (p : Pass) : Type 0 where
  pub begins : Begins p.front log
  pub known : last_of p.caller log.entries ≡ p.last

-- The first of the passes that doesn't know an entry of its caller in the history.
pub record IsFirstForeign (passes : List Pass) (log : Log) : Type 0 where
  pub place : ℕ
  pub foreign : HoldsAt (λ p. IsForeign p log) passes place
  pub before : All (IsKnownTo log) (take place passes)

-- The verifier decides which signatures are good.
module _ (accepts : Accepts) (callers : ℕ) where
  -- A pool with this many callers hands over after its whole history, with the passes of all of them.
  pub record HandsOver (passes : List Pass) (log : Log) : Type 0 where
    pub legal : IsLegalLog accepts callers log
    pub all : AreAll callers passes
    pub known : All (IsKnownTo log) passes

  -- The passes of its successor, for this limit of changes and this many callers.
  pub record AreSuccessors (passes : List Pass) (limit heirs : ℕ) (opened : List Pass) : Type 0 where
    pub log : Log
    pub over : HandsOver passes log
    -- the successor opens with the transactions, the ledger state and the last ticket, without a change, and all have seen that
    pub opens : opened ≡ fresh_passes heirs (successor accepts limit log)

  -- Why a pool doesn't hand over: the first reason that holds, but an allocation failure only if none of the others holds.
  abbrev pub IsRefusedSuccessor : {N : Type 0} → List Pass → ℕ → ℕ → SuccessorRefusal N → Type 0
  IsRefusedSuccessor passes limit heirs NoMemory =
      (open_fault limit heirs ≡ None) × ((log : Log) × HandsOver passes log)
  IsRefusedSuccessor passes limit heirs (BadPasses place) = AreBadAt callers passes place
  IsRefusedSuccessor passes limit heirs BadCallers =
      AreAll callers passes × (open_fault limit heirs ≡ Some opening.BadCallers)
  IsRefusedSuccessor passes limit heirs BadLimit = AreAll callers passes × (open_fault limit heirs ≡ Some opening.BadLimit)
  IsRefusedSuccessor passes limit heirs (Foreign front) =
      AreAll callers passes × (open_fault limit heirs ≡ None) × IsFirstForeign passes front

abbrev pub number : {N : Type 0} → SuccessorRefusal N → ℕ
number NoMemory = 1
number (BadPasses place) = 2
number BadCallers = 3
number BadLimit = 4
number (Foreign front) = 5
