-- The history and the passes with which a pool opens.
use Rattle.std.specs.Prelude.{◌≡◌, ℕ, ◌^◌, nat_le, ◌&&◌, [], List, map, Option, None, Some, if◌then◌else◌}
use Rattle.mp_tx.specs.Ledger.{LedgerState}
use Rattle.mp_seqpool.specs.SlowPool.{empty_pool}
use Rattle.mp_history.specs.Log.{Log}
use Rattle.mp_history.specs.Caller.{new_callers}
use Rattle.mp_mempool.specs.Pass.{Pass, pass_of}
use Rattle.mp_mempool.specs.declared.config.Config.{Config}
use Rattle.mp_mempool.specs.declared.refusal.OpenRefusal.{OpenRefusal}
use Rattle.mp_mempool.specs.declared.refusal.OpenRefusal.TheVariants.{NoMemory, BadCallers, BadLimit}

-- a pool with no transaction and no entry
abbrev pub fresh_log : Config → LedgerState → Log
fresh_log config ledger = record { opening = empty_pool config.limit config.last ledger; entries = [] }

-- a pass for each caller from 0 on, in order; none has made an entry
abbrev pub fresh_passes : ℕ → Log → List Pass
fresh_passes callers log = map (pass_of log) (new_callers callers)

abbrev pub number : OpenRefusal → ℕ
number NoMemory = 1
number BadCallers = 2
number BadLimit = 4

-- why a pool can't be opened for this limit of changes and this many callers, given enough memory
abbrev pub open_fault : ℕ → ℕ → Option OpenRefusal
open_fault limit callers =
    if nat_le 1 callers && nat_le callers 1024
    then (if nat_le 1 limit && nat_le limit (2 ^ 32) then None else Some BadLimit)
    else Some BadCallers

-- An allocation failure is reported only if nothing else is wrong.
abbrev pub IsOpenFault : ℕ → ℕ → OpenRefusal → Type 0
IsOpenFault limit callers NoMemory = open_fault limit callers ≡ None
IsOpenFault limit callers refusal = open_fault limit callers ≡ Some refusal
