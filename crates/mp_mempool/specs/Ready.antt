-- Steps for which everything is allocated.
use Rattle.std.specs.Prelude.{◌≡◌, ℕ}
use Rattle.std.specs.Arc.{arc_value}
use Rattle.mp_rules.specs.Verifier.{Accepts}
use Rattle.mp_seqpool.specs.Prepared.{Prepared, Prepares}
use Rattle.mp_history.specs.Log.{Log, entered}
use Rattle.mp_versions.specs.Shown.{IsVersionOf}
use Rattle.mp_mempool.specs.declared.write.ready.Owners.{Owners}
use Rattle.mp_mempool.specs.declared.write.ready.Outcome.{Outcome}
use Rattle.mp_mempool.specs.declared.write.ready.Ready.{Ready}
use Rattle.mp_mempool.specs.Locked.{Locked, holding}

-- each of them owns the version after this history
pub record Own (accepts : Accepts) (callers : ℕ) (log : Log) (o : Owners) : Type 0 where
  pub for_pass : IsVersionOf accepts callers log (arc_value o.for_pass)
  pub for_lock : IsVersionOf accepts callers log (arc_value o.for_lock)
  pub for_board : IsVersionOf accepts callers log (arc_value o.for_board)

-- the entry records the caller's step, and the version is that of the history with the entry
pub record Tells (accepts : Accepts) (callers : ℕ) (log : Log) (asker : ℕ) (q : Prepared) (o : Outcome) : Type 0 where
  pub caller : o.entry.caller ≡ asker
  pub asked : o.entry.command ≡ q.command
  pub reply : o.entry.reply ≡ q.reply
  pub versions : Own accepts callers (entered log o.entry) o.owners

-- the step is the slow pool's, and the outcome belongs to it
pub record IsReady (accepts : Accepts) (callers : ℕ) (l : Locked) (asker : ℕ) (r : Ready) : Type 0 where
  pub prepares : Prepares accepts (holding accepts l) r.prepared.command r.prepared
  pub tells : Tells accepts callers l.log asker r.prepared r.outcome
