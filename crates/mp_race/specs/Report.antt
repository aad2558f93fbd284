-- The report on a race.
use Rattle.std.specs.Prelude.{ℕ, ◌-◌, Bool, true, false, List, length, count_by}
use Rattle.mp_rules.specs.Verifier.{Accepts}
use Rattle.mp_seqpool.specs.declared.command.Reply.{Reply}
use Rattle.mp_seqpool.specs.declared.command.Reply.TheVariants.{Accepted, Removed, Synced}
use Rattle.mp_history.specs.Entry.{Entry}
use Rattle.mp_history.specs.Log.{Log, state_after}
use Rattle.mp_race.specs.declared.report.Report.{Report}
use Rattle.mp_race.specs.Task.{Task, Change, Read}

abbrev pub is_accepted : Reply → Bool
is_accepted (Accepted ticket) = true
is_accepted other = false

abbrev pub is_removed : Reply → Bool
is_removed (Removed named dropped) = true
is_removed other = false

abbrev pub is_synced : Reply → Bool
is_synced (Synced kept dropped) = true
is_synced other = false

abbrev pub is_read : Task → Bool
is_read Read = true
is_read (Change c) = false

-- how many entries have such a reply
abbrev pub count_replies : (Reply → Bool) → List Entry → ℕ
count_replies p es = count_by (λ e. p e.reply) es

-- The report on this history. What isn't a read and has no entry was refused.
abbrev pub report_of : Accepts → ℕ → List Task → Log → Report
report_of accepts workers ts log = record {
  workers = workers;
  accepted = count_replies is_accepted log.entries;
  refused = (length ts - count_by is_read ts) - length log.entries;
  removes = count_replies is_removed log.entries;
  syncs = count_replies is_synced log.entries;
  reads = count_by is_read ts;
  entries = length log.entries;
  last = (state_after accepts log).last;
}
