-- Counting replies.
use Rattle.std.specs.Prelude.{◌+◌, List}
use Rattle.mp_seqpool.specs.declared.command.Reply.{Reply}
use Rattle.mp_seqpool.specs.declared.command.Reply.TheVariants.{Accepted, Removed, Synced}
use Rattle.mp_history.specs.Entry.{Entry}
use Rattle.mp_race.specs.declared.report.Counts.{Counts}
use Rattle.mp_race.specs.Report.{is_accepted, is_removed, is_synced, count_replies}

-- one more reply
abbrev pub with_reply : Counts → Reply → Counts
with_reply c (Accepted ticket) = record c { accepted = c.accepted + 1 }
with_reply c (Removed named dropped) = record c { removes = c.removes + 1 }
with_reply c (Synced kept dropped) = record c { syncs = c.syncs + 1 }

abbrev pub counts_of : List Entry → Counts
counts_of es = record {
  accepted = count_replies is_accepted es;
  removes = count_replies is_removed es;
  syncs = count_replies is_synced es;
}
