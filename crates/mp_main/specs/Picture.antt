-- The picture of a race.
use Rattle.std.specs.Prelude.{List, map, ◌++◌}
use Rattle.mp_seqpool.specs.declared.command.Reply.{Reply}
use Rattle.mp_seqpool.specs.declared.command.Reply.TheVariants as replies
use Rattle.mp_race.specs.declared.picture.mark.Kind.{Kind}
use Rattle.mp_race.specs.declared.picture.mark.Kind.TheVariants.{Accepted, Removed, Synced, Refused}
use Rattle.mp_race.specs.declared.picture.mark.Mark.{Mark}
use Rattle.mp_race.specs.declared.told.Told.{Told}
use Rattle.mp_race.specs.declared.told.Refused as told
use Rattle.mp_race.specs.declared.racing.Raced.{Raced}

abbrev pub kind_of : Reply → Kind
kind_of (replies.Accepted ticket) = Accepted
kind_of (replies.Removed named dropped) = Removed
kind_of (replies.Synced kept dropped) = Synced

abbrev pub entry_mark : Told → Mark
entry_mark t = record { worker = t.worker; place = t.place; kind = kind_of t.reply }

abbrev pub refusal_mark : told.Refused → Mark
refusal_mark r = record { worker = r.worker; place = r.entries; kind = Refused }

-- a mark for each entry and for each refusal
abbrev pub marks_of : Raced → List Mark
marks_of r = map entry_mark r.history.told.items ++ map refusal_mark r.refused.items
