use Rattle.std.specs.Io.KnownBytes.{Consumes}
use Rattle.mp_race.proofs.input.read_history_text.Given as goal

-- the bytes read so far and those left are all the bytes
abbrev pub invariant-loop : goal.invariant-loop
invariant-loop g l = Consumes (g.R.Read.remaining l.fn.reader) (g.R.Read.remaining l.reader) l.text.items
