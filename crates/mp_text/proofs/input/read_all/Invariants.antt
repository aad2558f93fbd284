use Rattle.std.proofs.Common.{◌≤◌, ◌^◌, vec_len}
use Rattle.std.specs.Io.KnownBytes.{Consumes}
use Rattle.mp_text.proofs.input.read_all.Given as goal

-- the bytes read so far and those left are all the bytes
abbrev pub invariant-loop : goal.invariant-loop
invariant-loop g l = record {
  small : vec_len l.text ≤ 2 ^ 24;
  consumed : Consumes (g.R.Read.remaining l.fn.reader) (g.R.Read.remaining l.reader) l.text.items;
}
