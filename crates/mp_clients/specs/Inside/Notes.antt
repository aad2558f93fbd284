-- Which lines and asks make no change of the pool.
use Rattle.std.specs.Prelude.{Bool, true, false}
use Rattle.mp_lines.specs.Lines.{Line, Sets, Out, Submit, Remove, Sync}
use Rattle.mp_serve.specs.Ask.{Ask, Does, Submits, SubmitsBytes, Holds, Extends, Syncs, Returns}

abbrev pub is_note : Line → Bool
is_note (Sets setting) = false
is_note (Out name payment) = false
is_note (Submit t) = false
is_note (Remove ids) = false
is_note (Sync ledger) = false
is_note line = true

abbrev pub is_change : Line → Bool
is_change (Submit t) = true
is_change (Remove ids) = true
is_change (Sync ledger) = true
is_change line = false

abbrev pub is_alone : Ask → Bool
is_alone (Does line) = false
is_alone (Submits name t) = false
is_alone (SubmitsBytes bytes) = false
is_alone (Holds reference output) = false
is_alone (Extends block) = false
is_alone (Syncs tick block_bytes) = false
is_alone (Returns count) = false
is_alone ask = true
