-- Devices that fail on request.
use Rattle.std.specs.Prelude.{ℕ, List, ◌++◌, replicate, Option, Some, None, ◌==◌, if◌then◌else◌}
use Rattle.mp_testing.specs.declared.reader.FailingReader.{FailingReader}

-- the remaining bytes of a reader, if a read returns at least one byte: its bytes, and then `filler` bytes `x` (120)
abbrev pub left_in : FailingReader → Option (List ℕ)
left_in r = if r.at_once == 0 then None else Some (r.bytes.now ++ replicate r.filler 120)
