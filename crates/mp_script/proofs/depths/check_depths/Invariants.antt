use Rattle.std.proofs.Common.{◌≡◌, ◌+◌, ◌≤◌, [], length}
use Rattle.mp_script.specs.ScriptReading.{reads}
use Rattle.mp_script.specs.Inside.Depths.{put_depth}
use Rattle.mp_script.proofs.depths.check_depths.Given as goal

-- the remaining bytes have the result of all bytes, and the stack has room
abbrev pub invariant-loop-rest : goal.invariant-loop-rest
invariant-loop-rest l = record {
  reading : reads put_depth l.room l.depths l.rest ≡ reads put_depth 1024 [] l.bytes;
  room : length l.depths + l.room ≤ 1024;
}

abbrev pub decreases-loop-rest : goal.decreases-loop-rest
decreases-loop-rest l = length l.rest
