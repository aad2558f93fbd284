-- The device of a conversation: lines come in, and their answers go out.
use Rattle.std.specs.Prelude.{◌≡◌, Result, Ok, Err}
use Rattle.mp_serve.specs.declared.device.Turn.{Turn}
use Rattle.mp_serve.specs.declared.device.Turn.TheVariants.{Listens, Owes, Failed}
use Rattle.mp_text.specs.declared.line_input.LineRead.{LineRead}
use Rattle.mp_text.specs.declared.line_input.LineRead.TheVariants.{End}
use Rattle.mp_serve.specs.declared.fault.ConversationFault.{ConversationFault}
use Rattle.mp_serve.specs.declared.fault.ConversationFault.TheVariants as faults

-- after a line is read, its answer is due
abbrev pub turn_after : LineRead → Turn
turn_after End = Listens
turn_after found = Owes

-- A conversation ends at the end of the input, with everything answered and flushed. Otherwise it ends because the device fails,
-- because an allocation failed before the first line, or because no more lines can be counted.
abbrev pub EndsAt : Result (Unit {0}) ConversationFault → Turn → Type 0
EndsAt (Ok u) turn = turn ≡ Listens
EndsAt (Err faults.NoMemory) turn = turn ≡ Listens
EndsAt (Err faults.ManyLines) turn = turn ≡ Listens
EndsAt (Err faults.ReadFault) turn = turn ≡ Failed
EndsAt (Err faults.WriteFault) turn = turn ≡ Failed
