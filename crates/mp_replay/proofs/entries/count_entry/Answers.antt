use Rattle.mp_replay.proofs.EntryLines.{not_line, mis_answer}
use Rattle.mp_replay.proofs.entries.count_entry.Goals as goal

pub returns-else-is_line_of-2-clause-err : goal.returns-else-is_line_of-2-clause-err
returns-else-is_line_of-2-clause-err c =
    mis_answer c.args.number c.args.entries c.args.text.now c.args.line.now c.in_ok-answer.answer.now
    (not_line c.args.text.now c.args.line.now c.is_line_of.result c.if-is_line_of.false c.is_line_of.ensures.no) c.in_ok-answer.ensures.ok
    (not_line c.args.text.now c.in_ok-answer.answer.now c.is_line_of-2.result c.if-is_line_of-2.false c.is_line_of-2.ensures.no)
