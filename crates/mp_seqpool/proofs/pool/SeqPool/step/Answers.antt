use Rattle.std.proofs.Common.{sym, ◌∙◌}
use Rattle.mp_seqpool.specs.Inside.Command.{command_of}
use Rattle.mp_seqpool.proofs.Histories.{told, next-refused}
use Rattle.mp_seqpool.proofs.pool.SeqPool.step.Goals as goal

pub returns-in_default : goal.returns-in_default
returns-in_default g c =
    let accepts = g.V.Verifier.accepts c.args.verifier.now in
    let is = told accepts c.args.self.now.pool (command_of c.args.command.now) c.in-Err.refusal c.in-Err.ensures.refused c.in_default.not-NoMemory in
    record {
      answer = sym is;
      next = c.in-Err.ensures.err ∙ sym (next-refused accepts c.args.self.now.pool (command_of c.args.command.now) c.in-Err.refusal is);
      err = tt;
    }
