use Rattle.std.proofs.Common.{arith}
use Rattle.std.proofs.lemmas.Grind.{common_steps}
use Rattle.mp_text.proofs.Written.{written_more}
use Rattle.mp_text.proofs.output.write_all.Goals as goal

pub loop-written-preserved : goal.loop-written-preserved
loop-written-preserved g c = record {
  within = grind (arith, common_steps, c.in-Some.ensures.within);
  appended = written_more _ _ _ c.args.bytes.now c.loop-written.written c.in-Some.taken c.loop-written.invariant.appended c.in-Some.ensures.some;
}
