use Rattle.std.proofs.Common.{◌∙◌, codes}
use Rattle.clap.specs.Words.{found_of}
use Rattle.clap.proofs.WalkLemmas.{one_text-rows}
use Rattle.mp_main.proofs.command_line.asked.explains_of.Goals as goal

pub returns : goal.returns
returns c =
    let same = one_text-rows (found_of c.args.given.now) (codes "explain") in
    record {
      none = λ h. c.get_flag.ensures.none (same ∙ h);
      true_text = λ h. c.get_flag.ensures.value (same ∙ h);
      false_text = λ h. c.get_flag.ensures.other (same ∙ h);
    }
