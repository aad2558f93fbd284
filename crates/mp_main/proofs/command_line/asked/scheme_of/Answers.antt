use Rattle.std.proofs.Common.{◌∙◌, refl, sym, subst, IfSome, codes}
use Rattle.clap.specs.Words.{found_of}
use Rattle.clap.proofs.WalkLemmas.{first_value-rows}
use Rattle.mp_main.specs.declared.command_line.asked.SchemeName.TheVariants.{Trial}
use Rattle.mp_main.specs.CommandLine.{IsChoice, IsSignatures}
use Rattle.mp_main.proofs.command_line.asked.scheme_of.Goals as goal

pub scheme_named-requires : goal.scheme_named-requires
scheme_named-requires c = subst (λ o. IfSome o IsSignatures)
    (sym (c.in-Some.ensures ∙ first_value-rows (found_of c.args.given.now) (codes "signatures"))) c.requires.taken

pub returns-in-Some : goal.returns-in-Some
returns-in-Some c = subst (λ o. IsChoice o c.scheme_named.result)
    (c.in-Some.ensures ∙ first_value-rows (found_of c.args.given.now) (codes "signatures")) c.scheme_named.ensures

pub returns-in-None : goal.returns-in-None
returns-in-None c = subst (λ o. IsChoice o Trial)
    (c.in-None.ensures ∙ first_value-rows (found_of c.args.given.now) (codes "signatures")) refl
