-- Commands that are assembled.
use Rattle.std.proofs.Common.{◌≡◌, ◌∙◌, ◌||◌, false, ap₂, subst, IfOk, Result}
use Rattle.std.proofs.lemmas.Result.{IfOk-weaker}
use Rattle.clap.specs.Built.{AddsArg}
use Rattle.clap.specs.Words.{App, Rule, app_of, rule_of, with_rule}
use Rattle.clap.specs.declared.builder.arg.Arg.{Arg}
use Rattle.clap.specs.declared.builder.command.Command.{Command}
use Rattle.clap.specs.declared.builder.command.Command.TheViews.{out-Command}

-- the command is read as `app` says, and passes nothing on to its subcommands
abbrev pub IsRead : App → Command → Type 0
IsRead app c = (app_of c ≡ app) × ((out-Command c).has_globals ≡ false)

-- with one more argument, it is read as the rule of that argument says
pub added : {E : Type 0} (old : Command) (a : Arg) (app : App) (rule : Rule) (made : Result Command E) → IsRead app old
    → rule_of a ≡ rule → a.global ≡ false → IfOk made (AddsArg old a) → IfOk made (IsRead (with_rule app rule))
added old a app rule made is by local adds =
    IfOk-weaker made _ _ (λ c h. (h.shape local ∙ ap₂ with_rule is.0 by, h.globals ∙ ap₂ ◌||◌ is.1 local)) adds

pub ruled : {E : Type 0} (made : Result Command E) (app : App) (one other : Rule) → one ≡ other
    → IfOk made (IsRead (with_rule app one)) → IfOk made (IsRead (with_rule app other))
ruled made app one other same = subst (λ rule. IfOk made (IsRead (with_rule app rule))) same
