use Rattle.std.proofs.Common.{◌++◌, sym, ap, ◌∙◌, subst}
use Rattle.mp_race.specs.Inside.HistoryReading.{IsApart}
use Rattle.std.specs.Prelude.{IfSome}
use Rattle.mp_text.specs.Words.{words_of}
use Rattle.mp_race.specs.HistoryText.{told_text, IsTellable}
use Rattle.mp_race.proofs.HistoryLines.{no_entry-untold, no_entry-other}
use Rattle.mp_race.proofs.Tellable.{told_in-tellable}
use Rattle.mp_race.proofs.history.first_told.Goals as goal

pub returns-in_default-2-clause-none : goal.returns-in_default-2-clause-none
returns-in_default-2-clause-none c =
    no_entry-untold c.args.text.now c.in-Some.line.now _ c.in-Some.ensures.first (sym c.in_ok-told.ensures ∙ c.in_default-2.is)

pub returns-clause-none : goal.returns-clause-none
returns-clause-none c =
    let written = c.deref.ensures.value ∙ c.in_ok-put_told.ensures ∙ ap (λ text. text ++ told_text c.in-Some-2.told) c.new-written.ensures.items in
    no_entry-other c.args.text.now c.in-Some.line.now _ c.in-Some-2.told c.in-Some.ensures.first (sym c.in_ok-told.ensures ∙ c.in-Some-2.is)
    (subst (IsApart c.args.text.now) written c.in-None.ensures.none)

pub returns-in-Some-behind-clause-tellable : goal.returns-in-Some-behind-clause-tellable
returns-in-Some-behind-clause-tellable c =
    subst (λ o. IfSome o IsTellable) (sym c.in_ok-told.ensures ∙ c.in-Some-2.is) (told_in-tellable (words_of c.in-Some.line.now))
