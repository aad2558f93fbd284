use Rattle.std.proofs.lemmas.Bool.Decides.{Decides-eqb}
use Rattle.std.proofs.lemmas.Slice.Eq.{strip_prefix_is}
use Rattle.mp_replay.proofs.EntryLines.{some_behind, none_behind}
use Rattle.mp_replay.proofs.entries.behind.Goals as goal

pub returns-clause-some : goal.returns-clause-some
returns-clause-some c =
    some_behind c.args.text.now c.args.front.now c.strip_prefix.result
    (strip_prefix_is Decides-eqb c.args.text.now c.args.front.now c.strip_prefix.result c.strip_prefix.ensures.cases)

pub returns-clause-none : goal.returns-clause-none
returns-clause-none c =
    none_behind c.args.text.now c.args.front.now c.strip_prefix.result
    (strip_prefix_is Decides-eqb c.args.text.now c.args.front.now c.strip_prefix.result c.strip_prefix.ensures.cases)
