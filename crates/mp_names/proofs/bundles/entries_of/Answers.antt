use Rattle.std.proofs.Common.{ap, ◌∙◌, sym, rules}
use Rattle.std.specs.Prelude.{option_copied}
use Rattle.mp_names.specs.Bundles.{put_entries}
use Rattle.mp_names.proofs.Parts.{parts_left}
use Rattle.mp_names.proofs.Entries.{put-bad, put-more}
use Rattle.mp_names.proofs.bundles.entries_of.Goals as goal

pub returns-in_err-entry : goal.returns-in_err-entry
returns-in_err-entry c =
    let left = ap (λ r. put_entries c.args.names.now c.loop-rest.entries.items (parts_left 44 (option_copied r))) (sym c.in-Some.is) ∙ c.loop-rest.invariant in
    let none = put-bad c.args.names.now c.loop-rest.entries.items c.in-Some.part.now c.split_once.result.0.now (option_copied c.split_once.result.1) _ left
    c.split_once.ensures.before c.split_once.ensures.after (Prim.search rules) in
    Prim.search rules

pub loop-rest-preserved : goal.loop-rest-preserved
loop-rest-preserved c =
    let left = ap (λ r. put_entries c.args.names.now c.loop-rest.entries.items (parts_left 44 (option_copied r))) (sym c.in-Some.is) ∙ c.loop-rest.invariant in
    put-more c.args.names.now c.loop-rest.entries.items c.insert_rising.new.items.items c.in-Some.part.now c.split_once.result.0.now
    (option_copied c.split_once.result.1) _ c.in_ok-entry.entry left c.split_once.ensures.before c.split_once.ensures.after
    (Prim.search rules) (Prim.search rules)
