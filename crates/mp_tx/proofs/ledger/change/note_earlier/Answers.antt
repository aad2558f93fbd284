use Rattle.std.proofs.Common.{rules, ◌≡◌, ◌++◌, [], ◌∷◌, false, if◌then◌else◌, sym, ap, ◌∙◌}
use Rattle.std.specs.Option.{is_some}
use Rattle.std.specs.Map.{lookup}
use Rattle.indexmap.specs.IndexMap.{insert_entry}
use Rattle.indexmap.proofs.CallerLemmas.{insert_entry-new}
use Rattle.mp_tx.specs.Reference.{same_ref}
use Rattle.mp_tx.proofs.Repeats.{not_there}
use Rattle.mp_tx.proofs.ledger.change.note_earlier.Goals as goal

pub returns-in_ok-insert-clause-noted : goal.returns-in_ok-insert-clause-noted
returns-in_ok-insert-clause-noted c =
    let cs = c.args.changes.now.entries in
    let r = c.args.reference.now in
    let absent : is_some (lookup (same_ref r) cs) ≡ false = Prim.search rules in
    c.in_ok-insert.ensures.entries
    ∙ ap (λ v. insert_entry same_ref cs r v) c.in_ok-share.ensures
    ∙ insert_entry-new same_ref c.args.changes.now r c.args.change.now (not_there _ absent)
    ∙ sym (ap (λ b. if b then cs else cs ++ (r, c.args.change.now) ∷ []) absent)
