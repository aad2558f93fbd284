use Rattle.std.proofs.Common.{ap, ◌∙◌, fold}
use Rattle.std.specs.FinMap.{from_entries}
use Rattle.mp_tx.specs.Reference.{ref_cmp}
use Rattle.mp_tx.specs.Inside.Base.{with_kept, with_change}
use Rattle.mp_tx.proofs.Changed.{from_entries-settled}
use Rattle.mp_tx.proofs.ledger.base.settled.Goals as goal

pub returns-clause-settled : goal.returns-clause-settled
returns-clause-settled c =
    let old = c.args.old.now.entries in
    let cs = c.args.changes.entries in
    let all = c.in_ok-put_all.ensures.put ∙ ap (λ es. fold with_change (fold (with_kept cs) es old) cs) c.in_ok-base.ensures.empty in
    ap (from_entries {R = ref_cmp}) all ∙ from_entries-settled old cs c.len.ensures.unique c.len-2.ensures.unique
