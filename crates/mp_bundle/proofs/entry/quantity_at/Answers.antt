use Rattle.std.proofs.Common.{rules, arith}
use Rattle.std.proofs.lemmas.Int.{ints}
use Rattle.std.proofs.lemmas.List.Sorted.{answers_always}
use Rattle.mp_bundle.specs.Bundle.{TokenEntry}
use Rattle.mp_bundle.proofs.Search.{found_by_search, missed_by_search}
use Rattle.mp_bundle.proofs.entry.quantity_at.Goals as goal

pub returns-in-Ok : goal.returns-in-Ok
returns-in-Ok c =
    let searched = c.in-Ok.ensures.position (λ (e : TokenEntry). e.0) (answers_always _ _ _ (λ f a r g called. search rules)) in
    let found = found_by_search c.args.entries.now c.args.token.now c.in-Ok.place c.index-entries-place.result c.requires c.in-Ok.ensures.bound (searched c.index-entries-place.result) in
    grind (arith, ints)

pub returns-in-Err : goal.returns-in-Err
returns-in-Err c =
    let searched = c.in-Err.ensures.position (λ (e : TokenEntry). e.0) (answers_always _ _ _ (λ f a r g called. search rules)) in
    missed_by_search c.args.entries.now c.args.token.now c.in-Err.field-0 c.requires searched
