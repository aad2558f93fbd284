use Rattle.std.proofs.Common.{◌≡◌, List, ℕ, false, nat_eq, ap, sym, ◌∙◌}
use Rattle.std.specs.Prelude.{is_some}
use Rattle.std.specs.Cmp.Lexicographic.{pointwise}
use Rattle.indexmap.proofs.CallerLemmas.{insert_entry-new}
use Rattle.mp_tx.proofs.Repeats.{not_there}
use Rattle.mp_names.specs.Inside.PlaceTable.{noted_at}
use Rattle.mp_names.proofs.Placing.{lookup-push}
use Rattle.mp_names.proofs.place_table.note.Goals as goal

pub returns : goal.returns
returns c =
    let there = λ (w : List ℕ). is_some (noted_at c.args.places.now.entries w) in
    let absent : there c.args.key.items ≡ false =
    ap there (sym c.as_slice.ensures.value) ∙ sym c.contains_key.ensures ∙ c.if-contains_key.false in
    let put = c.in-Ok.ensures.entries
    ∙ insert_entry-new (λ a b. pointwise nat_eq a.items b.items) c.args.places.now c.args.key c.args.place (not_there _ absent) in
    λ q. ap (λ es. noted_at es q) put ∙ lookup-push (λ w. pointwise nat_eq q w.items) c.args.places.now.entries c.args.key c.args.place
