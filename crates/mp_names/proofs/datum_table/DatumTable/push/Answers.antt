use Rattle.std.proofs.Common.{◌≡◌, ◌++◌, ◌∷◌, [], Some, nat_eq, ap, sym, ◌∙◌, length, rules}
use Rattle.std.specs.Vec.{vec_len}
use Rattle.std.specs.Cmp.Lexicographic.{pointwise}
use Rattle.mp_names.specs.Inside.DatumTable.{names_datum}
use Rattle.mp_names.proofs.Placing.{placed-noted}
use Rattle.mp_names.proofs.datum_table.DatumTable.push.Goals as goal

pub invariant_of-self-2 : goal.invariant_of-self-2
invariant_of-self-2 c =
    let named = c.args.named in
    let same = c.reserve.ensures.items in
    let len : vec_len c.reserve.new.self ≡ length c.reserve.new.self.items = Prim.search rules in
    let place = c.len-place.ensures ∙ len ∙ ap length same in
    let put = c.push_reserved.ensures.items ∙ ap (λ ns. ns ++ named ∷ []) same in
    placed-noted names_datum _ _ _ _ _ named (Some c.in_ok-word.word.items) _ (λ q. ap (pointwise nat_eq q) (sym c.in_ok-word.ensures)) place put c.reserve-2.ensures.entries c.note.ensures c.self.invariant
