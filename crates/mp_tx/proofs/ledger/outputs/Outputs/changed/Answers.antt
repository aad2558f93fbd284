use Rattle.std.proofs.Common.{rules, tests, ◌≡◌, List, ◌++◌, length, take, drop, fold, sym, ap, ◌∙◌}
use Rattle.std.specs.FinMap.{from_entries}
use Rattle.std.specs.Arc.{arc_value}
use Rattle.mp_tx.specs.Reference.{ref_cmp}
use Rattle.mp_tx.specs.Inside.Changes.{changed, with_earlier}
use Rattle.mp_tx.specs.Inside.Tables.{Layer, Outputs, all_of}
use Rattle.mp_tx.proofs.Layering.{layered, settled_layers, nothing_in, if_ok}
use Rattle.mp_tx.proofs.ledger.outputs.Outputs.changed.Goals as goal

pub returns-then-len-clause-utxo : goal.returns-then-len-clause-utxo
returns-then-len-clause-utxo c =
    let o = c.self.inside in
    let n = c.count_short.result in
    let cs = c.args.changes.entries in
    let new = c.join_all.new.changes.entries in
    let front = c.split_at.ensures.front ∙ ap (λ (ls : List Layer). take n ls) c.as_slice-layers.ensures in
    let back = c.split_at.ensures.back ∙ ap (λ (ls : List Layer). drop n ls) c.as_slice-layers.ensures in
    let joined = c.in_ok-join_all.ensures.noted ∙ ap (λ (ls : List Layer). fold with_earlier cs (all_of ls)) front in
    let zero : length c.split_at.result.1.now ≡ 0 = Prim.search (rules, tests) in
    let above =
    ap (λ m. changed (from_entries {R = ref_cmp} m.entries) new) c.deref-then-len.ensures
    ∙ settled_layers (from_entries (arc_value o.base).entries) cs new o.layers n joined (sym back ∙ nothing_in _ zero)
    ∙ ap (λ (u : Outputs). changed u.utxo cs) c.self.view_is in
    if_ok c.make_table.result (λ m is. is ∙ above) c.make_table.ensures.utxo

pub returns-else-is_empty-clause-utxo : goal.returns-else-is_empty-clause-utxo
returns-else-is_empty-clause-utxo c =
    let o = c.self.inside in
    let n = c.count_short.result in
    let cs = c.args.changes.entries in
    let new = c.join_all.new.changes.entries in
    let front = c.split_at.ensures.front ∙ ap (λ (ls : List Layer). take n ls) c.as_slice-layers.ensures in
    let back = c.split_at.ensures.back ∙ ap (λ (ls : List Layer). drop n ls) c.as_slice-layers.ensures in
    let joined = c.in_ok-join_all.ensures.noted ∙ ap (λ (ls : List Layer). fold with_earlier cs (all_of ls)) front in
    let base = from_entries {R = ref_cmp} (arc_value o.base).entries in
    let above =
    ap (λ (ls : List Layer). changed base (new ++ all_of ls)) back
    ∙ layered base cs new o.layers n joined
    ∙ ap (λ (u : Outputs). changed u.utxo cs) c.self.view_is in
    if_ok c.make_layers.result (λ m is. is ∙ above) c.make_layers.ensures.utxo
