use Rattle.std.proofs.Common.{◌≡◌, ℕ, ◌∷◌, [], ◌++◌, Some, ap, subst, ◌∙◌}
use Rattle.std.specs.Map.{values_of}
use Rattle.mp_names.specs.declared.names.NamedBinding.{NamedBinding}
use Rattle.mp_names.specs.Inside.NumberTable.{Takes}
use Rattle.mp_names.specs.Inside.BindingTable.{bound_id}
use Rattle.mp_names.proofs.Numbering.{insert-push, values-push}
use Rattle.mp_names.proofs.NumberTables.{put-taken}
use Rattle.mp_names.proofs.Bindings.{next_is_new, next_is_new_id, numbered-push, numbered-same}
use Rattle.mp_names.proofs.binding_table.BindingTable.push.Goals as goal

pub put_keys-requires : goal.put_keys-requires
put_keys-requires c = next_is_new c.self.inside.bindings.entries c.self.inside.next c.self.inside.numbers.names.entries c.self.inside.numbers.ids.entries c.self.invariant

pub invariant_of-self-in-Ok : goal.invariant_of-self-in-Ok
invariant_of-self-in-Ok c =
    let es = c.self.inside.bindings.entries in
    numbered-push es c.self.inside.next c.self.inside.numbers.names.entries c.self.inside.numbers.ids.entries c.self.invariant c.args.named c.insert.new.self.entries _ _
    (c.in-Ok.ensures.entries ∙ insert-push 0 es c.self.inside.next c.args.named c.self.invariant.between) c.in_ok-put_keys.ensures.names c.in_ok-put_keys.ensures.ids

pub returns-in-Ok-clause-ok : goal.returns-in-Ok-clause-ok
returns-in-Ok-clause-ok c =
    let es = c.self.inside.bindings.entries in
    ap values_of (c.in-Ok.ensures.entries ∙ insert-push 0 es c.self.inside.next c.args.named c.self.invariant.between)
    ∙ values-push es (c.self.inside.next, c.args.named) ∙ ap (λ l. l ++ c.args.named ∷ []) c.self.view_is

pub invariant_of-self-in-Err : goal.invariant_of-self-in-Err
invariant_of-self-in-Err c =
    let es = c.self.inside.bindings.entries in
    let next : ℕ = c.self.inside.next in
    let names = c.self.inside.numbers.names.entries in
    let ids = c.self.inside.numbers.ids.entries in
    let put = c.put_keys.new.numbers in
    let left = c.take_keys.new.numbers in
    let back : c.in-Err.refused.value.1 ≡ c.args.named = ap (λ (p : ℕ × NamedBinding). p.1) c.in-Err.ensures.value_returned in
    numbered-same es next names ids c.self.invariant c.insert.new.self.entries left.names.entries left.ids.entries c.in-Err.ensures.err
    (put-taken names put.names.entries left.names.entries (Some c.args.named.name) next (next_is_new es next names ids c.self.invariant) c.in_ok-put_keys.ensures.names
    (subst (λ n. Takes put.names.entries (Some n.name) next left.names.entries) back c.take_keys.ensures.names))
    (put-taken ids put.ids.entries left.ids.entries (bound_id c.args.named.binding) next (next_is_new_id es next names ids c.self.invariant) c.in_ok-put_keys.ensures.ids
    (subst (λ n. Takes put.ids.entries (bound_id n.binding) next left.ids.entries) back c.take_keys.ensures.ids))
