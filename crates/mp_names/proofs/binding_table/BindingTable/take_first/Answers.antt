use Rattle.std.proofs.Common.{Some, None, refl, sym, ap, ◌∙◌}
use Rattle.std.specs.Map.{values_of}
use Rattle.mp_names.proofs.Bindings.{numbered-without, first-found, first-left, none-found, none-left}
use Rattle.mp_names.proofs.binding_table.BindingTable.take_first.Goals as goal

pub returns-in_default-clause-found : goal.returns-in_default-clause-found
returns-in_default-clause-found c =
    let s = c.self.inside in
    none-found s.bindings.entries s.next s.numbers.names.entries s.numbers.ids.entries c.self.invariant c.args.word.now c.args.self.now None c.self.view_is c.in_default.ensures refl

pub returns-in_default-clause-left : goal.returns-in_default-clause-left
returns-in_default-clause-left c =
    let s = c.self.inside in
    none-left s.bindings.entries s.next s.numbers.names.entries s.numbers.ids.entries c.self.invariant c.args.word.now c.args.self.now None c.self.view_is c.in_default.ensures refl

pub invariant_of-self : goal.invariant_of-self
invariant_of-self c =
    let s = c.self.inside in
    numbered-without s.bindings.entries s.next s.numbers.names.entries s.numbers.ids.entries c.self.invariant c.in-Some.number c.in-Some-remove.named c.remove.new.self.entries
    c.take_keys.new.numbers.names.entries c.take_keys.new.numbers.ids.entries (sym c.in-Some-remove.ensures.value) c.in-Some-remove.ensures.entries c.take_keys.ensures.names c.take_keys.ensures.ids

pub returns-in-Some-remove-clause-found : goal.returns-in-Some-remove-clause-found
returns-in-Some-remove-clause-found c =
    let s = c.self.inside in
    first-found s.bindings.entries s.next s.numbers.names.entries s.numbers.ids.entries c.self.invariant c.args.word.now c.args.self.now c.in-Some.number c.in-Some-remove.named c.self.view_is
    c.in-Some.ensures (sym c.in-Some-remove.ensures.value)

pub returns-in-Some-remove-clause-left : goal.returns-in-Some-remove-clause-left
returns-in-Some-remove-clause-left c =
    let s = c.self.inside in
    first-left s.bindings.entries s.next s.numbers.names.entries s.numbers.ids.entries c.self.invariant c.args.word.now c.args.self.now c.remove.new.self.entries c.in-Some.number c.self.view_is
    c.in-Some.ensures c.in-Some-remove.ensures.entries

pub returns-in-None-clause-found : goal.returns-in-None-clause-found
returns-in-None-clause-found c =
    let s = c.self.inside in
    none-found s.bindings.entries s.next s.numbers.names.entries s.numbers.ids.entries c.self.invariant c.args.word.now c.args.self.now (Some c.in-Some.number) c.self.view_is
    c.in-Some.ensures (sym c.in-None.ensures.value)

pub returns-in-None-clause-left : goal.returns-in-None-clause-left
returns-in-None-clause-left c =
    let s = c.self.inside in
    ap values_of c.in-None.ensures.unchanged ∙ c.self.view_is
    ∙ none-left s.bindings.entries s.next s.numbers.names.entries s.numbers.ids.entries c.self.invariant c.args.word.now c.args.self.now (Some c.in-Some.number) c.self.view_is
    c.in-Some.ensures (sym c.in-None.ensures.value)
