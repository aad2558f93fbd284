use Rattle.std.proofs.Common.{◌≡◌, List, ℕ, true, subst, sym, ap, ◌∙◌}
use Rattle.std.specs.Prelude.{option_map}
use Rattle.mp_tx.specs.Spelling.{id_of}
use Rattle.mp_names.specs.Names.{Names, tx_named}
use Rattle.mp_names.specs.Inside.Reported.{AreDeclared}
use Rattle.mp_names.proofs.Reporting.{declared-insert, declared-named, is_declared}
use Rattle.mp_names.proofs.names.Names.report.Goals as goal

pub invariant_of-self-2 : goal.invariant_of-self-2
invariant_of-self-2 c =
    let bindings = c.self.inside.bindings in
    let reported = c.self.inside.reported in
    let word : List ℕ = c.args.word.now in
    let id : List ℕ = c.in-Some.id in
    let name : List ℕ = c.in_ok-name.name in
    let stands : is_declared bindings id word ≡ true =
    declared-named bindings word id (c.in-Some.ensures ∙ ap (λ (n : Names). option_map (λ t. id_of t.tx) (tx_named word n)) (sym c.self.view_is)) in
    subst (AreDeclared bindings) (sym c.in_ok-set.ensures.ok)
    (declared-insert bindings reported id name (ap (is_declared bindings id) c.in_ok-name.ensures ∙ stands) c.self.invariant)
