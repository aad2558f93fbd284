-- Outputs that are distinct have no reference twice.
use Rattle.std.proofs.Common.{ℕ, ◌<◌, ◌≤◌, List, length, get_or, sym, subst, ◌∙◌, arith, length-take-le}
use Rattle.std.proofs.lemmas.List.{get_or_default, get_or-take}
use Rattle.mp_tx.specs.declared.reference.OutRef.{OutRef}
use Rattle.mp_tx.specs.Ledger.{AreDistinct, IsFirstRepeat}
use Rattle.mp_names.specs.References.{opening_ref}

weaken : (a b : ℕ) → a < b → a ≤ b
weaken a b lt = omega arith

pub no_repeat : (rs : List OutRef) (place : ℕ) → AreDistinct rs → IsFirstRepeat rs place → ⊥
no_repeat rs place apart h =
    let d : OutRef = opening_ref 0 in
    let r : OutRef = get_or rs place d in
    let again = h.again d in
    let j_lt : again.0 < place = subst (λ m. again.0 < m) (length-take-le place rs (weaken place (length rs) h.within)) again.1 in
    apart again.0 place r j_lt h.within (sym (get_or-take place rs again.0 r j_lt) ∙ again.2 ∙ sym (get_or_default rs place r d h.within))
