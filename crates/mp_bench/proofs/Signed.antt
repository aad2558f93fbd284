-- A verifier that accepts each signature accepts all in a pool.
use Rattle.std.proofs.Common.{◌≡◌, true, not, List, [], ◌∷◌, refl, ap}
use Rattle.std.specs.Prelude.{None, option_map, All}
use Rattle.std.specs.List.{find}
use Rattle.std.proofs.lemmas.List.Elements.{All-nil, All-cons}
use Rattle.mp_tx.specs.declared.signature.Signature.{Signature}
use Rattle.mp_tx.specs.Transaction.{Transaction}
use Rattle.mp_rules.specs.Verifier.{Accepts}
use Rattle.mp_rules.specs.declared.invalid.Invalid.TheVariants as rule
use Rattle.mp_rules.specs.Checked.{IsSigned}
use Rattle.mp_rules.specs.FirstFault.{bad_signature}

abbrev pub accepts_all : Accepts
accepts_all _ _ _ = true

none_bad : (signatures : List Signature) → find (λ s. not true) signatures ≡ None
none_bad [] = refl
none_bad (s ∷ ss) = none_bad ss

one_signed : (t : Transaction) → IsSigned accepts_all t
unfolding bad_signature
one_signed t = ap (option_map (λ (s : Signature). rule.BadSignature s.key)) (none_bad t.signatures)

pub each_signed : (ts : List Transaction) → All (IsSigned accepts_all) ts
each_signed [] = All-nil (IsSigned accepts_all)
each_signed (t ∷ ts) = All-cons (IsSigned accepts_all) t ts (one_signed t) (each_signed ts)
