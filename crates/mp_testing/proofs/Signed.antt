-- If every signature is accepted, all signatures in a pool are.
use Rattle.std.proofs.Common.{◌≡◌, ap, refl, ◌∷◌, []}
use Rattle.std.specs.Prelude.{true, not, List, None, option_map, map, All}
use Rattle.std.specs.List.{find}
use Rattle.std.proofs.lemmas.List.Elements.{All-nil, All-cons}
use Rattle.mp_tx.specs.declared.signature.Signature.{Signature}
use Rattle.mp_tx.specs.Transaction.{Transaction}
use Rattle.mp_rules.specs.declared.invalid.Invalid.TheVariants as rule
use Rattle.mp_testing.specs.Names.{any}
use Rattle.mp_rules.specs.FirstFault.{bad_signature}
use Rattle.mp_rules.specs.Checked.{IsSigned}
use Rattle.mp_seqpool.specs.Pool.{Pool}
use Rattle.mp_seqpool.specs.SlowPool.{AreSigned}

none_bad : (ss : List Signature) → find (λ s. not true) ss ≡ None
none_bad [] = refl
none_bad (s ∷ ss) = none_bad ss

is_signed : (t : Transaction) → IsSigned any t
unfolding bad_signature
is_signed t = ap (option_map (λ s. rule.BadSignature s.key)) (none_bad t.signatures)

are_signed : (ts : List Transaction) → All (IsSigned any) ts
are_signed [] = All-nil (IsSigned any)
are_signed (t ∷ ts) = All-cons (IsSigned any) t ts (is_signed t) (are_signed ts)

pub signed : (p : Pool) → AreSigned any p
signed p = are_signed (map (λ i. i.1) p.items)
