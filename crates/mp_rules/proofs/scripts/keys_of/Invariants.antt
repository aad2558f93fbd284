use Rattle.std.proofs.Common.{◌≡◌, ◌++◌, drop, map}
use Rattle.mp_rules.proofs.scripts.keys_of.Given as goal

-- the keys so far and those of the remaining signatures are all
abbrev pub invariant-loop-signature : goal.invariant-loop-signature
invariant-loop-signature l = l.keys.items ++ map (λ s. s.key) (drop l.signature-index l.signatures) ≡ map (λ s. s.key) l.signatures
