use Rattle.std.proofs.Common.{◌≡◌, ◌++◌, map, drop}
use Rattle.mp_serve.specs.Refused.{texts}
use Rattle.mp_serve.proofs.refused.put_each.Given as goal

-- the text so far and that of the words that are left are the whole text
abbrev pub invariant-loop-place : goal.invariant-loop-place
invariant-loop-place l = l.text.items ++ texts (drop l.place (map (λ w. w.now) l.words)) (drop l.place l.counts) ≡ l.fn.text.items ++ texts (map (λ w. w.now) l.words) l.counts
