-- What is true of the passes with which a pool opens.
use Rattle.std.proofs.Common.{◌≡◌, ℕ, ◌<◌, ◌≤◌, List, [], ◌∷◌, map, length, refl, sym, ap, ◌∙◌, arith}
use Rattle.std.specs.Prelude.{All}
use Rattle.std.specs.List.{range_with_len}
use Rattle.std.proofs.lemmas.List.{length-map}
use Rattle.std.proofs.lemmas.List.FromFn.{length-range_with_len}
use Rattle.std.proofs.lemmas.List.Elements.{All-nil, All-cons, All-weaker}
use Rattle.mp_history.specs.Log.{Log}
use Rattle.mp_history.specs.Caller.{new_caller}
use Rattle.mp_mempool.specs.Pass.{Pass, pass_of}
use Rattle.mp_mempool.specs.Opening.{fresh_passes}

fronts_all : (log : Log) (numbers : List ℕ) → All (λ p. p.front ≡ log) (map (pass_of log) (map new_caller numbers))
fronts_all log [] = All-nil (λ (p : Pass). p.front ≡ log)
fronts_all log (n ∷ ns) = All-cons (λ (p : Pass). p.front ≡ log) (pass_of log (new_caller n)) (map (pass_of log) (map new_caller ns)) refl (fronts_all log ns)

-- each has seen only the opening
pub fronts : (callers : ℕ) (log : Log) → All (λ p. p.front ≡ log) (fresh_passes callers log)
fronts callers log = fronts_all log (range_with_len 0 callers)

-- each has its limit of changes
pub limits : (callers : ℕ) (log : Log) → All (λ p. log.opening.limit ≡ p.front.opening.limit) (fresh_passes callers log)
limits callers log =
    All-weaker (λ (p : Pass). p.front ≡ log) (λ (p : Pass). log.opening.limit ≡ p.front.opening.limit) (λ p e. ap (λ (l : Log). l.opening.limit) (sym e)) (fresh_passes callers log) (fronts callers log)

-- there is one for each caller
pub number : (callers : ℕ) (log : Log) → length (fresh_passes callers log) ≡ callers
number callers log = length-map (map new_caller (range_with_len 0 callers)) (pass_of log) ∙ length-map (range_with_len 0 callers) new_caller ∙ length-range_with_len 0 callers

-- and at least one
pub some : (callers : ℕ) (log : Log) → 1 ≤ callers → 0 < length (fresh_passes callers log)
some callers log least = let n = number callers log in omega (arith, n, least)
