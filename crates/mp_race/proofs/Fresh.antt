-- The passes with which a pool opens.
use Rattle.std.proofs.Common.{◌≡◌, ℕ, List, [], ◌∷◌, map, length, refl, ◌∙◌}
use Rattle.std.specs.Prelude.{All}
use Rattle.std.specs.List.{range_with_len}
use Rattle.std.proofs.lemmas.List.{length-map}
use Rattle.std.proofs.lemmas.List.FromFn.{length-range_with_len}
use Rattle.std.proofs.lemmas.List.Elements.{All-nil, All-cons}
use Rattle.mp_history.specs.Log.{Log}
use Rattle.mp_history.specs.Caller.{new_caller}
use Rattle.mp_mempool.specs.Pass.{Pass, pass_of}
use Rattle.mp_mempool.specs.Opening.{fresh_passes}
use Rattle.mp_race.specs.Inside.Work.{IsUnused}

unused_all : (log : Log) (numbers : List ℕ) → All (IsUnused log.opening) (map (pass_of log) (map new_caller numbers))
unused_all log [] = All-nil (IsUnused log.opening)
unused_all log (n ∷ ns) = All-cons (IsUnused log.opening) (pass_of log (new_caller n)) (map (pass_of log) (map new_caller ns)) (record { opens = refl; last = refl }) (unused_all log ns)

-- no pass has been used
pub unused : (callers : ℕ) (log : Log) → All (IsUnused log.opening) (fresh_passes callers log)
unused callers log = unused_all log (range_with_len 0 callers)

fronts_all : (log : Log) (numbers : List ℕ) → All (λ p. p.front ≡ log) (map (pass_of log) (map new_caller numbers))
fronts_all log [] = All-nil (λ (p : Pass). p.front ≡ log)
fronts_all log (n ∷ ns) = All-cons (λ (p : Pass). p.front ≡ log) (pass_of log (new_caller n)) (map (pass_of log) (map new_caller ns)) refl (fronts_all log ns)

-- each has seen only the opening
pub fronts : (callers : ℕ) (log : Log) → All (λ p. p.front ≡ log) (fresh_passes callers log)
fronts callers log = fronts_all log (range_with_len 0 callers)

-- there is one for each caller
pub number : (callers : ℕ) (log : Log) → length (fresh_passes callers log) ≡ callers
number callers log = length-map (map new_caller (range_with_len 0 callers)) (pass_of log) ∙ length-map (range_with_len 0 callers) new_caller ∙ length-range_with_len 0 callers
