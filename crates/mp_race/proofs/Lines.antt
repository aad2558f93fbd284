-- How one line changes what has been read.
use Rattle.std.proofs.Common.{◌≡◌, ℕ, ◌+◌, List, ◌∷◌, ap}
use Rattle.std.specs.Prelude.{None, Some, Err}
use Rattle.mp_session.specs.declared.session.Session.{Session}
use Rattle.mp_race.specs.Scenario.{Scenario, line_step, follow, reading}

pub good : (d e : Session Scenario) (n : ℕ) (line : List ℕ) (lines : List (List ℕ)) → line_step d line ≡ Some e → reading d n (line ∷ lines) ≡ reading e (n + 1) lines
good d e n line lines is = ap (follow n (λ x. reading x (n + 1) lines)) is

pub bad : (d : Session Scenario) (n : ℕ) (line : List ℕ) (lines : List (List ℕ)) → line_step d line ≡ None → reading d n (line ∷ lines) ≡ Err n
bad d n line lines is = ap (follow n (λ x. reading x (n + 1) lines)) is
