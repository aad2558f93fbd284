-- The exit status of the program.
use Rattle.std.specs.Prelude.{◌≡◌, ◌&&◌, ℕ, Bool, List, Result, Ok, Err, if◌then◌else◌, is_ok}
use Rattle.std.specs.List.{list_all}
use Rattle.mp_clients.specs.declared.service.Finished.{Finished}

-- 0, or 1 after a fault
abbrev pub status_of : {T E : Type 0} → Result T E → ℕ
status_of (Ok t) = 0
status_of (Err e) = 1

-- the result satisfies this, and the status is that of the result
abbrev pub EndsAs : {T E : Type 0} → (Result T E → Type 0) → ℕ → Type 0
EndsAs {T} {E} Holds status = (r : Result T E) × Holds r × (status ≡ status_of r)

-- 0, or 1 if a conversation ended with a fault or doesn't know all its entries
abbrev pub status_of_all : {N D : Type 0} → Bool → List (Finished N D) → ℕ
status_of_all is_known finished = if is_known && list_all (λ f. is_ok f.ended) finished then 0 else 1
