use Rattle.std.proofs.Common.{◌≡◌, ℕ, zero, suc, ◌+◌, [], ◌∷◌, ◌++◌, map, ap, sym, ◌∙◌, add-one, arith}
use Rattle.std.specs.List.{range_with_len}
use Rattle.mp_history.specs.Caller.{new_caller, new_callers}
use Rattle.mp_history.proofs.word.caller.Caller.all.Goals as goal

-- one number more
callers-more : (a n j : ℕ) → a + n ≡ j → map new_caller (range_with_len a (suc n)) ≡ map new_caller (range_with_len a n) ++ new_caller j ∷ []
callers-more a zero j is = ap (λ k. new_caller k ∷ []) (omega arith)
callers-more a (suc n) j is = ap (λ l. new_caller a ∷ l) (callers-more (a + 1) n j (omega arith))

pub loop-number-preserved : goal.loop-number-preserved
loop-number-preserved g c =
    let number = c.loop-number.number in
    rw (c.in_ok-push.ensures.items, c.loop-number.invariant) (sym (ap new_callers (add-one number) ∙ callers-more 0 number number (omega arith)))
