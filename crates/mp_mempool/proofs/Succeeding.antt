-- The history with which a successor opens.
use Rattle.std.proofs.Common.{◌≡◌, ℕ, List, [], ◌∷◌, map, refl, sym, subst}
use Rattle.std.specs.Prelude.{All, None}
use Rattle.std.specs.List.{range_with_len}
use Rattle.std.proofs.lemmas.List.Elements.{All-nil, All-cons}
use Rattle.mp_rules.specs.Verifier.{Accepts}
use Rattle.mp_seqpool.proofs.Histories.{lawful-after, lawful-renewed}
use Rattle.mp_history.specs.Caller.{Caller, new_caller, new_callers}
use Rattle.mp_history.specs.Log.{Log, IsLegalLog, commands, state_after}
use Rattle.mp_history.specs.Successors.{successor}

-- new callers have made no entry
each_new : (numbers : List ℕ) → All (λ c. c.last ≡ None) (map new_caller numbers)
each_new [] = All-nil (λ (c : Caller). c.last ≡ None)
each_new (n ∷ ns) = All-cons (λ (c : Caller). c.last ≡ None) (new_caller n) (map new_caller ns) refl (each_new ns)

pub all_new : (callers : ℕ) (tokens : List Caller) → tokens ≡ new_callers callers → All (λ c. c.last ≡ None) tokens
all_new callers tokens is = subst (λ (l : List Caller). All (λ c. c.last ≡ None) l) (sym is) (each_new (range_with_len 0 callers))

-- the state after a legal history may open another one
pub legal_successor : (accepts other : Accepts) (callers heirs limit : ℕ) (log opened : Log) → other ≡ accepts → opened ≡ successor accepts limit log → IsLegalLog accepts callers log → IsLegalLog other heirs opened
legal_successor accepts other callers heirs limit log opened same is legal =
    subst (λ (l : Log). IsLegalLog other heirs l) (sym is) (
    subst (λ (v : Accepts). IsLegalLog v heirs (successor accepts limit log)) (sym same) (record {
      lawful = lawful-renewed accepts limit (state_after accepts log) (lawful-after accepts log.opening (commands log.entries) legal.lawful);
      unchanged = refl;
      legal = tt;
    })
    )
