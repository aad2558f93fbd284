-- One more entry.
use Rattle.std.proofs.Common.{◌≡◌, ℕ, suc, ◌+◌, ◌<◌, true, false, cond, List, [], ◌∷◌, ◌++◌, length, get_or, take, refl, sym, ap, subst, ◌∙◌, arith}
use Rattle.std.specs.Prelude.{◌==◌, None, Some, option_map}
use Rattle.std.specs.Option.{option_or}
use Rattle.std.proofs.lemmas.List.{take_more}
use Rattle.mp_rules.specs.Verifier.{Accepts}
use Rattle.mp_seqpool.specs.Pool.{Pool}
use Rattle.mp_seqpool.specs.SlowPool.{AreSigned, next}
use Rattle.mp_seqpool.specs.PoolLaws.{IsLawful}
use Rattle.mp_seqpool.proofs.Histories.{signed, lawful-after}
use Rattle.mp_history.specs.Entry.{Entry}
use Rattle.mp_history.specs.Log.{commands, IsRight, IsLegal, pool_of, last_of}

-- if the log ends with the caller's entry, that is its last one
pub last_of-own : (caller : ℕ) (log : List Entry) (d : Entry) → (caller == d.caller) ≡ true → last_of caller (log ++ d ∷ []) ≡ Some (length log)
last_of-own caller [] d e = ap (λ b. cond b (Some 0) None) e
last_of-own caller (x ∷ log) d e = ap (λ o. option_or (option_map (λ place. place + 1) o) (cond (caller == x.caller) (Some 0) None)) (last_of-own caller log d e) ∙ ap (λ n. Some n) (one_more (length log))
  where
    one_more : (n : ℕ) → n + 1 ≡ suc n
    one_more n = omega arith

pub last_of-other : (caller : ℕ) (log : List Entry) (d : Entry) → (caller == d.caller) ≡ false → last_of caller (log ++ d ∷ []) ≡ last_of caller log
last_of-other caller [] d e = ap (λ b. cond b (Some 0) None) e
last_of-other caller (x ∷ log) d e = ap (λ o. option_or (option_map (λ place. place + 1) o) (cond (caller == x.caller) (Some 0) None)) (last_of-other caller log d e)

module _ (accepts : Accepts) where
  pub pool_of-append : (p : Pool) (log : List Entry) (d : Entry) → pool_of accepts p (log ++ d ∷ []) ≡ next accepts (pool_of accepts p log) d.command
  pool_of-append p [] d = refl
  pool_of-append p (x ∷ log) d = pool_of-append (next accepts p x.command) log d

  pub legal-append : (callers : ℕ) (p : Pool) (log : List Entry) (d : Entry) → IsLegal accepts callers p log → IsRight accepts callers (pool_of accepts p log) d → IsLegal accepts callers p (log ++ d ∷ [])
  legal-append callers p [] d legal right = (right, tt)
  legal-append callers p (x ∷ log) d legal right = (legal.0, legal-append callers (next accepts p x.command) log d legal.1 right)

  -- one more right entry
  pub legal-more : (callers : ℕ) (p q r : Pool) (log : List Entry) (place : ℕ) (d : Entry) → place < length log → get_or log place d ≡ d → IsLegal accepts callers p (take place log) × (q ≡ pool_of accepts p (take place log)) → IsRight accepts callers q d → r ≡ next accepts q d.command
      → IsLegal accepts callers p (take (place + 1) log) × (r ≡ pool_of accepts p (take (place + 1) log))
  legal-more callers p q r log place d within at so_far right is =
      let more : take (place + 1) log ≡ take place log ++ d ∷ [] = take_more log place d within ∙ ap (λ x. take place log ++ x ∷ []) at in (
        subst (IsLegal accepts callers p) (sym more) (legal-append callers p (take place log) d so_far.0 (subst (λ s. IsRight accepts callers s d) so_far.1 right)),
        is ∙ ap (λ s. next accepts s d.command) so_far.1 ∙ sym (pool_of-append p (take place log) d) ∙ ap (pool_of accepts p) (sym more),
      )

  -- all signatures in the pool after a log are accepted
  pub signed-of : (p q : Pool) (log : List Entry) → IsLawful accepts p → q ≡ pool_of accepts p log → AreSigned accepts q
  signed-of p q log law is = subst (AreSigned accepts) (sym is) (signed accepts (pool_of accepts p log) (lawful-after accepts p (commands log) law))
