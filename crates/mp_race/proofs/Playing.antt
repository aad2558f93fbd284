-- What a worker made, and what it was answered.
use Rattle.std.proofs.Common.{◌≡◌, ℕ, suc, ◌+◌, ◌<◌, true, false, cond, List, [], ◌∷◌, ◌++◌, length, take, refl, sym, ap, subst, ◌∙◌, arith, append-nil}
use Rattle.std.specs.Prelude.{◌==◌, ◌%◌, Option, None, Some, option_map, IfSome}
use Rattle.std.specs.Option.{option_or}
use mathlib.Core.Logic.{inl, inr}
use Rattle.std.proofs.lemmas.List.{take-append-le}
use Rattle.mp_rules.specs.Verifier.{Accepts}
use Rattle.mp_seqpool.specs.Command.{Command}
use Rattle.mp_history.specs.Entry.{Entry}
use Rattle.mp_history.specs.Log.{Log, Begins, last_of}
use Rattle.mp_history.proofs.Law.{eqb-refl}
use Rattle.mp_history.proofs.Prefixes.{prefix_trans}
use Rattle.mp_race.specs.Task.{Task, Change, Read}
use Rattle.mp_race.specs.Race.{own, dealt_from, IsRefused, Plays}
use Rattle.mp_race.specs.Inside.Work.{upto}

-- The entries of one worker.

pub own-append : (w : ℕ) (xs ys : List Entry) → own w (xs ++ ys) ≡ own w xs ++ own w ys
own-append w [] ys = refl
own-append w (x ∷ xs) ys = elim (w == x.caller) as (λ b. cond b (x ∷ own w (xs ++ ys)) (own w (xs ++ ys)) ≡ cond b (x ∷ own w xs) (own w xs) ++ own w ys) [
  | true ↦ ap (λ l. x ∷ l) (own-append w xs ys)
  | false ↦ own-append w xs ys
]

-- an entry of the worker is one of its own
pub own-one : (w : ℕ) (e : Entry) → e.caller ≡ w → own w (e ∷ []) ≡ e ∷ []
own-one w e is =
    let t : (w == e.caller) ≡ true = subst (λ n. (w == n) ≡ true) (sym is) (eqb-refl w) in
    ap (λ b. cond b (e ∷ []) []) t

-- none of the worker's entries follows the last one
pub own-last : (w : ℕ) (es : List Entry) (o : Option ℕ) → last_of w es ≡ o → own w es ≡ own w (upto o es)
own-last w es o is = subst (λ l. own w es ≡ own w (upto l es)) is (here es)
  where
    more : (x : Entry) (xs : List Entry) (l : Option ℕ) → own w xs ≡ own w (upto l xs)
        → own w (x ∷ xs) ≡ own w (upto (option_or (option_map (λ place. place + 1) l) (cond (w == x.caller) (Some 0) None)) (x ∷ xs))
    more x xs (Some k) rest = first (k + 1) (succ k)
      where
        succ : (n : ℕ) → n + 1 ≡ suc n
        succ n = omega arith

        first : (n : ℕ) → n ≡ suc k → own w (x ∷ xs) ≡ own w (take (n + 1) (x ∷ xs))
        first n e =
            let at : n + 1 ≡ suc (k + 1) = omega (arith, e) in
            subst (λ m. own w (x ∷ xs) ≡ own w (take m (x ∷ xs))) (sym at)
            (elim (w == x.caller) as (λ b. cond b (x ∷ own w xs) (own w xs) ≡ cond b (x ∷ own w (take (k + 1) xs)) (own w (take (k + 1) xs))) [
              | true ↦ ap (λ l. x ∷ l) rest
              | false ↦ rest
            ])
    more x xs None rest = elim (w == x.caller) as (λ b. (w == x.caller) ≡ b → own w (x ∷ xs) ≡ own w (upto (cond b (Some 0) None) (x ∷ xs))) [
      | true ↦ λ t. ap (λ b. cond b (x ∷ own w xs) (own w xs)) t ∙ ap (λ l. x ∷ l) rest ∙ sym (ap (λ b. cond b (x ∷ []) []) t)
      | false ↦ λ f. ap (λ b. cond b (x ∷ own w xs) (own w xs)) f ∙ rest
    ] refl

    here : (xs : List Entry) → own w xs ≡ own w (upto (last_of w xs) xs)
    here [] = refl
    here (x ∷ xs) = more x xs (last_of w xs) (here xs)

-- the entries up to a place stay when more follow
pub upto-append : (o : Option ℕ) (xs ys : List Entry) → IfSome o (λ k. k < length xs) → upto o (xs ++ ys) ≡ upto o xs
upto-append None xs ys within = refl
upto-append (Some k) xs ys within = take-append-le (k + 1) xs ys (omega (arith, within))

-- Prefixes.

pub begins-refl : (log : Log) → Begins log log
begins-refl log = record { opening = refl; entries = ([], append-nil log.entries) }

pub begins-trans : (a b c : Log) → Begins a b → Begins b c → Begins a c
begins-trans a b c p q = record { opening = p.opening ∙ q.opening; entries = prefix_trans a.entries b.entries c.entries p.entries q.entries }

pub begins-more : (log : Log) (es : List Entry) → Begins log (record log { entries = log.entries ++ es })
begins-more log es = record { opening = refl; entries = (es, refl) }

-- The tasks of one worker.

pub dealt-append : (j workers w : ℕ) (ts us : List Task) → dealt_from j workers w (ts ++ us) ≡ dealt_from j workers w ts ++ dealt_from (j + length ts) workers w us
dealt-append j workers w [] us = ap (λ n. dealt_from n workers w us) (right j)
  where
    right : (n : ℕ) → n ≡ n + 0
    right n = omega arith
dealt-append j workers w (t ∷ ts) us =
    let e : (j + 1) + length ts ≡ j + length (t ∷ ts) = omega arith in
    let rest : dealt_from (j + 1) workers w (ts ++ us) ≡ dealt_from (j + 1) workers w ts ++ dealt_from (j + length (t ∷ ts)) workers w us =
    dealt-append (j + 1) workers w ts us ∙ ap (λ n. dealt_from (j + 1) workers w ts ++ dealt_from n workers w us) e in
    elim (j % workers == w) as (λ b. cond b (t ∷ dealt_from (j + 1) workers w (ts ++ us)) (dealt_from (j + 1) workers w (ts ++ us))
    ≡ cond b (t ∷ dealt_from (j + 1) workers w ts) (dealt_from (j + 1) workers w ts) ++ dealt_from (j + length (t ∷ ts)) workers w us) [
      | true ↦ ap (λ l. t ∷ l) rest
      | false ↦ rest
    ]

module _ (accepts : Accepts) where
  -- what explains a worker's answers in a history explains them in a continuation of it
  refused_on : (a b : Log) (w : ℕ) (made : List Entry) (c : Command) → Begins a b → IsRefused accepts a w made c → IsRefused accepts b w made c
  refused_on a b w made c begins is = record {
    front = is.front;
    begins = begins-trans is.front a b is.begins begins;
    none_else = is.none_else;
    refusal = is.refusal;
    refused = is.refused;
  }

  pub plays_on : (a b : Log) (w : ℕ) (made : List Entry) (ts : List Task) (end : List Entry) → Begins a b → Plays accepts a w made ts end → Plays accepts b w made ts end
  plays_on a b w made [] end begins is = is
  plays_on a b w made (Read ∷ ts) end begins is = plays_on a b w made ts end begins is
  plays_on a b w made (Change c ∷ ts) end begins (inl is) = inl (is.0, is.1, plays_on a b w (made ++ is.0 ∷ []) ts end begins is.2)
  plays_on a b w made (Change c ∷ ts) end begins (inr is) = inr (refused_on a b w made c begins is.0, plays_on a b w made ts end begins is.1)

  -- one list of tasks after the other
  pub plays_then : (log : Log) (w : ℕ) (made : List Entry) (ts us : List Task) (middle end : List Entry) → Plays accepts log w made ts middle → Plays accepts log w middle us end → Plays accepts log w made (ts ++ us) end
  plays_then log w made [] us middle end first then = subst (λ l. Plays accepts log w l us end) (sym first) then
  plays_then log w made (Read ∷ ts) us middle end first then = plays_then log w made ts us middle end first then
  plays_then log w made (Change c ∷ ts) us middle end (inl is) then = inl (is.0, is.1, plays_then log w (made ++ is.0 ∷ []) ts us middle end is.2 then)
  plays_then log w made (Change c ∷ ts) us middle end (inr is) then = inr (is.0, plays_then log w made ts us middle end is.1 then)
