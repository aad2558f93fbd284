-- A race of one worker has the history of a pool of one thread.
use Rattle.std.proofs.Common.{◌≡◌, ℕ, ◌+◌, true, cond, List, [], ◌∷◌, ◌++◌, refl, sym, ap, subst, ◌∙◌, arith, append-nil, append_assoc}
use Rattle.std.specs.Prelude.{◌==◌, ◌%◌, Ok, Err}
use mathlib.Core.Logic.{inl, inr}
use Rattle.std.proofs.lemmas.List.{append_cancel_left}
use Rattle.mp_rules.specs.Verifier.{Accepts}
use Rattle.mp_seqpool.specs.declared.command.Reply.{Reply}
use Rattle.mp_seqpool.specs.Command.{Command}
use Rattle.mp_seqpool.specs.Pool.{Pool}
use Rattle.mp_seqpool.specs.SlowPool.{answer, next}
use Rattle.mp_seqpool.proofs.Histories.{next-refused}
use Rattle.mp_history.specs.Entry.{Entry}
use Rattle.mp_history.specs.Log.{Log, IsRight, IsLegal, pool_of}
use Rattle.mp_history.proofs.Law.{eqb-refl}
use Rattle.mp_history.proofs.Logs.{pool_of-append}
use Rattle.mp_race.specs.Task.{Task, Change, Read}
use Rattle.mp_race.specs.Race.{own, dealt_from, IsRefused, Plays, IsRace}
use Rattle.mp_race.specs.Sequential.{entry_of, entries_from}

-- every task is dealt to the only worker
dealt_all : (j : ℕ) (ts : List Task) → dealt_from j 1 0 ts ≡ ts
dealt_all j [] = refl
dealt_all j (t ∷ ts) =
    let rest : dealt_from (j + 1) 1 0 ts ≡ ts = dealt_all (j + 1) ts in
    let none : j % 1 ≡ 0 = omega arith in
    let is : (j % 1 == 0) ≡ true = subst (λ n. (n == 0) ≡ true) (sym none) refl in
    ap (λ b. cond b (t ∷ dealt_from (j + 1) 1 0 ts) (dealt_from (j + 1) 1 0 ts)) is ∙ ap (λ l. t ∷ l) rest

module _ (accepts : Accepts) where
  -- all entries are its own
  own_all : (p : Pool) (es : List Entry) → IsLegal accepts 1 p es → own 0 es ≡ es
  own_all p [] legal = refl
  own_all p (e ∷ es) (right, legal) =
      let first : e.caller ≡ 0 = omega (arith, right.known) in
      let is : (0 == e.caller) ≡ true = subst (λ n. (0 == n) ≡ true) (sym first) (eqb-refl 0) in
      ap (λ b. cond b (e ∷ own 0 es) (own 0 es)) is ∙ ap (λ l. e ∷ l) (own_all (next accepts p e.command) es legal)

  legal_front : (p : Pool) (xs ys : List Entry) → IsLegal accepts 1 p (xs ++ ys) → IsLegal accepts 1 p xs
  legal_front p [] ys legal = tt
  legal_front p (x ∷ xs) ys (right, legal) = (right, legal_front (next accepts p x.command) xs ys legal)

  -- the entry after some first ones
  right_at : (p : Pool) (xs : List Entry) (e : Entry) (ys : List Entry) → IsLegal accepts 1 p (xs ++ e ∷ ys) → IsRight accepts 1 (pool_of accepts p xs) e
  right_at p [] e ys (right, legal) = right
  right_at p (x ∷ xs) e ys (right, legal) = right_at (next accepts p x.command) xs e ys legal

  -- what was made before is a prefix of what is made in the end
  goes_on : (log : Log) (made : List Entry) (ts : List Task) (end : List Entry) → Plays accepts log 0 made ts end → (more : List Entry) × (end ≡ made ++ more)
  goes_on log made [] end is = ([], sym is ∙ sym (append-nil made))
  goes_on log made (Read ∷ ts) end is = goes_on log made ts end is
  goes_on log made (Change c ∷ ts) end (inl is) =
      let rest = goes_on log (made ++ is.0 ∷ []) ts end is.2 in
      (is.0 ∷ rest.0, rest.1 ∙ append_assoc made (is.0 ∷ []) rest.0)
  goes_on log made (Change c ∷ ts) end (inr is) = goes_on log made ts end is.1

  abbrev pub entry : ℕ → Command → Reply → Entry
  entry caller c reply = record { caller = caller; command = c; reply = reply }

  entry_is : (c : Command) (e : Entry) (p : Pool) → e.caller ≡ 0 → e.command ≡ c → answer accepts p e.command ≡ Ok e.reply → entry_of c (answer accepts p c) ≡ e ∷ []
  entry_is c e p by asked is =
      ap (entry_of c) (ap (answer accepts p) (sym asked) ∙ is)
      ∙ ap (λ (n : ℕ). entry n c e.reply ∷ []) (sym by)
      ∙ ap (λ (d : Command). entry e.caller d e.reply ∷ []) (sym asked)

  module _ (log : Log) (legal : IsLegal accepts 1 log.opening log.entries) where
    abbrev pub at : List Entry → Pool
    at made = pool_of accepts log.opening made

    -- a refused change finds exactly what was made before
    refused_there : (made : List Entry) (c : Command) (is : IsRefused accepts log 0 made c) → answer accepts (at made) c ≡ Err is.refusal
    refused_there made c is =
        let front : List Entry = is.front.entries in
        let within : IsLegal accepts 1 log.opening front =
        legal_front log.opening front is.begins.entries.0 (subst (IsLegal accepts 1 log.opening) (sym is.begins.entries.1) legal) in
        let same : front ≡ made = sym (own_all log.opening front within) ∙ is.none_else in
        ap (λ es. answer accepts (pool_of accepts log.opening es) c) (sym same)
        ∙ ap (λ p. answer accepts (pool_of accepts p front) c) (sym is.begins.opening)
        ∙ is.refused

    plays : (made rest : List Entry) (ts : List Task) → log.entries ≡ made ++ rest → Plays accepts log 0 made ts log.entries → rest ≡ entries_from accepts (at made) ts
    plays made rest [] whole is = append_cancel_left made rest [] (sym whole ∙ sym is ∙ sym (append-nil made))
    plays made rest (Read ∷ ts) whole is = plays made rest ts whole is
    plays made rest (Change c ∷ ts) whole (inl is) =
        let e : Entry = is.0 in
        let more = goes_on log (made ++ e ∷ []) ts log.entries is.2 in
        let after : log.entries ≡ made ++ e ∷ more.0 = more.1 ∙ append_assoc made (e ∷ []) more.0 in
        let right : IsRight accepts 1 (at made) e = right_at log.opening made e more.0 (subst (IsLegal accepts 1 log.opening) after legal) in
        let one : entry_of c (answer accepts (at made) c) ≡ e ∷ [] = entry_is c e (at made) is.1.by is.1.asked right.true_reply in
        let then : at (made ++ e ∷ []) ≡ next accepts (at made) c = pool_of-append accepts log.opening made e ∙ ap (next accepts (at made)) is.1.asked in
        append_cancel_left made rest (e ∷ more.0) (sym whole ∙ after)
        ∙ ap (λ l. e ∷ l) (plays (made ++ e ∷ []) more.0 ts more.1 is.2)
        ∙ ap (λ p. e ∷ entries_from accepts p ts) then
        ∙ ap (λ l. l ++ entries_from accepts (next accepts (at made) c) ts) (sym one)
    plays made rest (Change c ∷ ts) whole (inr is) =
        let refused : answer accepts (at made) c ≡ Err is.0.refusal = refused_there made c is.0 in
        plays made rest ts whole is.1
        ∙ ap (λ p. entries_from accepts p ts) (sym (next-refused accepts (at made) c is.0.refusal refused))
        ∙ ap (λ a. entry_of c a ++ entries_from accepts (next accepts (at made) c) ts) (sym refused)

  pub races_alone : (opening : Pool) (ts : List Task) (log : Log) → IsRace accepts opening 1 ts log → log.entries ≡ entries_from accepts opening ts
  races_alone opening ts log race =
      let legal : IsLegal accepts 1 log.opening log.entries = race.legal.legal in
      let played : Plays accepts log 0 [] ts log.entries =
      subst (λ us. Plays accepts log 0 [] us log.entries) (dealt_all 0 ts)
      (subst (λ es. Plays accepts log 0 [] (dealt_from 0 1 0 ts) es) (own_all log.opening log.entries legal) (race.played 0 (omega arith))) in
      plays log legal [] log.entries ts refl played ∙ ap (λ p. entries_from accepts p ts) race.opens
