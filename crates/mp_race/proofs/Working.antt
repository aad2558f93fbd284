-- A worker does its tasks one after the other.
use Rattle.std.proofs.Common.{◌≡◌, ℕ, zero, suc, ◌+◌, ◌<◌, true, false, cond, List, [], ◌∷◌, ◌++◌, length, take, get_or, refl, sym, ap, subst, ◌∙◌, arith, append_assoc, append-nil, length-append, eqb-true}
use Rattle.std.specs.Prelude.{◌==◌, ◌%◌, Option, None, Some, IfSome, slice_get, All, Err}
use mathlib.Core.Logic.{inl, inr}
use Rattle.std.proofs.lemmas.List.{take_all, take-append-le}
use Rattle.std.proofs.lemmas.List.Elements.{All-nil, All-push}
use Rattle.mp_rules.specs.Verifier.{Accepts}
use Rattle.mp_seqpool.specs.declared.refusal.Refusal.{Refusal}
use Rattle.mp_seqpool.specs.Command.{Command}
use Rattle.mp_seqpool.specs.Pool.{Pool}
use Rattle.mp_seqpool.specs.SlowPool.{answer}
use Rattle.mp_history.specs.Entry.{Entry}
use Rattle.mp_history.specs.Log.{Log, Begins, pool_of, state_after}
use Rattle.mp_mempool.specs.Pass.{Pass}
use Rattle.mp_mempool.specs.Seen.{IsSeen, seen, continued}
use Rattle.mp_mempool.specs.Answers.{IsEntered, IsRefusedAt, AreOthers, with_entry}
use Rattle.mp_race.specs.declared.told.Done.{Done}
use Rattle.mp_race.specs.declared.told.Refused.{Refused}
use Rattle.mp_race.specs.Task.{Task, Change, Read}
use Rattle.mp_race.specs.Race.{own, dealt, Plays}
use Rattle.mp_race.specs.Refusals.{IsRefusal}
use Rattle.mp_race.specs.Inside.Work.{upto, made, IsDone, IsUnused, refused_at, Enters, IsTurnedDown, Does, HasMade}
use Rattle.mp_race.proofs.Playing.{own-append, own-one, own-last, upto-append, begins-refl, begins-more, dealt-append, plays_on, plays_then}

-- what is at an index stays there when more follows
stands-more : {X : Type 0} (xs ys : List X) (k : ℕ) (x : X) → slice_get xs k ≡ Some x → slice_get (xs ++ ys) k ≡ Some x
stands-more [] ys k x at = absurd (cc (at))
stands-more (y ∷ xs) ys zero x at = at
stands-more (y ∷ xs) ys (suc k) x at = stands-more xs ys k x at

stands-last : {X : Type 0} (xs : List X) (x : X) → slice_get (xs ++ x ∷ []) (length xs) ≡ Some x
stands-last [] x = refl
stands-last (y ∷ xs) x = stands-last xs x

-- changes in a history are changes in a continuation of it
pub done_on : (ts : List Task) (a b : Log) (ds : List Done) → Begins a b → All (IsDone ts a) ds → All (IsDone ts b) ds
done_on ts a b ds begins all k d lt =
    let x : Done = get_or ds k d in
    let is : IsDone ts a x = all k d lt in
    record {
      asked = is.asked;
      stands = subst (λ es. slice_get es x.receipt.place ≡ Some x.receipt.entry) begins.entries.1 (stands-more a.entries begins.entries.0 x.receipt.place x.receipt.entry is.stands);
    }

-- and with more tasks
done_more : (ts us : List Task) (log : Log) (ds : List Done) → All (IsDone ts log) ds → All (IsDone (ts ++ us) log) ds
done_more ts us log ds all k d lt =
    let x : Done = get_or ds k d in
    let is : IsDone ts log x = all k d lt in
    record { asked = stands-more ts us x.task (Change x.receipt.entry.command) is.asked; stands = is.stands }

-- what is refused in a history is refused in a continuation of it
pub refused_on : (accepts : Accepts) (workers : ℕ) (ts : List Task) (a b : Log) (rs : List Refused) → Begins a b → All (IsRefusal accepts workers ts a) rs → All (IsRefusal accepts workers ts b) rs
refused_on accepts workers ts a b rs begins all k d lt =
    let r : Refused = get_or rs k d in
    let is : IsRefusal accepts workers ts a r = all k d lt in
    let more : List Entry = begins.entries.0 in
    let same : take r.entries a.entries ≡ take r.entries b.entries = sym (take-append-le r.entries a.entries more is.within) ∙ ap (take r.entries) begins.entries.1 in
    let len : length a.entries + length more ≡ length b.entries = sym (length-append a.entries more) ∙ ap length begins.entries.1 in
    record {
      command = is.command;
      asked = is.asked;
      dealt = is.dealt;
      within = omega (arith, len, is.within);
      refusal = is.refusal;
      refused = subst (λ p. answer accepts (pool_of accepts p (take r.entries b.entries)) is.command ≡ Err is.refusal) begins.opening
          (subst (λ es. answer accepts (pool_of accepts a.opening es) is.command ≡ Err is.refusal) same is.refused);
    }

-- and with more tasks
refused_more : (accepts : Accepts) (workers : ℕ) (ts us : List Task) (log : Log) (rs : List Refused) → All (IsRefusal accepts workers ts log) rs → All (IsRefusal accepts workers (ts ++ us) log) rs
refused_more accepts workers ts us log rs all k d lt =
    let r : Refused = get_or rs k d in
    let is : IsRefusal accepts workers ts log r = all k d lt in
    record {
      command = is.command;
      asked = stands-more ts us r.task (Change is.command) is.asked;
      dealt = is.dealt;
      within = is.within;
      refusal = is.refusal;
      refused = is.refused;
    }

within-more : (o : Option ℕ) (xs ys : List Entry) → IfSome o (λ k. k < length xs) → IfSome o (λ k. k < length (xs ++ ys))
within-more None xs ys within = tt
within-more (Some k) xs ys within = omega (arith, within, length-append xs ys)

-- the tasks with one more, which is dealt to the worker or not
dealt-more : (workers w : ℕ) (ts : List Task) (t : Task) → (length ts % workers == w) ≡ true → dealt workers w (ts ++ t ∷ []) ≡ dealt workers w ts ++ t ∷ []
dealt-more workers w ts t its =
    dealt-append 0 workers w ts (t ∷ []) ∙ ap (λ b. dealt workers w ts ++ cond b (t ∷ []) []) (subst (λ n. (n % workers == w) ≡ true) (left (length ts)) its)
  where
    left : (n : ℕ) → n ≡ 0 + n
    left n = omega arith

dealt-less : (workers w : ℕ) (ts : List Task) (t : Task) → (length ts % workers == w) ≡ false → dealt workers w (ts ++ t ∷ []) ≡ dealt workers w ts
dealt-less workers w ts t others =
    dealt-append 0 workers w ts (t ∷ []) ∙ ap (λ b. dealt workers w ts ++ cond b (t ∷ []) []) (subst (λ n. (n % workers == w) ≡ false) (left (length ts)) others) ∙ append-nil (dealt workers w ts)
  where
    left : (n : ℕ) → n ≡ 0 + n
    left n = omega arith

module _ (accepts : Accepts) (callers workers : ℕ) (opening : Pool) where
  -- a worker without tasks
  pub begins : (p : Pass) → IsUnused opening p → HasMade accepts workers opening [] p [] []
  begins p is = record {
    done = record {
      opens = is.opens;
      within = subst (λ o. IfSome o (λ k. k < length p.front.entries)) (sym is.last) tt;
      plays = sym (ap (λ o. own p.caller (upto o p.front.entries)) is.last);
    };
    changes = All-nil (IsDone [] p.front);
    refusals = All-nil (IsRefusal accepts workers [] p.front);
  }

  -- a task of another worker
  pub skips : (ts : List Task) (t : Task) (p : Pass) (ds : List Done) (rs : List Refused) → (length ts % workers == p.caller) ≡ false → HasMade accepts workers opening ts p ds rs
      → HasMade accepts workers opening (ts ++ t ∷ []) p ds rs
  skips ts t p ds rs others h = record {
    done = record {
      opens = h.done.opens;
      within = h.done.within;
      plays = subst (λ us. Plays accepts p.front p.caller [] us (made p)) (sym (dealt-less workers p.caller ts t others)) h.done.plays;
    };
    changes = done_more ts (t ∷ []) p.front ds h.changes;
    refusals = refused_more accepts workers ts (t ∷ []) p.front rs h.refusals;
  }

  module _ (ts : List Task) (p : Pass) (ds : List Done) (rs : List Refused) (h : HasMade accepts workers opening ts p ds rs) where
    -- what the caller made, after others have made entries
    made_still : (others : List Entry) → AreOthers p others → own p.caller (p.front.entries ++ others) ≡ made p
    made_still others by_others =
        own-last p.caller (p.front.entries ++ others) p.last by_others.known ∙ ap (own p.caller) (upto-append p.last p.front.entries others h.done.within)

    -- the worker has seen more, and has done one of its tasks
    goes_on : (t : Task) (more : List Entry) → (length ts % workers == p.caller) ≡ true → Plays accepts (continued p.front more) p.caller (made p) (t ∷ []) (made p)
        → HasMade accepts workers opening (ts ++ t ∷ []) (seen p more) ds rs
    goes_on t more its plays =
        let log : Log = continued p.front more in
        let same : made (seen p more) ≡ made p = ap (own p.caller) (upto-append p.last p.front.entries more h.done.within) in
        record {
          done = record {
            opens = h.done.opens;
            within = within-more p.last p.front.entries more h.done.within;
            plays = subst (λ us. Plays accepts log p.caller [] us (made (seen p more))) (sym (dealt-more workers p.caller ts t its))
                (plays_then accepts log p.caller [] (dealt workers p.caller ts) (t ∷ []) (made p) (made (seen p more))
                (plays_on accepts p.front log p.caller [] (dealt workers p.caller ts) (made p) (begins-more p.front more) h.done.plays)
                (subst (λ end. Plays accepts log p.caller (made p) (t ∷ []) end) (sym same) plays));
          };
          changes = done_more ts (t ∷ []) log ds (done_on ts p.front log ds (begins-more p.front more) h.changes);
          refusals = refused_more accepts workers ts (t ∷ []) log rs (refused_on accepts workers ts p.front log rs (begins-more p.front more) h.refusals);
        }

    reads : (q : Pass) → (length ts % workers == p.caller) ≡ true → IsSeen accepts callers p q → HasMade accepts workers opening (ts ++ Read ∷ []) q ds rs
    reads q its is = subst (λ x. HasMade accepts workers opening (ts ++ Read ∷ []) x ds rs) (sym is.pass) (goes_on Read is.more its refl)

    refused : (c : Command) (q : Pass) (refusal : Refusal) (n : ℕ) → n ≡ length ts → (length ts % workers == p.caller) ≡ true → IsRefusedAt accepts callers p c refusal q
        → HasMade accepts workers opening (ts ++ Change c ∷ []) q ds (rs ++ refused_at n q ∷ [])
    refused c q refusal n at its is =
        let log : Log = continued p.front is.others in
        let none : answer accepts (state_after accepts log) c ≡ Err refusal = subst (λ (x : Pass). answer accepts (state_after accepts x.front) c ≡ Err refusal) is.pass is.refused in
        let rest : HasMade accepts workers opening (ts ++ Change c ∷ []) (seen p is.others) ds rs =
        goes_on (Change c) is.others its (inr (
          record {
            front = log;
            begins = begins-refl log;
            none_else = made_still is.others is.by_others;
            refusal = refusal;
            refused = none;
          },
          refl,
        )) in
        let whole : take (length log.entries) log.entries ≡ log.entries = take_all (length log.entries) log.entries (omega arith) in
        subst (λ x. HasMade accepts workers opening (ts ++ Change c ∷ []) x ds (rs ++ refused_at n x ∷ [])) (sym is.pass) (
        record {
          done = rest.done;
          changes = rest.changes;
          refusals = All-push (IsRefusal accepts workers (ts ++ Change c ∷ []) log) rs (refused_at n (seen p is.others)) rest.refusals (record {
            command = c;
            asked = subst (λ k. slice_get (ts ++ Change c ∷ []) k ≡ Some (Change c)) (sym at) (stands-last ts (Change c));
            dealt = ap (λ k. k % workers) at ∙ eqb-true (length ts % workers) p.caller its;
            within = omega arith;
            refusal = refusal;
            refused = subst (λ es. answer accepts (pool_of accepts log.opening es) c ≡ Err refusal) (sym whole) none;
          });
        }
        )

    entered : (c : Command) (q : Pass) (d : Done) → (length ts % workers == p.caller) ≡ true → IsEntered accepts callers p c d.receipt.place d.receipt.entry q
        → d.task ≡ length ts → HasMade accepts workers opening (ts ++ Change c ∷ []) q (ds ++ d ∷ []) rs
    entered c q d its is at =
        let xs : List Entry = p.front.entries ++ is.others in
        let e : Entry = d.receipt.entry in
        let after : Pass = with_entry p is.others e in
        let log : Log = after.front in
        let begins : Begins p.front log = record { opening = refl; entries = (is.others ++ e ∷ [], sym (append_assoc p.front.entries is.others (e ∷ []))) } in
        let len : length (xs ++ e ∷ []) ≡ length xs + 1 = length-append xs (e ∷ []) in
        let whole : take (length xs + 1) (xs ++ e ∷ []) ≡ xs ++ e ∷ [] = take_all (length xs + 1) (xs ++ e ∷ []) (omega (arith, len)) in
        let one : made after ≡ made p ++ e ∷ [] =
        ap (own p.caller) whole ∙ own-append p.caller xs (e ∷ []) ∙ ap (λ l. l ++ own p.caller (e ∷ [])) (made_still is.others is.by_others) ∙ ap (λ l. made p ++ l) (own-one p.caller e is.caller) in
        subst (λ x. HasMade accepts workers opening (ts ++ Change c ∷ []) x (ds ++ d ∷ []) rs) (sym is.pass) (
        record {
          done = record {
            opens = h.done.opens;
            within = omega (arith, len);
            plays = subst (λ us. Plays accepts log p.caller [] us (made after)) (sym (dealt-more workers p.caller ts (Change c) its))
                (plays_then accepts log p.caller [] (dealt workers p.caller ts) (Change c ∷ []) (made p) (made after)
                (plays_on accepts p.front log p.caller [] (dealt workers p.caller ts) (made p) begins h.done.plays)
                (inl (e, record { by = is.caller; asked = is.asked }, sym one)));
          };
          changes = All-push (IsDone (ts ++ Change c ∷ []) log) ds d (done_more ts (Change c ∷ []) log ds (done_on ts p.front log ds begins h.changes)) (record {
            asked = subst (λ n. slice_get (ts ++ Change c ∷ []) n ≡ Some (Change e.command)) (sym at) (stands-last ts (Change c) ∙ ap (λ x. Some (Change x)) (sym is.asked));
            stands = subst (λ n. slice_get (xs ++ e ∷ []) n ≡ Some e) (sym is.at) (stands-last xs e);
          });
          refusals = refused_more accepts workers ts (Change c ∷ []) log rs (refused_on accepts workers ts p.front log rs begins h.refusals);
        }
        )

    -- a task of the worker's own
    pub does : (n : ℕ) (t : Task) (q : Pass) (es : List Done) (ss : List Refused) → n ≡ length ts → (length ts % workers == p.caller) ≡ true → Does accepts callers p ds rs n t q es ss
        → HasMade accepts workers opening (ts ++ t ∷ []) q es ss
    does n Read q es ss at its is =
        subst (λ l. HasMade accepts workers opening (ts ++ Read ∷ []) q l ss) (sym is.1) (subst (HasMade accepts workers opening (ts ++ Read ∷ []) q ds) (sym is.2) (reads q its is.0))
    does n (Change c) q es ss at its (inl is) =
        let e : Enters accepts callers p ds n c q es = is.0 in
        subst (λ l. HasMade accepts workers opening (ts ++ Change c ∷ []) q l ss) (sym e.more)
        (subst (HasMade accepts workers opening (ts ++ Change c ∷ []) q (ds ++ e.change ∷ [])) (sym is.1) (entered c q e.change its e.entered (e.number ∙ at)))
    does n (Change c) q es ss at its (inr is) =
        let t : IsTurnedDown accepts callers p rs n c q ss = is.0 in
        subst (λ l. HasMade accepts workers opening (ts ++ Change c ∷ []) q l ss) (sym is.1)
        (subst (HasMade accepts workers opening (ts ++ Change c ∷ []) q ds) (sym t.more) (refused c q t.refusal n at its t.refused))

  -- a caller stays the same
  pub same_caller : (p : Pass) (ds : List Done) (rs : List Refused) (n : ℕ) (t : Task) (q : Pass) (es : List Done) (ss : List Refused) → Does accepts callers p ds rs n t q es ss → q.caller ≡ p.caller
  same_caller p ds rs n Read q es ss is = ap (λ (x : Pass). x.caller) is.0.pass
  same_caller p ds rs n (Change c) q es ss (inl is) = ap (λ (x : Pass). x.caller) is.0.entered.pass
  same_caller p ds rs n (Change c) q es ss (inr is) = ap (λ (x : Pass). x.caller) is.0.refused.pass
