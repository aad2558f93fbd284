-- The receipts of all workers explain every answer.
use Rattle.std.proofs.Common.{◌≡◌, ℕ, zero, suc, ◌+◌, ◌<◌, ◌≤◌, List, [], ◌∷◌, ◌++◌, length, get_or, sym, ap, subst, ◌∙◌, arith}
use Rattle.std.specs.Prelude.{All}
use Rattle.std.proofs.lemmas.List.{take_all}
use Rattle.std.proofs.lemmas.List.Elements.{All-head, All-tail, All-push, All-append, All-nil}
use Rattle.mp_rules.specs.Verifier.{Accepts}
use Rattle.mp_seqpool.specs.Pool.{Pool}
use Rattle.mp_history.specs.Entry.{Entry}
use Rattle.mp_history.specs.Log.{Log, Begins, IsLegalLog, last_of}
use Rattle.mp_mempool.specs.Pass.{Pass}
use Rattle.mp_race.specs.declared.told.Done.{Done}
use Rattle.mp_race.specs.declared.told.Refused.{Refused}
use Rattle.mp_race.specs.declared.ordering.Ordered.{Ordered}
use Rattle.mp_race.specs.Task.{Task}
use Rattle.mp_race.specs.Race.{own, dealt, Plays}
use Rattle.mp_race.specs.Refusals.{IsRefusal}
use Rattle.mp_race.specs.Inside.Work.{upto, made, IsDone, HasDone, HasMade, AreNumbered}
use Rattle.mp_race.specs.Inside.Ordered.{IsOrdered}
use Rattle.mp_race.specs.Inside.Gathered.{AreGathered, IsExplained}
use Rattle.mp_race.proofs.Playing.{own-last, upto-append, begins-trans, plays_on}
use Rattle.mp_race.proofs.Working.{done_on, refused_on}

module _ (accepts : Accepts) (workers : ℕ) (opening : Pool) (ts : List Task) where
  -- before any worker has returned
  pub nobody : (log : Log) → log.opening ≡ opening → IsLegalLog accepts workers log → AreGathered accepts workers opening ts log [] [] []
  nobody log is legal = record {
    opens = is;
    legal = legal;
    done = All-nil (HasDone accepts workers opening ts);
    begin = All-nil (λ (p : Pass). Begins p.front log);
    changes = All-nil (IsDone ts log);
    refusals = All-nil (IsRefusal accepts workers ts log);
  }

  -- one more worker has returned, and the history continues
  pub one_more : (a b : Log) (ps : List Pass) (ds es : List Done) (rs ss : List Refused) (p : Pass) → Begins a b → Begins p.front b → IsLegalLog accepts workers b
      → AreGathered accepts workers opening ts a ps ds rs → HasMade accepts workers opening ts p es ss → AreGathered accepts workers opening ts b (ps ++ p ∷ []) (ds ++ es) (rs ++ ss)
  one_more a b ps ds es rs ss p on seen legal is h = record {
    opens = sym on.opening ∙ is.opens;
    legal = legal;
    done = All-push (HasDone accepts workers opening ts) ps p is.done h.done;
    begin = All-push (λ (q : Pass). Begins q.front b) ps p (λ k d lt. begins-trans (get_or ps k d).front a b (is.begin k d lt) on) seen;
    changes = All-append (IsDone ts b) ds es (done_on ts a b ds on is.changes) (done_on ts p.front b es seen h.changes);
    refusals = All-append (IsRefusal accepts workers ts b) rs ss (refused_on accepts workers ts a b rs on is.refusals) (refused_on accepts workers ts p.front b ss seen h.refusals);
  }

  -- the pass of the worker with this number
  record HasPass (log : Log) (es : List Entry) (w : ℕ) : Type 0 where
    p : Pass
    number : p.caller ≡ w
    known : last_of w es ≡ p.last
    done : HasDone accepts workers opening ts p
    begin : Begins p.front log

  pass_of : (log : Log) (es : List Entry) (k : ℕ) (ps : List Pass) (w : ℕ) → w < length ps → AreNumbered es k ps → All (HasDone accepts workers opening ts) ps → All (λ p. Begins p.front log) ps → HasPass log es (k + w)
  pass_of log es k [] w lt numbered done begin = absurd (omega (arith, lt))
  pass_of log es k (p ∷ ps) zero lt numbered done begin =
      let e : k ≡ k + 0 = omega arith in
      subst (HasPass log es) e (
      record {
        p = p;
        number = numbered.0;
        known = numbered.1;
        done = All-head (HasDone accepts workers opening ts) p ps done;
        begin = All-head (λ (q : Pass). Begins q.front log) p ps begin;
      }
      )
  pass_of log es k (p ∷ ps) (suc w) lt numbered done begin =
      let e : (k + 1) + w ≡ k + suc w = omega arith in
      subst (HasPass log es) e (
      pass_of log es (k + 1) ps w (omega (arith, lt)) numbered.2 (All-tail (HasDone accepts workers opening ts) p ps done) (All-tail (λ (q : Pass). Begins q.front log) p ps begin)
      )

  -- what the worker made are its entries in the whole history
  made_all : (log : Log) (es : List Entry) (w : ℕ) → log.entries ≡ es → (has : HasPass log es w) → made has.p ≡ own w log.entries
  made_all log es w same has =
      let p : Pass = has.p in
      let more : List Entry = has.begin.entries.0 in
      let known : last_of w log.entries ≡ p.last = ap (last_of w) same ∙ has.known in
      ap (λ n. own n (upto p.last p.front.entries)) has.number ∙ ap (own w) (sym (upto-append p.last p.front.entries more has.done.within)) ∙ ap (λ l. own w (upto p.last l)) has.begin.entries.1
      ∙ sym (own-last w log.entries p.last known)

  played : (log : Log) (es : List Entry) (w : ℕ) → log.entries ≡ es → (has : HasPass log es w) → Plays accepts log w [] (dealt workers w ts) (own w log.entries)
  played log es w same has =
      let p : Pass = has.p in
      subst (λ end. Plays accepts log w [] (dealt workers w ts) end) (made_all log es w same has) (
      plays_on accepts p.front log w [] (dealt workers w ts) (made p) has.begin
      (subst (λ n. Plays accepts p.front n [] (dealt workers n ts) (made p)) has.number has.done.plays)
      )

  -- if the changes are the whole history, and each pass knows its caller's last entry
  pub explained : (log : Log) (ps : List Pass) (ds : List Done) (rs : List Refused) (o : Ordered) → AreGathered accepts workers opening ts log ps ds rs → IsOrdered workers ts log o
      → length log.entries ≤ length o.entries.items → length ps ≡ workers → AreNumbered o.entries.items 0 ps → IsExplained accepts opening workers ts o rs
  explained log ps ds rs o is ordered few number numbered =
      let es : List Entry = o.entries.items in
      let same : log.entries ≡ es = sym (ordered.first ∙ take_all (length es) log.entries few) in
      record {
        log = log;
        entries = same;
        race = record {
          opens = is.opens;
          legal = is.legal;
          played = λ w lt.
              let zero_first : 0 + w ≡ w = omega arith in
              played log es w same (subst (HasPass log es) zero_first (pass_of log es 0 ps w (omega (arith, lt, number)) numbered is.done is.begin));
        };
        told = ordered.told;
        refusals = is.refusals;
      }
