-- What each event of the core preserves.
use Rattle.std.proofs.Common.{◌≡◌, ℕ, zero, suc, ◌+◌, ◌<◌, ◌≤◌, Bool, true, false, cond, ◌&&◌, List, [], ◌∷◌, ◌++◌, length, refl, sym, ap, subst, ◌∙◌, arith, eqb-true}
use Rattle.std.specs.Prelude.{◌==◌, Option, None, Some, IfSome, Result, Ok, Err, All, is_none, slice_get, nat_lt}
use Rattle.std.proofs.Math.Seq.{take-length}
use Rattle.std.proofs.lemmas.Bool.{ltb-true}
use Rattle.std.proofs.lemmas.List.{append_assoc, append-nil, take-append-le}
use Rattle.std.proofs.lemmas.List.Elements.{All-append, All-from_recursion}
use Rattle.std.proofs.lemmas.Option.{IfSome_then}
use Rattle.mp_rules.specs.Verifier.{Accepts}
use Rattle.mp_seqpool.specs.declared.command.Reply.{Reply}
use Rattle.mp_seqpool.specs.declared.refusal.Refusal.{Refusal}
use Rattle.mp_seqpool.specs.Command.{Command}
use Rattle.mp_seqpool.specs.Pool.{Pool}
use Rattle.mp_seqpool.specs.SlowPool.{answer, next}
use Rattle.mp_history.specs.Entry.{Entry}
use Rattle.mp_history.specs.Log.{IsRight, IsLegal, pool_of, last_of}
use Rattle.mp_history.specs.World.{Version, World, Event, Take, Commit, Answer, Show, ShowRefused, Release, Read, Learn, first_version, opens, present, is_holder, has_lock, put, with_held, with_entry, after_commit, after_answer, after_show, adopt, step, run, entries_by, enters, commits}
use Rattle.mp_history.specs.CoreLaw.{IsTrueVersion}
use Rattle.mp_history.proofs.Logs.{pool_of-append, legal-append, last_of-own, last_of-other}

-- Numbers, truth values and lists.

turn : (n : ℕ) → suc (n + 1) ≡ suc n + 1
turn n = omega arith

up : (a b : ℕ) → a ≤ b → a ≤ b + 1
up a b le = omega arith

pub itself : (a : ℕ) → a ≤ a
itself a = omega arith

pub both : (a b : Bool) → (a && b) ≡ true → (a ≡ true) × (b ≡ true)
both true true e = (refl, refl)
both true false e = Prim.cc
both false b e = Prim.cc

-- a fact of both branches
pub kept_if : {A : Type 0} (P : A → Type 0) (b : Bool) (x y : A) → (b ≡ true → P x) → P y → P (cond b x y)
kept_if P true x y so other = so refl
kept_if P false x y so other = other

push-All : {A : Type 0} (P : A → Type 0) (xs : List A) (x : A) → All P xs → P x → All P (xs ++ x ∷ [])
push-All P xs x all one = All-append P xs (x ∷ []) all (All-from_recursion P (x ∷ []) (one, tt))

pub push-length : {A : Type 0} (xs : List A) (x : A) → length (xs ++ x ∷ []) ≡ length xs + 1
push-length [] x = refl
push-length (y ∷ xs) x = ap suc (push-length xs x) ∙ turn (length xs)

one : {A : Type 0} (P : A → Type 0) (xs : List A) (k : ℕ) → All P xs → IfSome (slice_get xs k) P
one P [] k all = tt
one P (x ∷ xs) zero all = all 0 x (omega arith)
one P (x ∷ xs) (suc k) all = one P xs k (λ j d lt. all (suc j) d (omega arith))

-- Last places.

last-put : (f : ℕ → Option ℕ) (caller : ℕ) (log : List Entry) (d : Entry) → f caller ≡ last_of caller log → put f d.caller (Some (length log)) caller ≡ last_of caller (log ++ d ∷ [])
last-put f caller log d was =
    elim (caller == d.caller) as (λ b. (caller == d.caller) ≡ b → cond b (Some (length log)) (f caller) ≡ last_of caller (log ++ d ∷ [])) [
      | true ↦ λ e. sym (last_of-own caller log d e)
      | false ↦ λ e. was ∙ sym (last_of-other caller log d e)
    ] refl

-- What events that enter nothing leave of the log.

log-answered : (w : World) (caller : ℕ) (a : Result Reply Refusal) → (after_answer w caller a).log ≡ w.log
log-answered w caller (Ok reply) = refl
log-answered w caller (Err refusal) = refl

log-shown : (w : World) (o : Option Version) → (after_show w o).log ≡ w.log
log-shown w None = refl
log-shown w (Some v) = refl

log_same : (b : Bool) (v w : World) → v.log ≡ w.log → (cond b v w).log ≡ w.log ++ []
log_same true v w e = e ∙ sym (append-nil w.log)
log_same false v w e = sym (append-nil w.log)

log_if : (b : Bool) (v w : World) (ds : List Entry) → v.log ≡ w.log ++ ds → (cond b v w).log ≡ w.log ++ cond b ds []
log_if true v w ds e = e
log_if false v w ds e = sym (append-nil w.log)

log-adopt : (w : World) (caller : ℕ) (o : Option Version) → (adopt w caller o).log ≡ w.log
log-adopt w caller None = refl
log-adopt w caller (Some v) = kept_if (λ (u : World). u.log ≡ w.log) (nat_lt (w.held caller).number v.number) (with_held w caller v) w (λ _. refl) refl

-- The number of the version that a caller holds never decreases.

abbrev pub IsLater : World → World → Type 0
IsLater w v = (caller : ℕ) → (w.held caller).number ≤ (v.held caller).number

later-put : (w : World) (caller : ℕ) (v : Version) → (w.held caller).number ≤ v.number → (c : ℕ) → (w.held c).number ≤ (put w.held caller v c).number
later-put w caller v le c = kept_if (λ (u : Version). (w.held c).number ≤ u.number) (c == caller) v (w.held c) (λ e. subst (λ k. (w.held k).number ≤ v.number) (sym (eqb-true c caller e)) le) (itself (w.held c).number)

later-shown : (w : World) (o : Option Version) → IsLater w (after_show w o)
later-shown w None = λ c. itself (w.held c).number
later-shown w (Some v) = λ c. itself (w.held c).number

below : (a b : ℕ) → a < b → a ≤ b
below a b lt = omega arith

later-adopt : (w : World) (caller : ℕ) (o : Option Version) → IsLater w (adopt w caller o)
later-adopt w caller None = λ c. itself (w.held c).number
later-adopt w caller (Some v) =
    kept_if (IsLater w) (nat_lt (w.held caller).number v.number) (with_held w caller v) w
    (λ e. later-put w caller v (below (w.held caller).number v.number (ltb-true (w.held caller).number v.number e))) (λ c. itself (w.held c).number)

later-if : (b : Bool) (v w : World) → IsLater w v → IsLater w (cond b v w)
later-if b v w is = kept_if (IsLater w) b v w (λ _. is) (λ c. itself (w.held c).number)

chain : (a b c : ℕ) → a ≤ b → b ≤ c → a ≤ c
chain a b c x y = omega arith

-- The version that a caller holds contains all of the caller's own entries.

pub record HasOwn (w : World) (caller : ℕ) : Type 0 where
  pub has : IfSome (w.last caller) (λ place. place < (w.held caller).number)

more_than : (a b c : ℕ) → a < b → b ≤ c → a < c
more_than a b c x y = omega arith

-- a later version, and no entry of one's own
own-later : (w v : World) (caller : ℕ) → HasOwn w caller → (w.held caller).number ≤ (v.held caller).number → v.last caller ≡ w.last caller → HasOwn v caller
own-later w v caller own le same = record {
  has = subst (λ o. IfSome o (λ place. place < (v.held caller).number)) (sym same) (IfSome_then (w.last caller) own.has (λ place lt. more_than place (w.held caller).number (v.held caller).number lt le));
}

last-answered : (w : World) (caller : ℕ) (a : Result Reply Refusal) → (after_answer w caller a).last ≡ w.last
last-answered w caller (Ok reply) = refl
last-answered w caller (Err refusal) = refl

last-shown : (w : World) (o : Option Version) → (after_show w o).last ≡ w.last
last-shown w None = refl
last-shown w (Some v) = refl

last-adopt : (w : World) (caller : ℕ) (o : Option Version) → (adopt w caller o).last ≡ w.last
last-adopt w caller None = refl
last-adopt w caller (Some v) = kept_if (λ (u : World). u.last ≡ w.last) (nat_lt (w.held caller).number v.number) (with_held w caller v) w (λ _. refl) refl

last-if : (b : Bool) (v w : World) → v.last ≡ w.last → (cond b v w).last ≡ w.last
last-if true v w e = e
last-if false v w e = refl

longer : (n m : ℕ) → m ≡ n + 1 → n < m
longer n m e = omega arith

-- The events, where a verifier decides which signatures are good.
module _ (accepts : Accepts) where
  -- Versions, one entry later.

  pub later : (p : Pool) (log : List Entry) (d : Entry) (v : Version) → IsTrueVersion accepts p log v → IsTrueVersion accepts p (log ++ d ∷ []) v
  later p log d v true_one = record {
    within = subst (λ n. v.number ≤ n) (sym (push-length log d)) (up v.number (length log) true_one.within);
    same = true_one.same ∙ ap (pool_of accepts p) (sym (take-append-le v.number log (d ∷ []) true_one.within));
  }

  -- What holds of every world.
  pub record IsSound (callers : ℕ) (p : Pool) (w : World) : Type 0 where
    pub locked : w.locked ≡ pool_of accepts p w.log
    pub legal : IsLegal accepts callers p w.log
    pub held : (caller : ℕ) → IsTrueVersion accepts p w.log (w.held caller)
    pub waiting : IfSome w.waiting (IsTrueVersion accepts p w.log)
    pub board : All (IsTrueVersion accepts p w.log) w.board
    pub ever : All (IsTrueVersion accepts p w.log) w.ever
    pub last : (caller : ℕ) → w.last caller ≡ last_of caller w.log

  pub sound-opens : (callers : ℕ) (p : Pool) → IsSound callers p (opens p)
  sound-opens callers p =
      let first : IsTrueVersion accepts p [] (first_version p) = record { within = omega arith; same = refl } in
      record {
        locked = refl;
        legal = tt;
        held = λ _. first;
        waiting = tt;
        board = All-from_recursion (IsTrueVersion accepts p []) (first_version p ∷ []) (first, tt);
        ever = All-from_recursion (IsTrueVersion accepts p []) (first_version p ∷ []) (first, tt);
        last = λ _. refl;
      }

  pub sound-present : (callers : ℕ) (p : Pool) (w : World) → IsSound callers p w → IsTrueVersion accepts p w.log (present w)
  sound-present callers p w s = record { within = itself (length w.log); same = s.locked ∙ ap (pool_of accepts p) (sym (take-length w.log)) }

  sound-holding : (callers : ℕ) (p : Pool) (w : World) (caller : ℕ) (v : Version) → IsSound callers p w → IsTrueVersion accepts p w.log v → IsSound callers p (with_held w caller v)
  sound-holding callers p w caller v s true_one = record {
    locked = s.locked;
    legal = s.legal;
    held = λ c. kept_if (IsTrueVersion accepts p w.log) (c == caller) v (w.held c) (λ _. true_one) (s.held c);
    waiting = s.waiting;
    board = s.board;
    ever = push-All (IsTrueVersion accepts p w.log) w.ever v s.ever true_one;
    last = s.last;
  }

  sound-entered : (callers : ℕ) (p : Pool) (w : World) (d : Entry) → IsSound callers p w → IsRight accepts callers (pool_of accepts p w.log) d → IsSound callers p (with_entry accepts w d)
  sound-entered callers p w d s right = record {
    locked = ap (λ q. next accepts q d.command) s.locked ∙ sym (pool_of-append accepts p w.log d);
    legal = legal-append accepts callers p w.log d s.legal right;
    held = λ c. later p w.log d (w.held c) (s.held c);
    waiting = IfSome_then w.waiting s.waiting (later p w.log d);
    board = λ k v lt. later p w.log d _ (s.board k v lt);
    ever = λ k v lt. later p w.log d _ (s.ever k v lt);
    last = λ c. last-put w.last c w.log d (s.last c);
  }

  sound-waits : (callers : ℕ) (p : Pool) (w : World) (v : Version) → IsSound callers p w → IsTrueVersion accepts p w.log v → IsSound callers p (record w { waiting = Some v })
  sound-waits callers p w v s true_one = record { locked = s.locked; legal = s.legal; held = s.held; waiting = true_one; board = s.board; ever = s.ever; last = s.last }

  sound-committed : (callers : ℕ) (p : Pool) (w : World) (caller : ℕ) (command : Command) (a : Result Reply Refusal) → caller < callers → answer accepts w.locked command ≡ a → IsSound callers p w → IsSound callers p (after_commit accepts w caller command a)
  sound-committed callers p w caller command (Ok reply) known e s =
      let d : Entry = record { caller = caller; command = command; reply = reply } in
      let v : World = with_entry accepts w d in
      let now : IsSound callers p v = sound-entered callers p w d s (record { known = known; true_reply = ap (λ q. answer accepts q command) (sym s.locked) ∙ e }) in
      let there : IsTrueVersion accepts p v.log (present v) = sound-present callers p v now in
      sound-waits callers p (with_held v caller (present v)) (present v) (sound-holding callers p v caller (present v) now there) there
  sound-committed callers p w caller command (Err refusal) known e s = s

  sound-answered : (callers : ℕ) (p : Pool) (w : World) (caller : ℕ) (a : Result Reply Refusal) → IsSound callers p w → IsSound callers p (after_answer w caller a)
  sound-answered callers p w caller (Ok reply) s = s
  sound-answered callers p w caller (Err refusal) s = sound-holding callers p w caller (present w) s (sound-present callers p w s)

  sound-shown : (callers : ℕ) (p : Pool) (w : World) (o : Option Version) → IfSome o (IsTrueVersion accepts p w.log) → IsSound callers p w → IsSound callers p (after_show w o)
  sound-shown callers p w None true_one s = s
  sound-shown callers p w (Some v) true_one s = record { locked = s.locked; legal = s.legal; held = s.held; waiting = tt; board = push-All (IsTrueVersion accepts p w.log) w.board v s.board true_one; ever = s.ever; last = s.last }

  sound-adopt : (callers : ℕ) (p : Pool) (w : World) (caller : ℕ) (o : Option Version) → IfSome o (IsTrueVersion accepts p w.log) → IsSound callers p w → IsSound callers p (adopt w caller o)
  sound-adopt callers p w caller None true_one s = s
  sound-adopt callers p w caller (Some v) true_one s = kept_if (IsSound callers p) (nat_lt (w.held caller).number v.number) (with_held w caller v) w (λ _. sound-holding callers p w caller v s true_one) s

  sound-holder : (callers : ℕ) (p : Pool) (w : World) (h : Option ℕ) → IsSound callers p w → IsSound callers p (record w { holder = h })
  sound-holder callers p w h s = record { locked = s.locked; legal = s.legal; held = s.held; waiting = s.waiting; board = s.board; ever = s.ever; last = s.last }

  pub sound-step : (callers : ℕ) (p : Pool) (w : World) (e : Event) → IsSound callers p w → IsSound callers p (step accepts callers w e)
  sound-step callers p w (Take caller) s = kept_if (IsSound callers p) (nat_lt caller callers && is_none w.holder) (record w { holder = Some caller }) w (λ _. sound-holder callers p w (Some caller) s) s
  sound-step callers p w (Commit caller command) s =
      kept_if (IsSound callers p) (has_lock callers w caller) (after_commit accepts w caller command (answer accepts w.locked command)) w
      (λ e. sound-committed callers p w caller command (answer accepts w.locked command) (ltb-true caller callers (both (nat_lt caller callers) (is_holder w.holder caller) e).0) refl s) s
  sound-step callers p w (Answer caller command) s = kept_if (IsSound callers p) (has_lock callers w caller) (after_answer w caller (answer accepts w.locked command)) w (λ _. sound-answered callers p w caller (answer accepts w.locked command) s) s
  sound-step callers p w (Show caller) s = kept_if (IsSound callers p) (has_lock callers w caller) (after_show w w.waiting) w (λ _. sound-shown callers p w w.waiting s.waiting s) s
  sound-step callers p w (ShowRefused caller) s = s
  sound-step callers p w (Release caller) s = kept_if (IsSound callers p) (has_lock callers w caller) (record w { holder = None }) w (λ _. sound-holder callers p w None s) s
  sound-step callers p w (Read caller which) s = kept_if (IsSound callers p) (nat_lt caller callers) (adopt w caller (slice_get w.board which)) w (λ _. sound-adopt callers p w caller (slice_get w.board which) (one (IsTrueVersion accepts p w.log) w.board which s.board) s) s
  sound-step callers p w (Learn caller which) s = kept_if (IsSound callers p) (nat_lt caller callers) (adopt w caller (slice_get w.ever which)) w (λ _. sound-adopt callers p w caller (slice_get w.ever which) (one (IsTrueVersion accepts p w.log) w.ever which s.ever) s) s

  pub sound-run : (callers : ℕ) (p : Pool) (w : World) (es : List Event) → IsSound callers p w → IsSound callers p (run accepts callers w es)
  sound-run callers p w [] s = s
  sound-run callers p w (e ∷ es) s = sound-run callers p (step accepts callers w e) es (sound-step callers p w e s)

  -- What an event appends is the last entry of the log.

  log-committed : (w : World) (caller : ℕ) (command : Command) (a : Result Reply Refusal) → (after_commit accepts w caller command a).log ≡ w.log ++ entries_by caller command a
  log-committed w caller command (Ok reply) = refl
  log-committed w caller command (Err refusal) = sym (append-nil w.log)

  pub log-step : (callers : ℕ) (w : World) (e : Event) → (step accepts callers w e).log ≡ w.log ++ enters accepts callers w e
  log-step callers w (Take caller) = log_same (nat_lt caller callers && is_none w.holder) (record w { holder = Some caller }) w refl
  log-step callers w (Commit caller command) = log_if (has_lock callers w caller) (after_commit accepts w caller command (answer accepts w.locked command)) w (entries_by caller command (answer accepts w.locked command)) (log-committed w caller command (answer accepts w.locked command))
  log-step callers w (Answer caller command) = log_same (has_lock callers w caller) (after_answer w caller (answer accepts w.locked command)) w (log-answered w caller (answer accepts w.locked command))
  log-step callers w (Show caller) = log_same (has_lock callers w caller) (after_show w w.waiting) w (log-shown w w.waiting)
  log-step callers w (ShowRefused caller) = sym (append-nil w.log)
  log-step callers w (Release caller) = log_same (has_lock callers w caller) (record w { holder = None }) w refl
  log-step callers w (Read caller which) = log_same (nat_lt caller callers) (adopt w caller (slice_get w.board which)) w (log-adopt w caller (slice_get w.board which))
  log-step callers w (Learn caller which) = log_same (nat_lt caller callers) (adopt w caller (slice_get w.ever which)) w (log-adopt w caller (slice_get w.ever which))

  pub log-run : (callers : ℕ) (w : World) (es : List Event) → (run accepts callers w es).log ≡ w.log ++ commits accepts callers w es
  log-run callers w [] = sym (append-nil w.log)
  log-run callers w (e ∷ es) =
      log-run callers (step accepts callers w e) es
      ∙ ap (λ l. l ++ commits accepts callers (step accepts callers w e) es) (log-step callers w e)
      ∙ append_assoc w.log (enters accepts callers w e) (commits accepts callers (step accepts callers w e) es)

  -- Later versions.

  later-committed : (callers : ℕ) (p : Pool) (w : World) (caller : ℕ) (command : Command) (a : Result Reply Refusal) → IsSound callers p w → IsLater w (after_commit accepts w caller command a)
  later-committed callers p w caller command (Ok reply) s =
      let d : Entry = record { caller = caller; command = command; reply = reply } in
      later-put w caller (present (with_entry accepts w d)) (subst (λ n. (w.held caller).number ≤ n) (sym (push-length w.log d)) (up (w.held caller).number (length w.log) (s.held caller).within))
  later-committed callers p w caller command (Err refusal) s = λ c. itself (w.held c).number

  later-answered : (callers : ℕ) (p : Pool) (w : World) (caller : ℕ) (a : Result Reply Refusal) → IsSound callers p w → IsLater w (after_answer w caller a)
  later-answered callers p w caller (Ok reply) s = λ c. itself (w.held c).number
  later-answered callers p w caller (Err refusal) s = later-put w caller (present w) (s.held caller).within

  later-step : (callers : ℕ) (p : Pool) (w : World) (e : Event) → IsSound callers p w → IsLater w (step accepts callers w e)
  later-step callers p w (Take caller) s = later-if (nat_lt caller callers && is_none w.holder) (record w { holder = Some caller }) w (λ c. itself (w.held c).number)
  later-step callers p w (Commit caller command) s = later-if (has_lock callers w caller) (after_commit accepts w caller command (answer accepts w.locked command)) w (later-committed callers p w caller command (answer accepts w.locked command) s)
  later-step callers p w (Answer caller command) s = later-if (has_lock callers w caller) (after_answer w caller (answer accepts w.locked command)) w (later-answered callers p w caller (answer accepts w.locked command) s)
  later-step callers p w (Show caller) s = later-if (has_lock callers w caller) (after_show w w.waiting) w (later-shown w w.waiting)
  later-step callers p w (ShowRefused caller) s = λ c. itself (w.held c).number
  later-step callers p w (Release caller) s = later-if (has_lock callers w caller) (record w { holder = None }) w (λ c. itself (w.held c).number)
  later-step callers p w (Read caller which) s = later-if (nat_lt caller callers) (adopt w caller (slice_get w.board which)) w (later-adopt w caller (slice_get w.board which))
  later-step callers p w (Learn caller which) s = later-if (nat_lt caller callers) (adopt w caller (slice_get w.ever which)) w (later-adopt w caller (slice_get w.ever which))

  pub later-run : (callers : ℕ) (p : Pool) (w : World) (es : List Event) → IsSound callers p w → IsLater w (run accepts callers w es)
  later-run callers p w [] s c = itself (w.held c).number
  later-run callers p w (e ∷ es) s c =
      chain (w.held c).number ((step accepts callers w e).held c).number ((run accepts callers w (e ∷ es)).held c).number
      (later-step callers p w e s c) (later-run callers p (step accepts callers w e) es (sound-step callers p w e s) c)

  -- Own entries.

  own-committed : (callers : ℕ) (p : Pool) (w : World) (caller : ℕ) (command : Command) (a : Result Reply Refusal) (c : ℕ) → IsSound callers p w → HasOwn w c → HasOwn (after_commit accepts w caller command a) c
  own-committed callers p w caller command (Ok reply) c s own =
      let d : Entry = record { caller = caller; command = command; reply = reply } in
      let v : Version = present (with_entry accepts w d) in
      record {
        has = elim (c == caller) as (λ b. (c == caller) ≡ b → IfSome (cond b (Some (length w.log)) (w.last c)) (λ place. place < (cond b v (w.held c)).number)) [
          | true ↦ λ _. longer (length w.log) v.number (push-length w.log d)
          | false ↦ λ _. own.has
        ] refl;
      }
  own-committed callers p w caller command (Err refusal) c s own = own

  own-step : (callers : ℕ) (p : Pool) (w : World) (e : Event) (c : ℕ) → IsSound callers p w → HasOwn w c → HasOwn (step accepts callers w e) c
  own-step callers p w (Take caller) c s own = own-later w (step accepts callers w (Take caller)) c own (later-step callers p w (Take caller) s c) (ap (λ (f : ℕ → Option ℕ). f c) (last-if (nat_lt caller callers && is_none w.holder) (record w { holder = Some caller }) w refl))
  own-step callers p w (Commit caller command) c s own = kept_if (λ u. HasOwn u c) (has_lock callers w caller) (after_commit accepts w caller command (answer accepts w.locked command)) w (λ _. own-committed callers p w caller command (answer accepts w.locked command) c s own) own
  own-step callers p w (Answer caller command) c s own = own-later w (step accepts callers w (Answer caller command)) c own (later-step callers p w (Answer caller command) s c) (ap (λ (f : ℕ → Option ℕ). f c) (last-if (has_lock callers w caller) (after_answer w caller (answer accepts w.locked command)) w (last-answered w caller (answer accepts w.locked command))))
  own-step callers p w (Show caller) c s own = own-later w (step accepts callers w (Show caller)) c own (later-step callers p w (Show caller) s c) (ap (λ (f : ℕ → Option ℕ). f c) (last-if (has_lock callers w caller) (after_show w w.waiting) w (last-shown w w.waiting)))
  own-step callers p w (ShowRefused caller) c s own = own
  own-step callers p w (Release caller) c s own = own-later w (step accepts callers w (Release caller)) c own (later-step callers p w (Release caller) s c) (ap (λ (f : ℕ → Option ℕ). f c) (last-if (has_lock callers w caller) (record w { holder = None }) w refl))
  own-step callers p w (Read caller which) c s own = own-later w (step accepts callers w (Read caller which)) c own (later-step callers p w (Read caller which) s c) (ap (λ (f : ℕ → Option ℕ). f c) (last-if (nat_lt caller callers) (adopt w caller (slice_get w.board which)) w (last-adopt w caller (slice_get w.board which))))
  own-step callers p w (Learn caller which) c s own = own-later w (step accepts callers w (Learn caller which)) c own (later-step callers p w (Learn caller which) s c) (ap (λ (f : ℕ → Option ℕ). f c) (last-if (nat_lt caller callers) (adopt w caller (slice_get w.ever which)) w (last-adopt w caller (slice_get w.ever which))))

  pub own-run : (callers : ℕ) (p : Pool) (w : World) (es : List Event) (c : ℕ) → IsSound callers p w → HasOwn w c → HasOwn (run accepts callers w es) c
  own-run callers p w [] c s own = own
  own-run callers p w (e ∷ es) c s own = own-run callers p (step accepts callers w e) es c (sound-step callers p w e s) (own-step callers p w e c s own)
