-- The first fault of a history.
use Rattle.std.proofs.Common.{◌≡◌, ◌≢◌, ℕ, zero, suc, ◌+◌, ◌<◌, ◌≤◌, Bool, true, false, cond, ◌&&◌, List, [], ◌∷◌, length, get_or, take, refl, sym, ap, subst, ◌∙◌, arith, eqb-true, leb-true}
use Rattle.std.specs.Prelude.{nat_le, nat_eq, Option, None, Some, Result, Ok, Err, IfErr, IsErrAnd}
use Rattle.std.specs.Option.{option_or}
use Rattle.std.specs.Cmp.Derive.{both_true}
use Rattle.std.specs.Cmp.Lexicographic.{pointwise, bytes_decides}
use Rattle.std.proofs.lemmas.Bool.{leb-false}
use Rattle.std.proofs.lemmas.Option.{same_Some}
use Rattle.mp_rules.specs.Verifier.{Accepts}
use Rattle.mp_seqpool.specs.declared.command.Reply.{Reply}
use Rattle.mp_seqpool.specs.declared.command.Reply.TheVariants.{Accepted, Removed, Synced}
use Rattle.mp_seqpool.specs.declared.refusal.Refusal.{Refusal}
use Rattle.mp_seqpool.specs.Pool.{Pool}
use Rattle.mp_seqpool.specs.SlowPool.{answer, next}
use Rattle.mp_history.specs.declared.fault.AuditFault.{AuditFault}
use Rattle.mp_history.specs.declared.fault.AuditFault.TheVariants.{NoMemory, WrongReply, StrangeCaller}
use Rattle.mp_history.specs.Entry.{Entry}
use Rattle.mp_history.specs.Log.{IsRight, IsLegal, pool_of}
use Rattle.mp_history.specs.AuditFault.{same_reply, is_reply, entry_fault, fault_from, first_fault, IsFaultOf, IsWrongReply, IsStrangeCaller, IsFirstAt, IsFirstFault, IsIllegal}
use Rattle.mp_history.proofs.Core.{both}
use Rattle.mp_history.proofs.Law.{eqb-refl}

same_tickets : (a b : List ℕ) → pointwise nat_eq a b ≡ true → a ≡ b
same_tickets a b e = (bytes_decides a b).0 e

same_pair : (a b c d : List ℕ) → (pointwise nat_eq a c && pointwise nat_eq b d) ≡ true → (a ≡ c) × (b ≡ d)
same_pair a b c d e = let h = both (pointwise nat_eq a c) (pointwise nat_eq b d) e in (same_tickets a c h.0, same_tickets b d h.1)

same_reply-true : (a b : Reply) → same_reply a b ≡ true → a ≡ b
same_reply-true (Accepted a) (Accepted b) e = ap (λ k. Accepted k) (eqb-true a b e)
same_reply-true (Removed a b) (Removed c d) e = let h = same_pair a b c d e in ap (λ x. Removed x b) h.0 ∙ ap (λ x. Removed c x) h.1
same_reply-true (Synced a b) (Synced c d) e = let h = same_pair a b c d e in ap (λ x. Synced x b) h.0 ∙ ap (λ x. Synced c x) h.1
same_reply-true (Accepted a) (Removed c d) e = Prim.cc
same_reply-true (Accepted a) (Synced c d) e = Prim.cc
same_reply-true (Removed a b) (Accepted c) e = Prim.cc
same_reply-true (Removed a b) (Synced c d) e = Prim.cc
same_reply-true (Synced a b) (Accepted c) e = Prim.cc
same_reply-true (Synced a b) (Removed c d) e = Prim.cc

equal : (a : List ℕ) → pointwise nat_eq a a ≡ true
equal a = (bytes_decides a a).1 refl

same_reply-itself : (a : Reply) → same_reply a a ≡ true
same_reply-itself (Accepted a) = eqb-refl a
same_reply-itself (Removed a b) = both_true (equal a) (equal b)
same_reply-itself (Synced a b) = both_true (equal a) (equal b)

is_reply-true : (a : Result Reply Refusal) (r : Reply) → is_reply a r ≡ true → a ≡ Ok r
is_reply-true (Ok given) r e = ap (λ x. Ok x) (same_reply-true given r e)
is_reply-true (Err f) r e = Prim.cc

abbrev reply_in : Reply → Result Reply Refusal → Reply
reply_in other (Ok reply) = reply
reply_in other (Err f) = other

is_reply-false : (a : Result Reply Refusal) (r : Reply) → is_reply a r ≡ false → a ≢ Ok r
is_reply-false (Ok given) r e = λ same. let is = ap (same_reply given) (ap (reply_in given) same) in let itself = same_reply-itself given in Prim.cc
is_reply-false (Err f) r e = λ same. Prim.cc

abbrev place_of : AuditFault → ℕ
place_of NoMemory = 0
place_of (WrongReply k) = k
place_of (StrangeCaller k) = k

next_place : (k start n : ℕ) → k ≡ (start + 1) + n → k ≡ start + suc n
next_place k start n e = omega arith

same_place : (start : ℕ) → start ≡ start + 0
same_place start = omega arith

further : (n m : ℕ) → n < m → suc n < suc m
further n m lt = omega arith

-- what holds of the fault that is passed on
passed_on : {A : Type 0} (P : AuditFault → Type 0) (r : Result A AuditFault) (f : AuditFault) → IsErrAnd r (λ e. e ≡ f) → P f → IfErr r P
passed_on P (Ok a) f is one = tt
passed_on P (Err e) f is one = subst P (sym is) one

module _ (accepts : Accepts) where
  -- One entry.

  -- what a fault says of the entry at its place
  abbrev IsBad : ℕ → AuditFault → Pool → Entry → Type 0
  IsBad callers NoMemory p d = ⊥
  IsBad callers (WrongReply k) p d = IsWrongReply accepts callers p d
  IsBad callers (StrangeCaller k) p d = IsStrangeCaller callers p d

  module _ (callers : ℕ) (p : Pool) (place : ℕ) (d : Entry) where
    bad_by : (strange right : Bool) (f : AuditFault) → nat_le callers d.caller ≡ strange → is_reply (answer accepts p d.command) d.reply ≡ right
        → cond strange (Some (StrangeCaller place)) (cond right None (Some (WrongReply place))) ≡ Some f → (place_of f ≡ place) × IsBad callers f p d
    bad_by true right f s r e = subst (λ g. (place_of g ≡ place) × IsBad callers g p d) (same_Some (StrangeCaller place) f e) (refl, leb-true callers d.caller s)
    bad_by false true f s r e = Prim.cc
    bad_by false false f s r e =
        subst (λ g. (place_of g ≡ place) × IsBad callers g p d) (same_Some (WrongReply place) f e)
        (refl, record { known = leb-false callers d.caller s; wrong = is_reply-false (answer accepts p d.command) d.reply r })

    bad : (f : AuditFault) → entry_fault accepts callers p place d ≡ Some f → (place_of f ≡ place) × IsBad callers f p d
    bad f e = bad_by (nat_le callers d.caller) (is_reply (answer accepts p d.command) d.reply) f refl refl e

    right_by : (strange right : Bool) → nat_le callers d.caller ≡ strange → is_reply (answer accepts p d.command) d.reply ≡ right
        → cond strange (Some (StrangeCaller place)) (cond right None (Some (WrongReply place))) ≡ None → IsRight accepts callers p d
    right_by true right s r e = Prim.cc
    right_by false true s r e = record { known = leb-false callers d.caller s; true_reply = is_reply-true (answer accepts p d.command) d.reply r }
    right_by false false s r e = Prim.cc

    right : entry_fault accepts callers p place d ≡ None → IsRight accepts callers p d
    right e = right_by (nat_le callers d.caller) (is_reply (answer accepts p d.command) d.reply) refl refl e

    apart : (f : AuditFault) → IsBad callers f p d → IsRight accepts callers p d → ⊥
    apart NoMemory b is = b
    apart (WrongReply k) b is = b.wrong is.true_reply
    apart (StrangeCaller k) b is = absurd (not_both callers d.caller b is.known)
      where
        not_both : (a b : ℕ) → a ≤ b → b < a → ⊥
        not_both a b le lt = omega arith

    -- a right entry has no fault
    none_by : (o : Option AuditFault) → entry_fault accepts callers p place d ≡ o → IsRight accepts callers p d → o ≡ None
    none_by None e is = refl
    none_by (Some f) e is = absurd (apart f (bad f e).1 is)

    none : IsRight accepts callers p d → entry_fault accepts callers p place d ≡ None
    none is = none_by (entry_fault accepts callers p place d) refl is

  -- All entries.

  abbrev IsFirst : ℕ → Pool → ℕ → List Entry → AuditFault → Type 0
  IsFirst callers p start log f = (n : ℕ) × (place_of f ≡ start + n) × IsFirstAt accepts callers p log n (IsBad callers f) × (f ≢ NoMemory)

  not_memory : (callers : ℕ) (p : Pool) (d : Entry) (f : AuditFault) → IsBad callers f p d → f ≢ NoMemory
  not_memory callers p d f b = λ is. subst (λ g. IsBad callers g p d) is b

  -- the first fault of a list, by that of its first entry, and else of the others
  first_of : (callers : ℕ) (p : Pool) (start : ℕ) (x : Entry) (log : List Entry) (f : AuditFault) (o : Option AuditFault) → entry_fault accepts callers p start x ≡ o
      → option_or o (fault_from accepts callers (next accepts p x.command) (start + 1) log) ≡ Some f → (fault_from accepts callers (next accepts p x.command) (start + 1) log ≡ Some f → IsFirst callers (next accepts p x.command) (start + 1) log f)
      → IsFirst callers p start (x ∷ log) f
  first_of callers p start x log f (Some g) is e others =
      let b = bad callers p start x f (is ∙ e) in
      (0, b.0 ∙ same_place start, record { there = omega arith; before = tt; bad = b.1 }, not_memory callers p x f b.1)
  first_of callers p start x log f None is e others =
      let more = others e in (
        suc more.0,
        next_place (place_of f) start more.0 more.1,
        record { there = further more.0 (length log) more.2.there; before = (right callers p start x is, more.2.before); bad = more.2.bad },
        more.3,
      )

  first_from : (callers : ℕ) (p : Pool) (start : ℕ) (log : List Entry) (f : AuditFault) → fault_from accepts callers p start log ≡ Some f → IsFirst callers p start log f
  first_from callers p start [] f e = Prim.cc
  first_from callers p start (x ∷ log) f e = first_of callers p start x log f (entry_fault accepts callers p start x) refl e (λ more. first_from callers (next accepts p x.command) (start + 1) log f more)

  legal_from : (callers : ℕ) (p : Pool) (start : ℕ) (log : List Entry) → fault_from accepts callers p start log ≡ None → IsLegal accepts callers p log
  legal_from callers p start [] e = tt
  legal_from callers p start (x ∷ log) e = let both = neither (entry_fault accepts callers p start x) _ e in (right callers p start x both.0, legal_from callers (next accepts p x.command) (start + 1) log both.1)
    where
      neither : (a b : Option AuditFault) → option_or a b ≡ None → (a ≡ None) × (b ≡ None)
      neither None b e = (refl, e)
      neither (Some f) b e = Prim.cc

  pub legal : (callers : ℕ) (p : Pool) (log : List Entry) → first_fault accepts callers p log ≡ None → IsLegal accepts callers p log
  legal callers p log e = legal_from callers p 0 log e

  pub first : (callers : ℕ) (p : Pool) (log : List Entry) (f : AuditFault) → first_fault accepts callers p log ≡ Some f → IsFirstFault accepts callers p log f
  first callers p log f e = told f (first_from callers p 0 log f e)
    where
      at : (n k : ℕ) → k ≡ 0 + n → n ≡ k
      at n k e = omega arith

      told : (f : AuditFault) → IsFirst callers p 0 log f → IsFirstFault accepts callers p log f
      told NoMemory is = is.3 refl
      told (WrongReply k) is = subst (λ n. IsFirstAt accepts callers p log n (IsWrongReply accepts callers)) (at is.0 k is.1) is.2
      told (StrangeCaller k) is = subst (λ n. IsFirstAt accepts callers p log n (IsStrangeCaller callers)) (at is.0 k is.1) is.2

  none_from : (callers : ℕ) (p : Pool) (start : ℕ) (log : List Entry) → IsLegal accepts callers p log → fault_from accepts callers p start log ≡ None
  none_from callers p start [] is = refl
  none_from callers p start (x ∷ log) is = ap (λ o. option_or o (fault_from accepts callers (next accepts p x.command) (start + 1) log)) (none callers p start x is.0) ∙ none_from callers (next accepts p x.command) (start + 1) log is.1

  -- What the audit finds.

  fault_at : (callers : ℕ) (p : Pool) (start : ℕ) (log : List Entry) (n : ℕ) (d : Entry) (f : AuditFault) → n < length log → d ≡ get_or log n d → IsLegal accepts callers p (take n log)
      → entry_fault accepts callers (pool_of accepts p (take n log)) (start + n) d ≡ Some f → fault_from accepts callers p start log ≡ Some f
  fault_at callers p start [] n d f lt at legal e = absurd (omega arith)
  fault_at callers p start (x ∷ log) zero d f lt at legal e =
      ap (λ o. option_or o (fault_from accepts callers (next accepts p x.command) (start + 1) log)) (ap (entry_fault accepts callers p start) (sym at) ∙ ap (λ k. entry_fault accepts callers p k d) (same_place start) ∙ e)
  fault_at callers p start (x ∷ log) (suc n) d f lt at legal e =
      ap (λ o. option_or o (fault_from accepts callers (next accepts p x.command) (start + 1) log)) (none callers p start x legal.0)
      ∙ fault_at callers (next accepts p x.command) (start + 1) log n d f (omega arith) at legal.1 (ap (λ k. entry_fault accepts callers (pool_of accepts (next accepts p x.command) (take n log)) k d) (one_on start n) ∙ e)
    where
      one_on : (start n : ℕ) → (start + 1) + n ≡ start + suc n
      one_on start n = omega arith

  is_fault : (callers : ℕ) (p : Pool) (log : List Entry) (f : AuditFault) → (f ≢ NoMemory → first_fault accepts callers p log ≡ Some f) → IsFaultOf accepts callers p log f
  is_fault callers p log NoMemory h = tt
  is_fault callers p log _ h = h (λ e. Prim.cc)

  is_illegal : (callers : ℕ) (p : Pool) (log : List Entry) (f : AuditFault) → first_fault accepts callers p log ≡ Some f → IsIllegal accepts callers p log
  is_illegal callers p log f e legal = let none = none_from callers p 0 log legal in Prim.cc

  -- a fault of the entry at an index, after legal entries
  module _ {A : Type 0} (callers : ℕ) (p q : Pool) (log : List Entry) (n : ℕ) (d : Entry) (f : AuditFault) (lt : n < length log) (at : d ≡ get_or log n d)
      (so_far : IsLegal accepts callers p (take n log) × (q ≡ pool_of accepts p (take n log))) (found : f ≢ NoMemory → entry_fault accepts callers q n d ≡ Some f) (r : Result A AuditFault) (is : IsErrAnd r (λ e. e ≡ f)) where
    first_is : f ≢ NoMemory → first_fault accepts callers p log ≡ Some f
    first_is other = fault_at callers p 0 log n d f lt at so_far.0 (ap (λ k. entry_fault accepts callers (pool_of accepts p (take n log)) k d) (from_zero n) ∙ ap (λ s. entry_fault accepts callers s n d) (sym so_far.1) ∙ found other)
      where
        from_zero : (n : ℕ) → 0 + n ≡ n
        from_zero n = omega arith

    pub fault_told : IfErr r (IsFaultOf accepts callers p log)
    fault_told = passed_on (IsFaultOf accepts callers p log) r f is (is_fault callers p log f first_is)

    pub illegal_told : IfErr r (λ f. f ≢ NoMemory → IsIllegal accepts callers p log)
    illegal_told = passed_on (λ f. f ≢ NoMemory → IsIllegal accepts callers p log) r f is (λ other. is_illegal callers p log f (first_is other))
