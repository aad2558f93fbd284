-- The records of a history, up to the first that is no entry.
use Rattle.std.proofs.Common.{◌≡◌, ◌≢◌, ℕ, zero, suc, ◌+◌, ◌<◌, ◌≤◌, true, false, cond, List, [], ◌∷◌, ◌++◌, length, take, get_or, refl, sym, ap, ap₂, subst, ◌∙◌, arith, add-one}
use Rattle.std.specs.Prelude.{◌⊎◌, ◌%◌, All, HoldsAt, None, Some, nat_le, slice_index_or}
use Rattle.std.specs.Option.{option_or}
use Rattle.std.specs.List.{AllByRecursion, range_with_len, fold}
use Rattle.std.proofs.lemmas.List.{map-append, length-append, take_all}
use Rattle.std.proofs.lemmas.List.Elements.{All-from_recursion, recursion_from_All}
use Rattle.std.proofs.lemmas.Option.{none-some}
use Rattle.std.proofs.lemmas.Bool.{leb-true}
use Rattle.mp_rules.specs.Verifier.{Accepts}
use Rattle.mp_seqpool.specs.Pool.{Pool}
use Rattle.mp_seqpool.specs.SlowPool.{answer, next}
use Rattle.mp_history.specs.Entry.{Entry}
use Rattle.mp_history.specs.Log.{IsLegal}
use Rattle.mp_history.specs.AuditFault.{is_reply, fault_from, IsFaultOf}
use Rattle.mp_history.specs.declared.fault.AuditFault.TheVariants as audit
use Rattle.mp_race.specs.declared.fault.RaceFault.{RaceFault}
use Rattle.mp_race.specs.declared.fault.RaceFault.TheVariants.{NoMemory, BadLine, ReadFault, WriteFault, Audit, MissingEntry}
use Rattle.mp_race.specs.declared.told.Told.{Told}
use Rattle.mp_race.specs.Task.{Task}
use Rattle.mp_race.specs.History.{IsEntryOf, AreTold, AreInTurn, AreEntriesOf, next_after, first_next, next_of, IsUndealt, IsLate, IsHistory, IsBadAt, IsFaultOfHistory}
use Rattle.mp_race.specs.Inside.Auditing.{EndsAt}

range-push : (a k j : ℕ) → a + k ≡ j → range_with_len a (suc k) ≡ range_with_len a k ++ j ∷ []
range-push a zero j is = ap (λ n. n ∷ []) (omega arith)
range-push a (suc k) j is = ap (λ l. a ∷ l) (range-push (a + 1) k j (omega arith))

length-push : {X : Type 0} → (xs : List X) (x : X) → length (xs ++ x ∷ []) ≡ suc (length xs)
length-push xs x = length-append xs (x ∷ []) ∙ add-one (length xs)

-- if each caller is known, none is strange
not_strange_from : (accepts : Accepts) (callers : ℕ) (p : Pool) (place : ℕ) (es : List Entry) (k : ℕ) → AllByRecursion (λ e. e.caller < callers) es → fault_from accepts callers p place es ≡ Some (audit.StrangeCaller k) → ⊥
not_strange_from accepts callers p place [] k known is = none-some (audit.StrangeCaller k) is
not_strange_from accepts callers p place (e ∷ es) k known is = elim (nat_le callers e.caller) as (λ b. nat_le callers e.caller ≡ b → option_or (cond b (Some (audit.StrangeCaller place)) (cond (is_reply (answer accepts p e.command) e.reply) None (Some (audit.WrongReply place)))) (fault_from accepts callers (next accepts p e.command) (place + 1) es) ≡ Some (audit.StrangeCaller k) → ⊥) [
  | true ↦ λ b h. let le = leb-true callers e.caller b in let lt = known.0 in absurd (omega (arith, le, lt))
  | false ↦ λ b h. elim (is_reply (answer accepts p e.command) e.reply) as (λ r. option_or (cond r None (Some (audit.WrongReply place))) (fault_from accepts callers (next accepts p e.command) (place + 1) es) ≡ Some (audit.StrangeCaller k) → ⊥) [
    | true ↦ λ h. not_strange_from accepts callers (next accepts p e.command) (place + 1) es k known.1 h
    | false ↦ λ h. absurd (let g = h in Prim.cc)
  ] h
] refl is

pub not_strange : (accepts : Accepts) (callers : ℕ) (p : Pool) (es : List Entry) (k : ℕ) → All (λ e. e.caller < callers) es → IsFaultOf accepts callers p es (audit.StrangeCaller k) → ⊥
not_strange accepts callers p es k known is = not_strange_from accepts callers p 0 es k (recursion_from_All (λ (e : Entry). e.caller < callers) es known) is

module _ (workers : ℕ) (ts : List Task) where
  told_push : (told : List Told) (es : List Entry) (t : Told) (e : Entry) → AreTold workers ts told es → IsEntryOf workers ts t e → AreTold workers ts (told ++ t ∷ []) (es ++ e ∷ [])
  told_push [] [] t e are is = (is, tt)
  told_push [] (d ∷ es) t e are is = absurd are
  told_push (u ∷ told) [] t e are is = absurd are
  told_push (u ∷ told) (d ∷ es) t e are is = (are.0, told_push told es t e are.1 is)

  pub same_length : (told : List Told) (es : List Entry) → AreTold workers ts told es → length es ≡ length told
  same_length [] [] are = refl
  same_length [] (d ∷ es) are = absurd are
  same_length (u ∷ told) [] are = absurd are
  same_length (u ∷ told) (d ∷ es) are = ap suc (same_length told es are.1)

  turn_push : (least : List ℕ) (told : List Told) (t : Told) → AreInTurn least told → get_or (fold next_after least told) t.worker 0 ≤ t.task → AreInTurn least (told ++ t ∷ [])
  turn_push least [] t are turn = (turn, tt)
  turn_push least (u ∷ told) t are turn = (are.0, turn_push (next_after least u) told t are.1 turn)

  -- one more entry
  pub one_more : (told : List Told) (es : List Entry) (t : Told) (e : Entry) → AreEntriesOf workers ts told es → IsEntryOf workers ts t e → t.place ≡ length told → get_or (next_of told) t.worker 0 ≤ t.task
      → AreEntriesOf workers ts (told ++ t ∷ []) (es ++ e ∷ [])
  one_more told es t e are is at turn = record {
    entries = told_push told es t e are.entries is;
    turns = turn_push first_next told t are.turns turn;
    places =
        map-append (λ u. u.place) told (t ∷ []) ∙ ap₂ (λ l n. l ++ n ∷ []) are.places at ∙ sym (ap (range_with_len 0) (length-push told t) ∙ range-push 0 (length told) (length told) (omega arith));
  }

  pub none : AreEntriesOf workers ts [] []
  none = record { entries = tt; turns = tt; places = refl }

  known_by_recursion : (some : 1 ≤ workers) (told : List Told) (es : List Entry) → AreTold workers ts told es → AllByRecursion (λ e. e.caller < workers) es
  known_by_recursion some [] [] are = tt
  known_by_recursion some [] (d ∷ es) are = absurd are
  known_by_recursion some (u ∷ told) [] are = absurd are
  known_by_recursion some (u ∷ told) (d ∷ es) are =
      let dealt = are.0.dealt in
      let caller = are.0.caller in
      (below (u.task) d.caller (caller ∙ sym dealt) some, known_by_recursion some told es are.1)
    where
      below : (n c : ℕ) → c ≡ n % workers → 1 ≤ workers → c < workers
      below n c is some = omega (arith, is, some)

  -- the caller of each is a worker
  pub all_known : 1 ≤ workers → (told : List Told) (es : List Entry) → AreEntriesOf workers ts told es → All (λ e. e.caller < workers) es
  all_known some told es are = All-from_recursion (λ (e : Entry). e.caller < workers) es (known_by_recursion some told es are.entries)

  module _ (accepts : Accepts) (opening : Pool) (told : List Told) (es : List Entry) where
    pub whole : AreEntriesOf workers ts (take (length es) told) es → IsLegal accepts workers opening es → length es ≡ length told → IsHistory accepts opening workers ts told
    whole are legal is = record { entries = es; are = subst (λ l. AreEntriesOf workers ts l es) (take_all (length es) told (let e = is in omega (arith, e))) are; legal = legal }

    bad_at : (Bad : Told → Type 0) (place : ℕ) → place ≡ length es → AreEntriesOf workers ts (take (length es) told) es → IsLegal accepts workers opening es → length es < length told → HoldsAt Bad told (length es) → IsBadAt accepts opening workers ts Bad told place
    bad_at Bad place at are legal there bad = subst (λ n. IsBadAt accepts opening workers ts Bad told n) (sym at) (record {
      there = there;
      before = record { entries = es; are = are; legal = legal };
      bad = bad;
    })

    -- a record, if there is one
    first_told : (ts : List Told) (n : ℕ) → n < length ts → Told
    first_told [] n lt = absurd (omega arith)
    first_told (t ∷ ts) n lt = t

    pub ended : (fault : RaceFault) → AreEntriesOf workers ts (take (length es) told) es → IsLegal accepts workers opening es → EndsAt workers ts told (length es) fault → IsFaultOfHistory accepts opening workers ts told fault
    ended NoMemory are legal ends = tt
    ended (BadLine line) are legal ends = ends.unfit (first_told told (length es) ends.there)
    ended ReadFault are legal ends = ends.unfit (first_told told (length es) ends.there)
    ended WriteFault are legal ends = ends.unfit (first_told told (length es) ends.there)
    ended (Audit audit.NoMemory) are legal ends = ends.unfit (first_told told (length es) ends.there)
    ended (Audit (audit.WrongReply p)) are legal ends = absurd (ends.unfit (first_told told (length es) ends.there))
    ended (Audit (audit.StrangeCaller p)) are legal ends =
        let at = (ends.unfit (first_told told (length es) ends.there)).0 in
        bad_at _ p at are legal ends.there
        (λ d. subst (λ n. ((slice_index_or told (length es) d).place ≡ n) × (IsUndealt workers ts (slice_index_or told (length es) d) ⊎ IsLate (next_of (take n told)) (slice_index_or told (length es) d))) (sym at) ((ends.unfit d).1, (ends.unfit d).2))
    ended (MissingEntry p) are legal ends =
        let at = (ends.unfit (first_told told (length es) ends.there)).0 in
        bad_at (λ t. t.place ≢ p) p at are legal ends.there (λ d. subst (λ n. (slice_index_or told (length es) d).place ≢ n) (sym at) (ends.unfit d).1)
