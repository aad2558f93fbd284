-- Which caller made the entry at which place of a history.
use Rattle.std.proofs.Common.{◌≡◌, ◌≢◌, ℕ, zero, suc, ◌+◌, ◌<◌, ◌≤◌, true, false, cond, List, [], ◌∷◌, ◌++◌, length, get_or, refl, sym, ap, subst, ◌∙◌, arith, not-suc-le-zero, eqb-true}
use Rattle.std.specs.Prelude.{◌==◌, Option, None, Some, option_map, IfSome, IsSomeAnd, slice_get, All}
use Rattle.std.specs.Option.{option_or}
use Rattle.mp_history.specs.Entry.{Entry}
use Rattle.mp_history.specs.Log.{Log, Begins, last_of}
use Rattle.mp_history.proofs.Law.{eqb-refl}
use Rattle.mp_mempool.specs.Pass.{Pass, IsEntryOf, IsOwn}
use Rattle.mp_mempool.specs.Answers.{AreOthers, IsForeign}

-- the caller made the entry at this place
abbrev Own : ℕ → List Entry → ℕ → Type 0
Own c es k = IsSomeAnd (slice_get es k) (λ e. e.caller ≡ c)

-- the entry stays there when the history continues
own-stays : (c : ℕ) (es more : List Entry) (k : ℕ) → Own c es k → Own c (es ++ more) k
own-stays c [] more k h = absurd h
own-stays c (e ∷ es) more zero h = h
own-stays c (e ∷ es) more (suc k) h = own-stays c es more k h

own-within : (c : ℕ) (es : List Entry) (k : ℕ) → Own c es k → k < length es
own-within c [] k h = absurd h
own-within c (e ∷ es) zero h = omega arith
own-within c (e ∷ es) (suc k) h = let n = own-within c es k h in omega (arith, n)

-- an entry of the continuation is there, at a later place
own-behind : (c : ℕ) (xs ys : List Entry) (k : ℕ) (d : Entry) → k < length ys → (get_or ys k d).caller ≡ c → Own c (xs ++ ys) (length xs + k)
own-behind c [] [] k d lt h = absurd (not-suc-le-zero lt)
own-behind c [] (y ∷ ys) zero d lt h = h
own-behind c [] (y ∷ ys) (suc k) d lt h =
    let le : k < length ys = omega (arith, lt) in
    let next : 0 + suc k ≡ suc (0 + k) = omega arith in
    subst (Own c (y ∷ ys)) (sym next) (own-behind c [] ys k d le h)
own-behind c (x ∷ xs) ys k d lt h =
    let next : length (x ∷ xs) + k ≡ suc (length xs + k) = omega arith in
    subst (Own c ((x ∷ xs) ++ ys)) (sym next) (own-behind c xs ys k d lt h)

-- The place of a caller's last entry.

-- given one more entry at the beginning
abbrev with_first : ℕ → Entry → Option ℕ → Option ℕ
with_first c x o = option_or (option_map (λ place. place + 1) o) (cond (c == x.caller) (Some 0) None)

last-one : (c : ℕ) (x : Entry) (es : List Entry) (k : ℕ) (o : Option ℕ) → ((j : ℕ) → o ≡ Some j → Own c es j) → with_first c x o ≡ Some k → Own c (x ∷ es) k
last-one c x es k (Some j) rest e =
    let more : j + 1 ≡ k = cc (e) in
    let at : suc j ≡ k = omega (arith, more) in
    subst (Own c (x ∷ es)) at (rest j refl)
last-one c x es k None rest e = elim (c == x.caller) as (λ b. (c == x.caller) ≡ b → cond b (Some 0) None ≡ Some k → Own c (x ∷ es) k) [
  | true ↦ λ t first. let at : 0 ≡ k = cc (first) in subst (Own c (x ∷ es)) at (sym (eqb-true c x.caller t))
  | false ↦ λ f first. absurd (cc (first))
] refl e

-- the entry at that place is the caller's
last-own : (c : ℕ) (es : List Entry) (k : ℕ) → last_of c es ≡ Some k → Own c es k
last-own c [] k e = absurd (cc (e))
last-own c (x ∷ es) k e = last-one c x es k (last_of c es) (λ j. last-own c es j) e

-- a last place at or after this one
abbrev Reaches : ℕ → Option ℕ → Type 0
Reaches k o = (j : ℕ) × (o ≡ Some j) × (k ≤ j)

reaches-first : (c : ℕ) (x : Entry) (o : Option ℕ) → x.caller ≡ c → Reaches 0 (with_first c x o)
reaches-first c x (Some j) own = (j + 1, refl, omega arith)
reaches-first c x None own =
    let t : (c == x.caller) ≡ true = subst (λ n. (c == n) ≡ true) (sym own) (eqb-refl c) in
    (0, ap (λ b. cond b (Some 0) None) t, omega arith)

reaches-more : (c : ℕ) (x : Entry) (k : ℕ) (o : Option ℕ) → Reaches k o → Reaches (suc k) (with_first c x o)
reaches-more c x k (Some j) r = let e : j ≡ r.0 = cc (r.1) in let le = r.2 in (j + 1, refl, omega (arith, e, le))
reaches-more c x k None r = absurd (cc (r.1))

-- no entry of the caller follows the last one
reaches : (c : ℕ) (es : List Entry) (k : ℕ) → Own c es k → Reaches k (last_of c es)
reaches c [] k h = absurd h
reaches c (x ∷ es) zero h = reaches-first c x (last_of c es) h
reaches c (x ∷ es) (suc k) h = reaches-more c x k (last_of c es) (reaches c es k h)

-- no entry of the continuation is the caller's, if the caller's last entry precedes it
alone : (c : ℕ) (xs ys : List Entry) (o : Option ℕ) → last_of c (xs ++ ys) ≡ o → IfSome o (λ k. k < length xs) → All (λ e. e.caller ≢ c) ys
alone c xs ys None last before k d lt own = let r = reaches c (xs ++ ys) (length xs + k) (own-behind c xs ys k d lt own) in absurd (cc (last, r.1))
alone c xs ys (Some j) last before k d lt own =
    let r = reaches c (xs ++ ys) (length xs + k) (own-behind c xs ys k d lt own) in
    let e : j ≡ r.0 = cc (last, r.1) in
    let le = r.2 in absurd (omega (arith, e, le, before))

own-last-within : (c : ℕ) (es : List Entry) (o : Option ℕ) → IfSome o (Own c es) → IfSome o (λ k. k < length es)
own-last-within c es None own = tt
own-last-within c es (Some k) own = own-within c es k own

-- A pass, and a history that extends what it has seen.

-- if the pass knows its caller's last entry, what the caller hasn't seen is from others
pub others : (c : ℕ) (last : Option ℕ) (front log : Log) → IfSome last (IsEntryOf c front) → (b : Begins front log) → last_of c log.entries ≡ last
    → AreOthers (record { caller = c; last = last; front = front }) b.entries.0
others c last front log own b known =
    let at : last_of c (front.entries ++ b.entries.0) ≡ last = ap (last_of c) b.entries.1 ∙ known in
    record { alone = alone c front.entries b.entries.0 last at (own-last-within c front.entries last own); known = at }

-- the caller's entries stay where they are
pub stays : (c : ℕ) (last : Option ℕ) (front log : Log) → Begins front log → IfSome last (IsEntryOf c front) → IfSome last (IsEntryOf c log)
stays c None front log b own = tt
stays c (Some k) front log b own = subst (λ es. Own c es k) b.entries.1 (own-stays c front.entries b.entries.0 k own)

not_before : (c : ℕ) (last : Option ℕ) (log : Log) (k : ℕ) → IfSome last (IsEntryOf c log) → last_of c log.entries ≡ Some k → last_of c log.entries ≢ last → IfSome last (λ known. known < k)
not_before c None log k own at other = tt
not_before c (Some known) log k own at other =
    let r = reaches c log.entries known own in
    let e : k ≡ r.0 = cc (at, r.1) in
    let le = r.2 in
    let differs : known ≢ k = λ same. other (at ∙ ap Some (sym same)) in omega (arith, e, le, differs)

none_known : (c : ℕ) (last : Option ℕ) (log : Log) → IfSome last (IsEntryOf c log) → last_of c log.entries ≡ None → last_of c log.entries ≡ last
none_known c None log own at = at
none_known c (Some k) log own at = let r = reaches c log.entries k own in absurd (cc (at, r.1))

-- if the last entry isn't the one that the pass knows, the history has an entry that it doesn't know
pub foreign : (c : ℕ) (last : Option ℕ) (front log : Log) → IfSome last (IsEntryOf c front) → Begins front log → last_of c log.entries ≢ last
    → IsForeign (record { caller = c; last = last; front = front }) log
foreign c last front log own b other = elim (last_of c log.entries) as (λ o. last_of c log.entries ≡ o → IsForeign (record { caller = c; last = last; front = front }) log) [
  | None ↦ λ at. absurd (other (none_known c last log (stays c last front log b own) at))
  | Some k ↦ λ at. record { begins = b; place = k; own = last-own c log.entries k at; unknown = not_before c last log k (stays c last front log b own) at other }
] refl

-- the front that a refusal carries
pub foreign_told : (p : Pass) (log front : Log) → IsOwn p → Begins p.front log → last_of p.caller log.entries ≢ p.last → front ≡ log → IsForeign p front
foreign_told p log front own b other same = subst (IsForeign p) (sym same) (foreign p.caller p.last p.front log own b other)
