-- Items that leave a pool.
use Rattle.std.proofs.Common.{◌≡◌, ◌≢◌, ℕ, ◌+◌, ◌<◌, ◌≤◌, Bool, true, false, cond, List, [], ◌∷◌, ◌++◌, map, length, get_or, take, refl, sym, ap, subst, ◌∙◌, arith}
use Rattle.std.specs.Prelude.{None, Some, not, ◌==◌, ◌||◌, sum_by, All, AllPairs}
use Rattle.std.specs.List.{filter, AllByRecursion}
use Rattle.std.proofs.lemmas.Bool.{eqb-true, eq-eqb, ne_eqb}
use Rattle.std.proofs.lemmas.List.{map-append}
use Rattle.std.proofs.lemmas.List.Folds.{list_any_more}
use Rattle.std.proofs.lemmas.List.Elements.{All-filter, All-map}
use Rattle.std.proofs.lemmas.List.Kept.{AllPairs-filter}
use Rattle.std.proofs.lemmas.Grind.{common_steps}
use Rattle.mp_tx.specs.Transaction.{Transaction}
use Rattle.mp_tx.specs.Spelling.{id_of, size_of}
use Rattle.mp_rules.specs.Checked.{WasValid}
use Rattle.mp_tickets.specs.Tickets.{IsRisingFrom, IsRising, has_ticket, item_at, without}
use Rattle.mp_tickets.proofs.Rising.{rising_after, not_after, without-none, rising_without}
use Rattle.mp_seqpool.specs.ValidatedTx.{ValidatedTx, ticketed}
use Rattle.mp_seqpool.specs.Keep.{transactions, tickets}
use Rattle.mp_seqpool.specs.declared.command.Reply.TheVariants.{Removed, Synced}
use Rattle.mp_seqpool.specs.Prepared.{apart}
use Rattle.mp_seqpool.specs.Inside.Leaving.{bytes_in, AreKnown, lacking, TakesOut, Leaves}
use Rattle.mp_seqpool.proofs.Keeping.{All-unmap, AllPairs-map, AllPairs-unmap}

abbrev Items : Type 0
Items = List (ℕ × ValidatedTx)

-- ---- one item

-- the list, split at the item of the ticket
pub record IsCut {T : Type 0} (t : ℕ) (item : T) (items : List (ℕ × T)) : Type 0 where
  pub front : List (ℕ × T)
  pub back : List (ℕ × T)
  pub all : items ≡ front ++ (t, item) ∷ back
  pub rest : without items t ≡ front ++ back

pub cut : {T : Type 0} (low : ℕ) (items : List (ℕ × T)) (t : ℕ) (item : T) → IsRisingFrom low items → item_at items t ≡ Some item → IsCut t item items
cut low [] t item r e = absurd (let f = e in Prim.cc)
cut low (x ∷ xs) t item r e = elim (x.0 == t) as (λ (b : Bool). (x.0 == t) ≡ b → cond b (Some x.1) (item_at xs t) ≡ Some item → IsCut t item (x ∷ xs)) [
  | true ↦ λ h e.
      let is : x.0 ≡ t = eqb-true x.0 t h in
      let one : x.1 ≡ item = Prim.cc in
      record {
        front = [];
        back = xs;
        all = λ i. (is i, one i) ∷ xs;
        rest = ap (λ (b : Bool). cond (not b) (x ∷ without xs t) (without xs t)) h ∙ without-none t xs (subst (λ n. AllByRecursion (λ e. (e.0 == n) ≡ false) xs) is (not_after x.0 xs (rising_after low [] x xs r)));
      }
  | false ↦ λ h e.
      let more = cut x.0 xs t item r.1 e in
      record {
        front = x ∷ more.front;
        back = more.back;
        all = ap (λ l. x ∷ l) more.all;
        rest = ap (λ (b : Bool). cond (not b) (x ∷ without xs t) (without xs t)) h ∙ ap (λ l. x ∷ l) more.rest;
      }
] refl e

none_there : {T : Type 0} (items : List (ℕ × T)) (t : ℕ) → item_at items t ≡ None → AllByRecursion (λ e. (e.0 == t) ≡ false) items
none_there [] t e = tt
none_there (x ∷ xs) t e = elim (x.0 == t) as (λ (b : Bool). (x.0 == t) ≡ b → cond b (Some x.1) (item_at xs t) ≡ None → ((x.0 == t) ≡ false) × AllByRecursion (λ e. (e.0 == t) ≡ false) xs) [
  | true ↦ λ h e. absurd (let f = e in Prim.cc)
  | false ↦ λ h e. (h, none_there xs t e)
] refl e

-- if there is none, nothing is taken out
pub nothing : {T : Type 0} (items : List (ℕ × T)) (t : ℕ) → item_at items t ≡ None → without items t ≡ items
nothing items t e = without-none t items (none_there items t e)

ticketed-cut : (front : Items) (e : ℕ × ValidatedTx) (back : Items) → ticketed (front ++ e ∷ back) ≡ ticketed front ++ (e.0, e.1.tx) ∷ ticketed back
ticketed-cut front e back = map-append (λ (e : ℕ × ValidatedTx). (e.0, e.1.tx)) front (e ∷ back)

ticketed-joined : (front back : Items) → ticketed (front ++ back) ≡ ticketed front ++ ticketed back
ticketed-joined front back = map-append (λ (e : ℕ × ValidatedTx). (e.0, e.1.tx)) front back

pub transactions-joined : (xs ys : List (ℕ × Transaction)) → transactions (xs ++ ys) ≡ transactions xs ++ transactions ys
transactions-joined xs ys = map-append (λ (i : ℕ × Transaction). i.1) xs ys

sums : (xs ys : List Transaction) (t : Transaction) → sum_by size_of (xs ++ ys) + size_of t ≡ sum_by size_of (xs ++ t ∷ ys)
sums xs ys t = Prim.grind (arith, common_steps)

bytes_cut : (front : Items) (e : ℕ × ValidatedTx) (back : Items) → bytes_in (front ++ back) + size_of e.1.tx ≡ bytes_in (front ++ e ∷ back)
bytes_cut front e back =
    let fs = ticketed front in
    let bs = ticketed back in
    ap (λ l. sum_by size_of l + size_of e.1.tx) (ap transactions (ticketed-joined front back) ∙ transactions-joined fs bs)
    ∙ sums (transactions fs) (transactions bs) e.1.tx
    ∙ sym (ap (sum_by size_of) (ap transactions (ticketed-cut front e back) ∙ transactions-joined fs ((e.0, e.1.tx) ∷ bs)))

-- a test of tickets commutes with the view of the items
filtered : (p : ℕ → Bool) (items : Items) → ticketed (filter (λ e. p e.0) items) ≡ filter (λ i. p i.0) (ticketed items)
filtered p [] = refl
filtered p (x ∷ xs) = elim (p x.0) as (λ (b : Bool). ticketed (cond b (x ∷ filter (λ e. p e.0) xs) (filter (λ e. p e.0) xs)) ≡ cond b ((x.0, x.1.tx) ∷ filter (λ i. p i.0) (ticketed xs)) (filter (λ i. p i.0) (ticketed xs))) [
  | true ↦ ap (λ l. (x.0, x.1.tx) ∷ l) (filtered p xs)
  | false ↦ filtered p xs
]

pub distinct_filter : (p : ℕ × Transaction → Bool) (items : List (ℕ × Transaction)) → AllPairs (λ a b. a ≢ b) (map id_of (transactions items)) → AllPairs (λ a b. a ≢ b) (map id_of (transactions (filter p items)))
distinct_filter p items h =
    AllPairs-map id_of (λ a b. a ≢ b) (transactions (filter p items)) (AllPairs-map (λ i. i.1) (λ t s. id_of t ≢ id_of s) (filter p items)
    (AllPairs-filter (λ a b. id_of a.1 ≢ id_of b.1) p items
    (AllPairs-unmap (λ i. i.1) (λ t s. id_of t ≢ id_of s) items (AllPairs-unmap id_of (λ a b. a ≢ b) (transactions items) h))))

distinct_left : (p : ℕ → Bool) (items : Items) → AllPairs (λ a b. a ≢ b) (map id_of (transactions (ticketed items))) → AllPairs (λ a b. a ≢ b) (map id_of (transactions (ticketed (filter (λ e. p e.0) items))))
distinct_left p items h =
    subst (λ l. AllPairs (λ a b. a ≢ b) (map id_of (transactions l))) (sym (filtered p items)) (distinct_filter (λ i. p i.0) (ticketed items) h)

-- an item is taken out
pub taken_known : (items : Items) (t : ℕ) (item : ValidatedTx) → item_at items t ≡ Some item → AreKnown items → AreKnown (without items t)
taken_known items t item at known =
    let c = cut 0 items t item known.rising at in
    record {
      rising = subst IsRising (sym c.rest) (rising_without 0 c.front (t, item) c.back (subst IsRising c.all known.rising));
      distinct = distinct_left (λ n. not (n == t)) items known.distinct;
    }

pub taken_bytes : (items : Items) (t : ℕ) (item : ValidatedTx) → item_at items t ≡ Some item → IsRising items → bytes_in (without items t) + size_of item.tx ≡ bytes_in items
taken_bytes items t item at rising =
    let c = cut 0 items t item rising at in
    ap (λ l. bytes_in l + size_of item.tx) c.rest ∙ bytes_cut c.front (t, item) c.back ∙ sym (ap bytes_in c.all)

-- ---- all of them

swapped : (a b : ℕ) → (a == b) ≡ (b == a)
swapped a b = elim (a == b) as (λ (v : Bool). (a == b) ≡ v → v ≡ (b == a)) [
  | true ↦ λ h. sym (eq-eqb b a (sym (eqb-true a b h)))
  | false ↦ λ h. sym (ne_eqb b a (λ e. absurd (let f = sym h ∙ eq-eqb a b (sym e) in Prim.cc)))
] refl

-- the items without those with these tickets
abbrev pub less : {T : Type 0} → List ℕ → List (ℕ × T) → List (ℕ × T)
less gone items = filter (λ e. not (has_ticket gone e.0)) items

pub step : {T : Type 0} (gone : List ℕ) (t : ℕ) (items : List (ℕ × T)) (more : List ℕ) → ((n : ℕ) → has_ticket more n ≡ (has_ticket gone n || (t == n))) → without (less gone items) t ≡ less more items
step gone t [] more is = refl
step gone t (x ∷ xs) more is =
    let rest = step gone t xs more is in
    elim (has_ticket gone x.0) as (λ (b : Bool). has_ticket more x.0 ≡ (b || (t == x.0)) → without (cond (not b) (x ∷ less gone xs) (less gone xs)) t ≡ cond (not (has_ticket more x.0)) (x ∷ less more xs) (less more xs)) [
      | true ↦ λ h. rest ∙ sym (ap (λ (v : Bool). cond (not v) (x ∷ less more xs) (less more xs)) h)
      | false ↦ λ h.
          ap (λ (v : Bool). cond (not v) (x ∷ without (less gone xs) t) (without (less gone xs) t)) (swapped x.0 t ∙ sym h)
          ∙ ap (λ l. cond (not (has_ticket more x.0)) (x ∷ l) l) rest
    ] (is x.0)

-- one more of the tickets
pub step_more : {T : Type 0} (gone : List ℕ) (i d : ℕ) (items : List (ℕ × T)) → i < length gone → without (less (take i gone) items) (get_or gone i d) ≡ less (take (i + 1) gone) items
step_more gone i d items lt = step (take i gone) (get_or gone i d) items (take (i + 1) gone) (λ n. list_any_more (λ t. t == n) gone i d lt)

all_left : (items : Items) → lacking [] items ≡ items
all_left [] = refl
all_left (x ∷ xs) = ap (λ l. x ∷ l) (all_left xs)

pub no_more : (n : ℕ) → n + 0 ≡ n
no_more n = omega arith

pub begins : (items : Items) → AreKnown items → TakesOut [] items items 0
begins items known = record { items = sym (all_left items); known = known; bytes = no_more (bytes_in items) }

chained : (a b c m n : ℕ) → a + m ≡ b → b + n ≡ c → a + (n + m) ≡ c
chained a b c m n h k = omega arith

pub goes_on : (gone : List ℕ) (i : ℕ) (d : ℕ) (old now new : Items) (bytes more : ℕ) → i < length gone → new ≡ without now (get_or gone i d) → AreKnown new → bytes_in new + more ≡ bytes_in now
    → TakesOut (take i gone) old now bytes → TakesOut (take (i + 1) gone) old new (bytes + more)
goes_on gone i d old now new bytes more lt is known counted so_far = record {
  items = is ∙ ap (λ l. without l (get_or gone i d)) so_far.items ∙ step_more gone i d old lt;
  known = known;
  bytes = chained (bytes_in new) (bytes_in now) (bytes_in old) more bytes counted so_far.bytes;
}

-- ---- what a reply names

valid_left : (p : ℕ → Bool) (items : Items) → All (λ e. WasValid e.1.tx e.1.resolved) items → All (λ e. WasValid e.1.tx e.1.resolved) (filter (λ e. p e.0) items)
valid_left p items a = All-filter (λ e. p e.0) (λ (e : ℕ × ValidatedTx). WasValid e.1.tx e.1.resolved) items a

given_left : (p : ℕ → Bool) (items : Items) (n : ℕ) → All (λ k. k ≤ n) (tickets (ticketed items)) → All (λ k. k ≤ n) (tickets (ticketed (filter (λ e. p e.0) items)))
given_left p items n a =
    subst (λ l. All (λ k. k ≤ n) (tickets l)) (sym (filtered p items))
    (All-map (λ k. k ≤ n) (λ i. i.0) (filter (λ i. p i.0) (ticketed items)) (All-filter (λ i. p i.0) (λ i. i.0 ≤ n) (ticketed items) (All-unmap (λ i. i.0) (λ k. k ≤ n) (ticketed items) a)))

left_apart : (gone : List ℕ) (old new : Items) → new ≡ lacking gone old → ticketed new ≡ apart gone (ticketed old)
left_apart gone old new is = ap ticketed is ∙ filtered (λ n. not (has_ticket gone n)) old

pub synced_told : (kept dropped : List ℕ) (old new : Items) (bytes : ℕ) → TakesOut dropped old new bytes → Leaves (Synced kept dropped) old new bytes
synced_told kept dropped old new bytes out = record {
  items = left_apart dropped old new out.items;
  known = out.known;
  bytes = out.bytes;
  valid = λ a. subst (All (λ e. WasValid e.1.tx e.1.resolved)) (sym out.items) (valid_left (λ n. not (has_ticket dropped n)) old a);
  given = λ n a. subst (λ l. All (λ k. k ≤ n) (tickets (ticketed l))) (sym out.items) (given_left (λ n. not (has_ticket dropped n)) old n a);
}

pub removed_told : (named dropped : List ℕ) (old mid new : Items) (bytes more : ℕ) → TakesOut named old mid bytes → TakesOut dropped mid new more → Leaves (Removed named dropped) old new (bytes + more)
removed_told named dropped old mid new bytes more first last = record {
  items = left_apart dropped mid new last.items ∙ ap (apart dropped) (left_apart named old mid first.items);
  known = last.known;
  bytes = chained (bytes_in new) (bytes_in mid) (bytes_in old) more bytes last.bytes first.bytes;
  valid = λ a. subst (All (λ e. WasValid e.1.tx e.1.resolved)) (sym last.items) (valid_left (λ n. not (has_ticket dropped n)) mid (subst (All (λ e. WasValid e.1.tx e.1.resolved)) (sym first.items) (valid_left (λ n. not (has_ticket named n)) old a)));
  given = λ n a. subst (λ l. All (λ k. k ≤ n) (tickets (ticketed l))) (sym last.items) (given_left (λ n. not (has_ticket dropped n)) mid n (subst (λ l. All (λ k. k ≤ n) (tickets (ticketed l))) (sym first.items) (given_left (λ n. not (has_ticket named n)) old n a)));
}
