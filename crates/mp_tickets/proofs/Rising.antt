-- Lists with strictly increasing tickets.
use Rattle.std.proofs.Common.{◌≡◌, ℕ, suc, ◌+◌, ◌<◌, ◌≤◌, Bool, false, cond, List, [], ◌∷◌, ◌++◌, length, Some, None, refl, ap, ◌∙◌, arith}
use Rattle.std.specs.Prelude.{not, ◌==◌, nat_lt}
use Rattle.std.specs.List.{AllByRecursion}
use Rattle.std.proofs.lemmas.Bool.{eq-eqb, ne_eqb, lt-ltb}
use Rattle.std.proofs.lemmas.Bool.Decides.{nat_tests}
use Rattle.std.proofs.lemmas.List.Elements.{filter-append}
use Rattle.mp_tickets.specs.Tickets.{IsRisingFrom, item_at, without, after}

not_under : (a b : ℕ) → b ≤ a → nat_lt a b ≡ false
not_under a b h = grind (arith, nat_tests)

module _ {T : Type 0} where
  pub rising_above : (low : ℕ) (xs : List (ℕ × T)) (e : ℕ × T) (ys : List (ℕ × T)) → IsRisingFrom low (xs ++ e ∷ ys) → low < e.0
  rising_above low [] e ys r = r.0
  rising_above low (x ∷ xs) e ys r = let h = rising_above x.0 xs e ys r.1 in let k = r.0 in omega arith

  pub rising_before : (low : ℕ) (xs : List (ℕ × T)) (e : ℕ × T) (ys : List (ℕ × T)) → IsRisingFrom low (xs ++ e ∷ ys) → AllByRecursion (λ x. x.0 < e.0) xs
  rising_before low [] e ys r = tt
  rising_before low (x ∷ xs) e ys r = (rising_above x.0 xs e ys r.1, rising_before x.0 xs e ys r.1)

  all_above : (low m : ℕ) (ys : List (ℕ × T)) → m ≤ low → IsRisingFrom low ys → AllByRecursion (λ y. m < y.0) ys
  all_above low m [] h r = tt
  all_above low m (y ∷ ys) h r = let k = r.0 in (omega arith, all_above y.0 m ys (omega arith) r.1)

  pub rising_after : (low : ℕ) (xs : List (ℕ × T)) (e : ℕ × T) (ys : List (ℕ × T)) → IsRisingFrom low (xs ++ e ∷ ys) → AllByRecursion (λ y. e.0 < y.0) ys
  rising_after low [] e ys r = all_above e.0 e.0 ys (omega arith) r.1
  rising_after low (x ∷ xs) e ys r = rising_after x.0 xs e ys r.1

  rising_lower : (low m : ℕ) (ys : List (ℕ × T)) → low ≤ m → IsRisingFrom m ys → IsRisingFrom low ys
  rising_lower low m [] h r = tt
  rising_lower low m (y ∷ ys) h r = let k = r.0 in (omega arith, r.1)

  pub rising_without : (low : ℕ) (xs : List (ℕ × T)) (e : ℕ × T) (ys : List (ℕ × T)) → IsRisingFrom low (xs ++ e ∷ ys) → IsRisingFrom low (xs ++ ys)
  rising_without low [] e ys r = let k = r.0 in rising_lower low e.0 ys (omega arith) r.1
  rising_without low (x ∷ xs) e ys r = (r.0, rising_without x.0 xs e ys r.1)

  pub rising_push : (low : ℕ) (xs : List (ℕ × T)) (e : ℕ × T) → IsRisingFrom low xs → AllByRecursion (λ x. x.0 < e.0) xs → low < e.0 → IsRisingFrom low (xs ++ e ∷ [])
  rising_push low [] e r a h = (h, tt)
  rising_push low (x ∷ xs) e r a h = (r.0, rising_push x.0 xs e r.1 a.1 a.0)

  -- strictly increasing tickets below t are fewer than t
  pub few : (low : ℕ) (xs : List (ℕ × T)) (t : ℕ) → IsRisingFrom low xs → AllByRecursion (λ x. x.0 < t) xs → low < t → length xs + low < t
  few low [] t r a h = let none : length {A = ℕ × T} [] ≡ 0 = refl in omega arith
  few low (x ∷ xs) t r a h = let k = r.0 in let rest = few x.0 xs t r.1 a.1 a.0 in let more : length (x ∷ xs) ≡ suc (length xs) = refl in omega arith

  -- no item has the ticket
  abbrev pub HasNot : ℕ → List (ℕ × T) → Type 0
  HasNot t = AllByRecursion (λ e. (e.0 == t) ≡ false)

  pub not_before : (t : ℕ) (xs : List (ℕ × T)) → AllByRecursion (λ x. x.0 < t) xs → HasNot t xs
  not_before t [] a = tt
  not_before t (x ∷ xs) a = let h = a.0 in (ne_eqb x.0 t (λ e. omega arith), not_before t xs a.1)

  pub not_after : (t : ℕ) (xs : List (ℕ × T)) → AllByRecursion (λ x. t < x.0) xs → HasNot t xs
  not_after t [] a = tt
  not_after t (x ∷ xs) a = let h = a.0 in (ne_eqb x.0 t (λ e. omega arith), not_after t xs a.1)

  pub item_at-none : (t : ℕ) (xs : List (ℕ × T)) → HasNot t xs → item_at xs t ≡ None
  item_at-none t [] h = refl
  item_at-none t (x ∷ xs) h = ap (λ (b : Bool). cond b (Some x.1) (item_at xs t)) h.0 ∙ item_at-none t xs h.1

  pub item_at-cut : (xs : List (ℕ × T)) (e : ℕ × T) (ys : List (ℕ × T)) → HasNot e.0 xs → item_at (xs ++ e ∷ ys) e.0 ≡ Some e.1
  item_at-cut [] e ys h = ap (λ (b : Bool). cond b (Some e.1) (item_at ys e.0)) (eq-eqb e.0 e.0 refl)
  item_at-cut (x ∷ xs) e ys h = ap (λ (b : Bool). cond b (Some x.1) (item_at (xs ++ e ∷ ys) e.0)) h.0 ∙ item_at-cut xs e ys h.1

  pub without-none : (t : ℕ) (xs : List (ℕ × T)) → HasNot t xs → without xs t ≡ xs
  without-none t [] h = refl
  without-none t (x ∷ xs) h = ap (λ (b : Bool). cond (not b) (x ∷ without xs t) (without xs t)) h.0 ∙ ap (λ l. x ∷ l) (without-none t xs h.1)

  pub without-cut : (xs : List (ℕ × T)) (e : ℕ × T) (ys : List (ℕ × T)) → HasNot e.0 xs → HasNot e.0 ys → without (xs ++ e ∷ ys) e.0 ≡ xs ++ ys
  without-cut [] e ys h k = ap (λ (b : Bool). cond (not b) (e ∷ without ys e.0) (without ys e.0)) (eq-eqb e.0 e.0 refl) ∙ without-none e.0 ys k
  without-cut (x ∷ xs) e ys h k = ap (λ (b : Bool). cond (not b) (x ∷ without (xs ++ e ∷ ys) e.0) (without (xs ++ e ∷ ys) e.0)) h.0 ∙ ap (λ l. x ∷ l) (without-cut xs e ys h.1 k)

  pub after-append : (t : ℕ) (xs ys : List (ℕ × T)) → after (xs ++ ys) t ≡ after xs t ++ after ys t
  after-append t = filter-append (λ e. nat_lt t e.0)

  pub after-none : (t : ℕ) (xs : List (ℕ × T)) → AllByRecursion (λ x. x.0 ≤ t) xs → after xs t ≡ []
  after-none t [] h = refl
  after-none t (x ∷ xs) h = ap (λ (b : Bool). cond b (x ∷ after xs t) (after xs t)) (not_under t x.0 h.0) ∙ after-none t xs h.1

  pub after-all : (t : ℕ) (xs : List (ℕ × T)) → AllByRecursion (λ x. t < x.0) xs → after xs t ≡ xs
  after-all t [] h = refl
  after-all t (x ∷ xs) h = ap (λ (b : Bool). cond b (x ∷ after xs t) (after xs t)) (lt-ltb t x.0 h.0) ∙ ap (λ l. x ∷ l) (after-all t xs h.1)

  -- all elements up to one that is at most t are at most t
  pub all_up_to : (low t : ℕ) (xs : List (ℕ × T)) (e : ℕ × T) (ys : List (ℕ × T)) → IsRisingFrom low (xs ++ e ∷ ys) → e.0 ≤ t → AllByRecursion (λ x. x.0 ≤ t) (xs ++ e ∷ [])
  all_up_to low t [] e ys r h = (h, tt)
  all_up_to low t (x ∷ xs) e ys r h = let k = rising_above x.0 xs e ys r.1 in (omega arith, all_up_to x.0 t xs e ys r.1 h)
