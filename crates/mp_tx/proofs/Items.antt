-- Reading items one after the other.
use Rattle.std.proofs.Common.{arith, ◌≡◌, ℕ, suc, ◌+◌, ◌-◌, ◌<◌, List, [], ◌∷◌, ◌++◌, Option, None, Some, Ok, Err, refl, sym, ap, subst, ◌∙◌, append_assoc}
use Rattle.mp_bytes.specs.Reading.{◌>>=◌}
use Rattle.mp_tx.specs.declared.fault.TxFault.{TxFault}
use Rattle.std.specs.Prelude.{slice_get, length}
use Rattle.mp_tx.specs.Reading.{Read, items_read, itself}

-- items that are read, after others
abbrev pub behind : {X : Type 0} → List X → Read (List X) → Read (List X)
behind front more = more >>= λ m. Ok (front ++ m.0, m.1)

-- the key of the last item, if there is one
abbrev pub last_key : {K X : Type 0} → (X → K) → Option K → List X → Option K
last_key key before [] = before
last_key key before (x ∷ xs) = last_key key (Some (key x)) xs

pub last_key-push : {K X : Type 0} (key : X → K) (before : Option K) (xs : List X) (x : X) → last_key key before (xs ++ x ∷ []) ≡ Some (key x)
last_key-push key before [] x = refl
last_key-push key before (y ∷ ys) x = last_key-push key (Some (key y)) ys x

-- reading the remaining items, after those that were read, gives what reading all gives
pub record IsOnTheWay {K X : Type 0} (key : X → K) (read : Option K → List ℕ → Read X) (left : ℕ) (all : Read (List X)) (done : List X) (before : Option K) (rest : List ℕ) : Type 0 where
  pub last : before ≡ last_key key None done
  pub same : behind done (items_read key read before left rest) ≡ all

behind-none : {X : Type 0} (more : Read (List X)) → behind [] more ≡ more
behind-none (Ok m) = refl
behind-none (Err e) = refl

after-first : {X : Type 0} (done : List X) (x : X) (more : Read (List X)) → behind done (more >>= λ m. Ok (x ∷ m.0, m.1)) ≡ behind (done ++ x ∷ []) more
after-first done x (Ok m) = ap (λ xs. Ok (xs, m.1)) (sym (append_assoc done (x ∷ []) m.0))
after-first done x (Err e) = refl

one_more : (n k : ℕ) → k < n → n - k ≡ suc (n - (k + 1))
one_more n k lt = omega arith

-- the next item was read
pub goes_on : {K X : Type 0} (key : X → K) (read : Option K → List ℕ → Read X) (n k : ℕ) (all : Read (List X)) (done : List X) (before : Option K) (rest : List ℕ) (x : X) (after : List ℕ) → k < n → IsOnTheWay key read (n - k) all done before rest → read before rest ≡ Ok (x, after) → IsOnTheWay key read (n - (k + 1)) all (done ++ x ∷ []) (Some (key x)) after
goes_on {X = X} key read n k all done before rest x after lt way is = record {
  last = sym (last_key-push key None done x);
  same =
      sym (after-first done x (items_read key read (Some (key x)) (n - (k + 1)) after))
      ∙ ap (λ (r : Read X). behind done (r >>= λ first. items_read key read (Some (key first.0)) (n - (k + 1)) first.1 >>= λ more. Ok (first.0 ∷ more.0, more.1))) (sym is)
      ∙ ap (λ m. behind done (items_read key read before m rest)) (sym (one_more n k lt))
      ∙ way.same;
}

-- the next item has a fault
pub stops : {K X : Type 0} (key : X → K) (read : Option K → List ℕ → Read X) (n k : ℕ) (all : Read (List X)) (done : List X) (before : Option K) (rest : List ℕ) (e : TxFault) → k < n → IsOnTheWay key read (n - k) all done before rest → read before rest ≡ Err e → all ≡ Err e
stops key read n k all done before rest e lt way is =
    sym way.same ∙ ap (λ m. behind done (items_read key read before m rest)) (one_more n k lt)
    ∙ ap (λ r. behind done (r >>= λ first. items_read key read (Some (key first.0)) (n - (k + 1)) first.1 >>= λ more. Ok (first.0 ∷ more.0, more.1))) is

nothing : {X : Type 0} (done : List X) (rest : List ℕ) → behind done (Ok ([], rest)) ≡ Ok (done, rest)
nothing done rest = ap (λ xs. Ok (xs, rest)) (append-nil done)
  where
    append-nil : {X : Type 0} (xs : List X) → xs ++ [] ≡ xs
    append-nil [] = refl
    append-nil (x ∷ xs) = ap (λ ys. x ∷ ys) (append-nil xs)

last_of : {X : Type 0} (before : Option X) (x : X) (xs : List X) → last_key itself before (x ∷ xs) ≡ slice_get (x ∷ xs) (length xs)
last_of before x [] = refl
last_of before x (y ∷ ys) = last_of (Some x) y ys

-- the last item is at the index before the end
pub last_is : {X : Type 0} (xs : List X) → slice_get xs (length xs - 1) ≡ last_key itself None xs
last_is [] = refl
last_is (x ∷ xs) = ap (slice_get (x ∷ xs)) (one_less (length xs)) ∙ sym (last_of None x xs)
  where
    one_less : (n : ℕ) → suc n - 1 ≡ n
    one_less n = omega arith

-- the next item, which is its own key, was read
pub goes_on_last : {X : Type 0} (read : Option X → List ℕ → Read X) (n k : ℕ) (all : Read (List X)) (done : List X) (rest : List ℕ) (x : X) (after : List ℕ) → k < n → IsOnTheWay itself read (n - k) all done (last_key itself None done) rest → read (last_key itself None done) rest ≡ Ok (x, after) → IsOnTheWay itself read (n - (k + 1)) all (done ++ x ∷ []) (last_key itself None (done ++ x ∷ [])) after
goes_on_last read n k all done rest x after lt way is =
    subst (λ b. IsOnTheWay itself read (n - (k + 1)) all (done ++ x ∷ []) b after) (sym (last_key-push itself None done x))
    (goes_on itself read n k all done (last_key itself None done) rest x after lt way is)
