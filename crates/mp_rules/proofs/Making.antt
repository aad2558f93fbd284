-- The outputs of a valid transaction are new, and their references are distinct.
use Rattle.std.proofs.Common.{◌≡◌, ◌≢◌, ℕ, zero, suc, ◌+◌, ◌<◌, ◌≤◌, Bool, true, false, ◌&&◌, nat_eq, ◌==◌, List, [], ◌∷◌, length, get_or, take, cond, refl, sym, ap, ◌∙◌, arith}
use Rattle.std.specs.Prelude.{Option, Some, None, is_some, slice_get}
use Rattle.std.specs.Option.{option_or}
use Rattle.std.specs.Cmp.Lexicographic.{pointwise}
use Rattle.std.specs.Cmp.{unsigned_Decides}
use Rattle.std.specs.Ordering.{eq_by_cmp}
use Rattle.std.specs.FinMap.{get, insert, get-insert}
use Rattle.mp_tx.specs.declared.reference.OutRef.{OutRef}
use Rattle.mp_tx.specs.declared.output.Output.{Output}
use Rattle.mp_tx.specs.Reference.{ref_cmp}
use Rattle.mp_tx.specs.Transaction.{Transaction}
use Rattle.mp_tx.specs.Spelling.{id_of}
use Rattle.mp_tx.specs.Ledger.{Utxo, with_outputs, AreFree, IsFirstTaken}
use Rattle.mp_tx.proofs.References.{ref_total, same-ties, tied-Decides}
use Rattle.mp_utxo.specs.Apply.{own_ref, output_made}
use Rattle.mp_rules.specs.Block.{made_from, made_by}

-- ---- if all are free, none is taken

free_at : (u : Utxo) (es : List (OutRef × Output)) (place : ℕ) (d : OutRef × Output) → AreFree u es → place < length es → is_some (get (with_outputs u (take place es)) (get_or es place d).0) ≡ false
free_at u [] place d free lt = absurd (omega arith)
free_at u (e ∷ es) zero d free lt = free.0
free_at u (e ∷ es) (suc place) d free lt = free_at (insert u e.0 e.1) es place d free.1 (omega arith)

pub none_taken : (u : Utxo) (es : List (OutRef × Output)) (place : ℕ) → AreFree u es → IsFirstTaken u es place → ⊥
none_taken u es place free taken =
    let r : OutRef = record { id = []; index = 0 } in
    let o : Output = record { address = []; datum_hash = []; value = [] } in
    let no = free_at u es place (r, o) free taken.within in
    let yes = taken.taken (r, o) in
    Prim.cc

-- ---- own references are distinct, so all are free if each is

apart : (t : Transaction) (j k : ℕ) → j ≢ k → eq_by_cmp ref_cmp (own_ref t j) (own_ref t k) ≡ false
apart t j k differ =
    elim (eq_by_cmp ref_cmp (own_ref t j) (own_ref t k)) as (λ b. eq_by_cmp ref_cmp (own_ref t j) (own_ref t k) ≡ b → b ≡ false) [
      | true ↦ λ e. absurd (differ (sym (ap (λ r. r.index) ((tied-Decides (own_ref t j) (own_ref t k)).0 e))))
      | false ↦ λ e. refl
    ] refl

still_new : (u : Utxo) (t : Transaction) (k : ℕ) (o : Output) (j : ℕ) → k < j → get u (own_ref t j) ≡ None → get (insert u (own_ref t k) o) (own_ref t j) ≡ None
still_new u t k o j lt none =
    let differ : j ≢ k = omega arith in
    get-insert ref_total u (own_ref t k) o (own_ref t j)
    ∙ ap (λ b. cond b (Some o) (get u (own_ref t j))) (apart t j k differ)
    ∙ none

made_free : (u : Utxo) (t : Transaction) (k : ℕ) (os : List Output) → ((j : ℕ) → k ≤ j → j < k + length os → get u (own_ref t j) ≡ None) → AreFree u (made_from t k os)
made_free u t k [] new = tt
made_free u t k (o ∷ os) new = (
  ap is_some (new k (omega arith) (omega arith)),
  made_free (insert u (own_ref t k) o) t (k + 1) os (λ j le lt. still_new u t k o j (omega arith) (new j (omega arith) (omega arith))),
)

pub outputs_free : (u : Utxo) (t : Transaction) → ((k : ℕ) → k < length t.outputs → get u (own_ref t k) ≡ None) → AreFree u (made_by t)
outputs_free u t new = made_free u t 0 t.outputs (λ j le lt. new j (omega arith))

-- ---- the output of a reference afterwards

-- the output with this index, if these are the outputs from k on
found : ℕ → List Output → ℕ → Option Output
found k [] i = None
found k (o ∷ os) i = cond (i == k) (Some o) (found (k + 1) os i)

equal_itself : (n : ℕ) → (n == n) ≡ true
equal_itself n = (unsigned_Decides n n).1 refl

unequal : (i k : ℕ) → i ≢ k → (i == k) ≡ false
unequal i k differ = elim (i == k) as (λ b. (i == k) ≡ b → b ≡ false) [ true ↦ λ e. absurd (differ ((unsigned_Decides i k).0 e)) | false ↦ λ e. refl ] refl

found_before : (k : ℕ) (os : List Output) (i : ℕ) → i < k → found k os i ≡ None
unfolding found
found_before k [] i lt = refl
found_before k (o ∷ os) i lt =
    let differ : i ≢ k = omega arith in
    ap (λ b. cond b (Some o) (found (k + 1) os i)) (unequal i k differ) ∙ found_before (k + 1) os i (omega arith)

found_at : (k : ℕ) (os : List Output) (j : ℕ) → found k os (k + j) ≡ slice_get os j
unfolding found
found_at k [] j = refl
found_at k (o ∷ os) zero =
    let same : k + 0 ≡ k = omega arith in
    ap (λ b. cond b (Some o) (found (k + 1) os (k + 0))) (ap (λ n. n == k) same ∙ equal_itself k)
found_at k (o ∷ os) (suc j) =
    let differ : k + suc j ≢ k = omega arith in
    let next : k + suc j ≡ (k + 1) + j = omega arith in
    ap (λ b. cond b (Some o) (found (k + 1) os (k + suc j))) (unequal (k + suc j) k differ)
    ∙ ap (found (k + 1) os) next
    ∙ found_at (k + 1) os j

-- an output comes before those of other references
one_more : (same at : Bool) (o : Output) (later before : Option Output) → (at ≡ true → later ≡ None)
    → option_or (cond same later None) (cond (same && at) (Some o) before) ≡ option_or (cond same (cond at (Some o) later) None) before
one_more true true o later before none = ap (λ l. option_or l (Some o)) (none refl)
one_more true false o later before none = refl
one_more false at o later before none = refl

get-made_from : (t : Transaction) (k : ℕ) (os : List Output) (u : Utxo) (r : OutRef) → get (with_outputs u (made_from t k os)) r ≡ option_or (cond (pointwise nat_eq r.id (id_of t)) (found k os r.index) None) (get u r)
unfolding found
get-made_from t k [] u r = none_made (pointwise nat_eq r.id (id_of t)) (get u r)
  where
    none_made : (b : Bool) (o : Option Output) → o ≡ option_or (cond b None None) o
    none_made true o = refl
    none_made false o = refl
get-made_from t k (o ∷ os) u r =
    get-made_from t (k + 1) os (insert u (own_ref t k) o) r
    ∙ ap (option_or (cond (pointwise nat_eq r.id (id_of t)) (found (k + 1) os r.index) None))
    (get-insert ref_total u (own_ref t k) o r ∙ ap (λ b. cond b (Some o) (get u r)) (sym (same-ties r (own_ref t k))))
    ∙ one_more (pointwise nat_eq r.id (id_of t)) (r.index == k) o (found (k + 1) os r.index) (get u r) (λ e. found_before (k + 1) os r.index (let at = (unsigned_Decides r.index k).0 e in omega arith))

pub get-made : (t : Transaction) (u : Utxo) (r : OutRef) → get (with_outputs u (made_by t)) r ≡ option_or (output_made t r) (get u r)
get-made t u r =
    let index : 0 + r.index ≡ r.index = omega arith in
    get-made_from t 0 t.outputs u r
    ∙ ap (λ o. option_or (cond (pointwise nat_eq r.id (id_of t)) o None) (get u r)) (ap (found 0 t.outputs) (sym index) ∙ found_at 0 t.outputs r.index)
