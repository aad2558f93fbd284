-- The files of clients, and that there aren't too many.
use Rattle.std.proofs.Common.{◌≡◌, ◌⊎◌, ◌∙◌, ◌<◌, ◌≤◌, ◌+◌, ◌*◌, ◌/◌, ◌++◌, ℕ, Bool, cond, true, false, zero, suc, refl, sym, ap, subst, arith}
use Rattle.std.proofs.Common.{inl, inr, List, [], ◌∷◌, map, length, drop, get_or}
use Rattle.std.proofs.lemmas.Bool.{le-ltb, lt-ltb, ltb-false}
use Rattle.std.proofs.lemmas.List.{append_assoc, append-nil, length-map, map-append}
use Rattle.std.specs.Prelude.{None, Some, nat_lt, option_map, unwrap_or}
use Rattle.std.specs.Borrow.{Bor}
use Rattle.clap.specs.Kinds.{HasKind, Kinds, or_else}
use Rattle.clap.specs.Matches.{matched_of, raw_values}
use Rattle.clap.specs.Values.{kind_of}
use Rattle.clap.specs.Walk.{Text, all_of, rows_of, texts}
use Rattle.clap.specs.declared.parser.matches.Found.{Found}
use Rattle.clap.proofs.WalkLemmas.{raw_values-rows}
use Rattle.clap.specs.declared.error.Error.{Error}
use Rattle.clap.specs.declared.error.kind.ErrorKind.TheVariants.{OutOfMemory, TooManyValues}
use Rattle.mp_main.specs.declared.command_line.asked.ClientFiles.{ClientFiles}
use Rattle.mp_main.specs.CommandLine.{clients_fault, files_of, pairs_of}
use Rattle.mp_main.proofs.KeptByParsing.{not_none}

-- a fault of the words comes first
pub of_words : (words clients : Kinds) (e : Error) → HasKind words e → HasKind (or_else words clients) e
of_words [] clients e (inl memory) = inl memory
of_words [] clients e (inr other) = absurd other
of_words (k ∷ ks) clients e h = h

pub no_fault : (words clients : Kinds) → words ≡ [] → clients ≡ [] → or_else words clients ≡ []
no_fault words clients none few = ap (λ k. or_else k clients) none ∙ few

-- how many there are is found by counting
module _ (clients : List ClientFiles) (given : List (Text × Text)) (are : map files_of clients ≡ given) where
  counted : length given ≡ length clients
  counted = ap length (sym are) ∙ length-map clients files_of

  pub too_many : (e : Error) → 63 < length clients → (kind_of e ≡ TooManyValues) ⊎ (kind_of e ≡ OutOfMemory)
      → HasKind (clients_fault given) e
  too_many e many is = subst (λ b. HasKind (cond b (TooManyValues ∷ []) []) e) (sym test) (turned is)
    where
      test : nat_lt 63 (length given) ≡ true
      test = lt-ltb 63 (length given) (subst (λ n. 63 < n) (sym counted) many)

      turned : (kind_of e ≡ TooManyValues) ⊎ (kind_of e ≡ OutOfMemory) → HasKind (TooManyValues ∷ []) e
      turned (inl h) = inr (inl h)
      turned (inr h) = inl h

  pub not_many : length clients ≤ 63 → clients_fault given ≡ []
  not_many few = ap (λ b. cond b (TooManyValues ∷ []) []) (le-ltb 63 (length given) (subst (λ n. n ≤ 63) (sym counted) few))

few_clients : (given : List (Text × Text)) → (b : Bool) → nat_lt 63 (length given) ≡ b → cond b (TooManyValues ∷ []) [] ≡ []
    → length given ≤ 63
few_clients given true is none = not_none _ _ none
few_clients given false is none = ltb-false 63 (length given) is

pub are_few : (given : List (Text × Text)) → clients_fault given ≡ [] → length given ≤ 63
are_few given = few_clients given (nat_lt 63 (length given)) refl

-- an error with a kind among none is one of memory
pub of_memory : (given : List (Text × Text)) (e : Error) → length given ≤ 63 → HasKind (clients_fault given) e → kind_of e ≡ OutOfMemory
of_memory given e few h =
    go (subst (λ b. HasKind (cond b (TooManyValues ∷ []) []) e) (le-ltb 63 (length given) few) h)
  where
    go : HasKind [] e → kind_of e ≡ OutOfMemory
    go (inl memory) = memory
    go (inr other) = absurd other

-- ---- the names of the files

-- the texts that clap gives for an option, which may have none
pub given_names : (f : Found) (id : Text) (names : List (Bor Text)) → Some (texts names) ≡ option_map raw_values (matched_of f id)
    → texts names ≡ unwrap_or (all_of id (rows_of f)) []
given_names f id names is = ap (λ o. unwrap_or o []) (is ∙ raw_values-rows f id)

pub no_names : (f : Found) (id : Text) → None ≡ option_map raw_values (matched_of f id) → [] ≡ unwrap_or (all_of id (rows_of f)) []
no_names f id is = ap (λ o. unwrap_or o []) (is ∙ raw_values-rows f id)

-- ---- pairs of names

-- those from one place on
pair_at : (names : List (Bor Text)) (n : ℕ) (d e : Bor Text) → suc n < length names
    → pairs_of (drop n (texts names))
    ≡ ((get_or names n d).now, (get_or names (suc n) e).now) ∷ pairs_of (drop (suc (suc n)) (texts names))
unfolding pairs_of
pair_at [] n d e lt = absurd (omega (arith, lt))
pair_at (x ∷ []) zero d e lt = absurd (omega (arith, lt))
pair_at (x ∷ y ∷ rest) zero d e lt = refl
pair_at (x ∷ rest) (suc n) d e lt = pair_at rest n d e (omega (arith, lt))

pair_from : (names : List (Bor Text)) (n : ℕ) (d e : Bor Text) → n + 1 < length names
    → pairs_of (drop n (texts names))
    ≡ ((get_or names n d).now, (get_or names (n + 1) e).now) ∷ pairs_of (drop (n + 2) (texts names))
pair_from names n d e lt =
    let one : n + 1 ≡ suc n = omega arith in
    let two : n + 2 ≡ suc (suc n) = omega arith in
    rw (one, two) (pair_at names n d e (omega (arith, lt)))

-- at most one is left
none_left : (names : List (Bor Text)) (n : ℕ) → length names ≤ suc n → pairs_of (drop n (texts names)) ≡ []
unfolding pairs_of
none_left [] zero few = refl
none_left [] (suc n) few = refl
none_left (x ∷ []) zero few = refl
none_left (x ∷ y ∷ rest) zero few = absurd (omega (arith, few))
none_left (x ∷ rest) (suc n) few = none_left rest n (omega (arith, few))

-- one more client of the next two names
pub client_more : (names : List (Bor Text)) (n : ℕ) (clients more : List ClientFiles) (d e : Bor Text) (all : List (Text × Text))
    → n + 1 < length names
    → more ≡ clients ++ record { input = get_or names n d; output = get_or names (n + 1) e } ∷ []
    → map files_of clients ++ pairs_of (drop n (texts names)) ≡ all
    → map files_of more ++ pairs_of (drop (n + 2) (texts names)) ≡ all
client_more names n clients more d e all lt is so_far =
    let rest = pairs_of (drop (n + 2) (texts names)) in
    let client : ClientFiles = record { input = get_or names n d; output = get_or names (n + 1) e } in
    ap (λ (cs : List ClientFiles). map files_of cs ++ rest) is
    ∙ ap (λ (ps : List (Text × Text)). ps ++ rest) (map-append files_of clients (client ∷ []))
    ∙ append_assoc (map files_of clients) (files_of client ∷ []) rest
    ∙ ap (λ (ps : List (Text × Text)). map files_of clients ++ ps) (sym (pair_from names n d e lt))
    ∙ so_far

-- no client is left
pub all_clients : (names : List (Bor Text)) (n : ℕ) (clients : List ClientFiles) (all : List (Text × Text))
    → length names ≤ n + 1 → map files_of clients ++ pairs_of (drop n (texts names)) ≡ all → map files_of clients ≡ all
all_clients names n clients all few so_far =
    sym (append-nil (map files_of clients))
    ∙ ap (λ (ps : List (Text × Text)). map files_of clients ++ ps) (sym (none_left names n (omega (arith, few))))
    ∙ so_far
