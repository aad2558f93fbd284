-- Names that are forgotten, one by one.
use Rattle.std.proofs.Common.{◌≡◌, ℕ, ◌+◌, ◌<◌, Bool, true, false, not, cond, List, [], ◌∷◌, ◌++◌, length, take, get_or, refl, sym, ap, ◌∙◌, arith, ◌≤◌}
use Rattle.std.specs.Prelude.{filter, ◌||◌}
use Rattle.std.proofs.lemmas.List.{take_more}
use Rattle.std.proofs.lemmas.List.Elements.{filter_agree}
use Rattle.std.proofs.lemmas.List.Filters.{length-filter_both}
use Rattle.mp_names.specs.declared.names.NamedBinding.{NamedBinding}
use Rattle.mp_names.specs.Reported.{Reported}
use Rattle.mp_names.specs.Names.{Names, is_among, reported_left, without_bindings}
use Rattle.mp_names.specs.Inside.BindingTable.{has_name}
use Rattle.mp_names.proofs.Reporting.{among-append, among_one, left-left, left-none}

twice : (a b c : Bool) (n : NamedBinding) (ns : List NamedBinding) (test : NamedBinding → Bool) → test n ≡ not b → c ≡ (a || b) → filter test (cond (not a) (n ∷ ns) ns) ≡ cond (not c) (n ∷ filter test ns) (filter test ns)
twice true b c n ns test is all = ap (λ d. cond (not d) (n ∷ filter test ns) (filter test ns)) (sym all)
twice false b c n ns test is all = ap (λ d. cond d (n ∷ filter test ns) (filter test ns)) (is ∙ ap not (sym all))

filter-filter : (first second : List (List ℕ)) (ns : List NamedBinding) → filter (λ n. not (is_among second n.name)) (filter (λ n. not (is_among first n.name)) ns) ≡ filter (λ n. not (is_among (first ++ second) n.name)) ns
filter-filter first second [] = refl
filter-filter first second (n ∷ ns) =
    twice (is_among first n.name) (is_among second n.name) (is_among (first ++ second) n.name) n (filter (λ m. not (is_among first m.name)) ns) (λ m. not (is_among second m.name)) refl
    (among-append first second n.name)
    ∙ ap (λ l. cond (not (is_among (first ++ second) n.name)) (n ∷ l) l) (filter-filter first second ns)

pub without-without : (names : Names) (first second : List (List ℕ)) → without_bindings (without_bindings names first) second ≡ without_bindings names (first ++ second)
without-without names first second = λ i. record names { bindings = filter-filter first second names.bindings i; reported = left-left first second names.reported i }

filter-all : (ns : List NamedBinding) → ns ≡ filter (λ n. not (is_among [] n.name)) ns
filter-all [] = refl
filter-all (n ∷ ns) = ap (λ l. n ∷ l) (filter-all ns)

-- none is forgotten
pub without-none : (names : Names) → names ≡ without_bindings names []
without-none names = λ i. record names { bindings = filter-all names.bindings i; reported = left-none names.reported i }

-- one is forgotten
pub without-one : (names : Names) (word : List ℕ) (bindings : List NamedBinding) (reported : Reported) → bindings ≡ filter (λ n. not (has_name word n)) names.bindings → reported ≡ reported_left (word ∷ []) names.reported
    → record names { bindings = bindings; reported = reported } ≡ without_bindings names (word ∷ [])
without-one names word bindings reported bs rs = λ i.
    record names { bindings = (bs ∙ filter_agree (λ (n : NamedBinding). not (has_name word n)) (λ (n : NamedBinding). not (is_among (word ∷ []) n.name)) (λ n. ap not (sym (among_one word n.name))) names.bindings) i; reported = rs i }

-- one more is forgotten
pub without-more : (names before after : Names) (goes : List (List ℕ)) (i : ℕ) (word : List ℕ) → i < length goes → word ≡ get_or goes i word → before ≡ without_bindings names (take i goes)
    → after ≡ without_bindings before (word ∷ []) → after ≡ without_bindings names (take (i + 1) goes)
without-more names before after goes i word lt here so_far gone =
    gone ∙ ap (λ b. without_bindings b (word ∷ [])) so_far ∙ without-without names (take i goes) (word ∷ [])
    ∙ ap (without_bindings names) (ap (λ w. take i goes ++ w ∷ []) here ∙ sym (take_more goes i word lt))

pub without-shorter : (names after : Names) (goes : List (List ℕ)) → after ≡ without_bindings names goes → length after.bindings ≤ length names.bindings
without-shorter names after goes is =
    let left = ap (λ (n : Names). length n.bindings) is in
    let both = length-filter_both (λ (n : NamedBinding). not (is_among goes n.name)) (λ (n : NamedBinding). not (not (is_among goes n.name))) (λ n. refl) names.bindings in omega (arith, left, both)
