-- Coin is the least token.
use Rattle.std.proofs.Common.{◌≡◌, ℕ, zero, suc, ℤ, pos, ◌+ℤ◌, true, false, cond, ◌&&◌, List, [], ◌∷◌, length, refl, sym, ap, subst, ◌∙◌, arith}
use Rattle.std.specs.Prelude.{Some, None, nat_lt, ◌==◌, replicate}
use Rattle.std.specs.Option.{unwrap_or}
use Rattle.std.specs.Ordering.{is_lt, is_eq, eq_by_cmp, nat_cmp, ordering_then, ordering_reverse}
use Rattle.std.specs.Cmp.{tied_itself, first_so, second_so}
use Rattle.std.specs.Cmp.Lexicographic.{slice_cmp}
use Rattle.std.specs.FinMap.{find, is_sorted}
use Rattle.std.specs.FinMap.Entries.{below_all}
use Rattle.std.specs.declared.cmp.Ordering.{Ordering}
use Rattle.std.specs.declared.cmp.Ordering.TheVariants.{Less, Equal, Greater}
use Rattle.std.proofs.lemmas.Bool.Decides.{nat_tests}
use Rattle.mp_bundle.specs.declared.token.Token.{Token}
use Rattle.mp_bundle.specs.Token.{coin, token_cmp, same_token}
use Rattle.mp_bundle.specs.Bundle.{TokenEntry, quantity_of, SplitsCoin}
use Rattle.mp_bundle.proofs.Tokens.{token_total, token_exact, same_token-Decides}
use Rattle.mp_bundle.proofs.Search.{equal, not_tied}
use Rattle.mp_bundle.proofs.Faults.{below_from_less}

then_not_less : (o p : Ordering) → is_lt o ≡ false → is_lt p ≡ false → is_lt (ordering_then o p) ≡ false
then_not_less Less p h k = h
then_not_less Equal p h k = k
then_not_less Greater p h k = refl

zero_least : (n : ℕ) → is_lt (nat_cmp n 0) ≡ false
zero_least n =
    let low : nat_lt n 0 ≡ false = grind (arith, nat_tests) in
    ap (λ b. is_lt (cond b Less (cond (n == 0) Equal Greater))) low ∙ elim (n == 0) as (λ b. is_lt (cond b Equal Greater) ≡ false) [ true ↦ refl | false ↦ refl ]

zeros_least : (xs : List ℕ) (n : ℕ) → length xs ≡ n → is_lt (slice_cmp nat_cmp xs (replicate n 0)) ≡ false
zeros_least [] zero e = refl
zeros_least [] (suc n) e = Prim.cc
zeros_least (x ∷ xs) zero e = refl
zeros_least (x ∷ xs) (suc n) e = then_not_less (nat_cmp x 0) _ (zero_least x) (zeros_least xs n (omega arith))

empty_least : (xs : List ℕ) → is_lt (slice_cmp nat_cmp xs []) ≡ false
empty_least [] = refl
empty_least (x ∷ xs) = refl

pub coin_least : (t : Token) → length t.policy ≡ 32 → is_lt (token_cmp t coin) ≡ false
coin_least t e = then_not_less _ _ (zeros_least t.policy 32 e) (empty_least t.name)

above : (o p : Ordering) → o ≡ ordering_reverse p → is_lt p ≡ false → is_eq p ≡ false → o ≡ Less
above o Less e h k = Prim.cc
above o Equal e h k = Prim.cc
above o Greater e h k = e

pub is_coin : (t : Token) → same_token t coin ≡ true → t ≡ coin
is_coin t same = (same_token-Decides t coin).0 same

-- a token that isn't coin doesn't compare equal to it
pub not_coin : (t : Token) → same_token t coin ≡ false → eq_by_cmp token_cmp t coin ≡ false
not_coin t other = not_tied t coin (λ same. let yes = (same_token-Decides t coin).1 same in Prim.cc)

-- a token that is neither coin nor less is greater
above_coin : (t : Token) → is_lt (token_cmp t coin) ≡ false → eq_by_cmp token_cmp t coin ≡ false → token_cmp coin t ≡ Less
above_coin t least other = above _ _ (token_total.antisymm coin t) least other

-- a token that compares equal to coin isn't greater
pub tied_not_above : (q : Token) → eq_by_cmp token_cmp q coin ≡ true → is_lt (token_cmp coin q) ≡ false
tied_not_above q same = ap (λ t. is_lt (token_cmp coin t)) (token_exact q coin (equal _ same)) ∙ ap is_lt (tied_itself token_total coin)

-- entries of tokens greater than coin have no quantity of coin, or of anything below it
pub none_below : (es : List TokenEntry) (q : Token) → below_all token_cmp coin es ≡ true → is_lt (token_cmp coin q) ≡ false → find token_cmp q es ≡ None
none_below [] q below low = refl
none_below (e ∷ es) q below low =
    let other : is_eq (token_cmp q e.0) ≡ false = not_tied q e.0 (λ same. let no = subst (λ t. is_lt (token_cmp coin t) ≡ false) same low in let yes = first_so (is_lt (token_cmp coin e.0)) (below_all token_cmp coin es) below in Prim.cc) in
    ap (λ b. cond b (Some e.1) (find token_cmp q es)) other ∙ none_below es q (second_so _ _ below) low

-- entries of tokens greater than coin have no coin
pub no_coin : (es : List TokenEntry) → below_all token_cmp coin es ≡ true → is_sorted token_cmp es ≡ true → SplitsCoin es (pos 0) es
no_coin es below rising = record {
  rising = ap (λ b. b && is_sorted token_cmp es) below ∙ rising;
  same = λ q. elim (eq_by_cmp token_cmp q coin) as (λ b. eq_by_cmp token_cmp q coin ≡ b → unwrap_or (cond b (Some (pos 0)) (find token_cmp q es)) (pos 0) ≡ quantity_of es q) [
    | true ↦ λ same. sym (ap (λ o. unwrap_or o (pos 0)) (none_below es q below (tied_not_above q same)))
    | false ↦ λ same. refl
  ] refl;
}

-- if the first token is greater than coin, all are
pub all_above : (e : TokenEntry) (es : List TokenEntry) → is_sorted token_cmp (e ∷ es) ≡ true → is_lt (token_cmp e.0 coin) ≡ false → same_token e.0 coin ≡ false → below_all token_cmp coin (e ∷ es) ≡ true
all_above e es rising least other =
    let is_above = above_coin e.0 least (not_coin e.0 other) in
    ap (λ o. is_lt o && below_all token_cmp coin es) is_above ∙ below_from_less coin e.0 es is_above (first_so _ _ rising)

-- a quantity of coin before the entries
pub at_coin : (n : ℤ) (es : List TokenEntry) → quantity_of ((coin, n) ∷ es) coin ≡ n
at_coin n es = ap (λ o. unwrap_or (cond (is_eq o) (Some n) (find token_cmp coin es)) (pos 0)) (tied_itself token_total coin)

pub past_coin : (n : ℤ) (es : List TokenEntry) (q : Token) → eq_by_cmp token_cmp q coin ≡ false → quantity_of ((coin, n) ∷ es) q ≡ quantity_of es q
past_coin n es q other = ap (λ b. unwrap_or (cond b (Some n) (find token_cmp q es)) (pos 0)) other

pub same_beside : (n : ℤ) (es fs : List TokenEntry) (q : Token) → quantity_of es q ≡ quantity_of fs q → quantity_of ((coin, n) ∷ es) q ≡ quantity_of ((coin, n) ∷ fs) q
same_beside n es fs q h =
    elim (eq_by_cmp token_cmp q coin) as (λ b. unwrap_or (cond b (Some n) (find token_cmp q es)) (pos 0) ≡ unwrap_or (cond b (Some n) (find token_cmp q fs)) (pos 0)) [ true ↦ refl | false ↦ h ]

pub adds_beside : (c k : ℤ) (ms os rs : List TokenEntry) (q : Token) → quantity_of rs q ≡ quantity_of ms q +ℤ quantity_of os q → quantity_of ((coin, c +ℤ k) ∷ rs) q ≡ quantity_of ((coin, c) ∷ ms) q +ℤ quantity_of ((coin, k) ∷ os) q
adds_beside c k ms os rs q h =
    elim (eq_by_cmp token_cmp q coin) as (λ b. unwrap_or (cond b (Some (c +ℤ k)) (find token_cmp q rs)) (pos 0) ≡ unwrap_or (cond b (Some c) (find token_cmp q ms)) (pos 0) +ℤ unwrap_or (cond b (Some k) (find token_cmp q os)) (pos 0)) [ true ↦ refl | false ↦ h ]
