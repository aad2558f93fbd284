-- Numbers as bytes, lowest first.
use Rattle.std.proofs.Common.{◌≡◌, ℕ, ◌+◌, ◌*◌, ◌/◌, ◌%◌, ◌^◌, ◌<◌, ◌≤◌, List, [], ◌∷◌, ◌++◌, length, take, drop, get_or, arith, zero, suc, refl, ap, ◌∙◌, sym}
use Rattle.std.proofs.Math.ListN.{drop_of_length-le}
use Rattle.std.proofs.Math.Seq.{drop-cons}
use Rattle.std.proofs.lemmas.List.{append-nil, drop-drop, length-drop}
use Rattle.std.proofs.Math.Nat.{pow-suc}
use Rattle.std.specs.Int.{to_le_bytes, w64}
use Rattle.mp_ed25519.specs.Ed25519.{bytes_of, little}

pub little-split : (n : ℕ) (bs : List ℕ) → n ≤ length bs → little bs ≡ little (take n bs) + 256 ^ n * little (drop n bs)
unfolding little
little-split zero bs h = omega arith
little-split (suc n) [] h = omega arith
little-split (suc n) (b ∷ bs) h =
    let less : n ≤ length bs = omega arith in
    let e = little-split n bs less in
    let f : 256 ^ suc n * little (drop n bs) ≡ 256 * (256 ^ n * little (drop n bs)) =
    ap (λ m. m * little (drop n bs)) (pow-suc 256 n) ∙ omega arith in
    omega (arith, e, f)

pub drop-more : (bs : List ℕ) (i j : ℕ) → j ≡ i + 1 → i < length bs → drop i bs ≡ get_or bs i 0 ∷ drop j bs
drop-more bs i j e h =
    let f : suc i ≡ j = omega arith in
    drop-cons bs i 0 h ∙ ap (λ k. get_or bs i 0 ∷ drop k bs) f

little-four : (a b c d : ℕ) (bs : List ℕ) →
    little (take 4 (a ∷ b ∷ c ∷ d ∷ bs)) ≡ a + 256 * b + 65536 * c + 16777216 * d
unfolding little
little-four a b c d bs = omega arith

-- four bytes from an index on
pub little-take4 : (bs : List ℕ) (i : ℕ) → i + 4 ≤ length bs →
    little (take 4 (drop i bs))
    ≡ get_or bs i 0 + 256 * get_or bs (i + 1) 0 + 65536 * get_or bs (i + 2) 0 + 16777216 * get_or bs (i + 3) 0
little-take4 bs i h =
    let e0 = drop-more bs i (i + 1) refl (omega arith) in
    let e1 = drop-more bs (i + 1) (i + 2) (omega arith) (omega arith) in
    let e2 = drop-more bs (i + 2) (i + 3) (omega arith) (omega arith) in
    let e3 = drop-more bs (i + 3) (i + 4) (omega arith) (omega arith) in
    let all : drop i bs ≡ get_or bs i 0 ∷ get_or bs (i + 1) 0 ∷ get_or bs (i + 2) 0 ∷ get_or bs (i + 3) 0 ∷ drop (i + 4) bs =
    e0 ∙ ap (λ l. get_or bs i 0 ∷ l) (e1 ∙ ap (λ l. get_or bs (i + 1) 0 ∷ l) (e2 ∙ ap (λ l. get_or bs (i + 2) 0 ∷ l) e3)) in
    ap (λ l. little (take 4 l)) all ∙ little-four _ _ _ _ (drop (i + 4) bs)

-- n bytes from an index on, and those after them
pub little-drop : (n : ℕ) (bs : List ℕ) (i j : ℕ) → j ≡ i + n → j ≤ length bs →
    little (drop i bs) ≡ little (take n (drop i bs)) + 256 ^ n * little (drop j bs)
little-drop n bs i j e h =
    let long : n ≤ length (drop i bs) = omega (arith, length-drop i bs) in
    let s = little-split n (drop i bs) long in
    let f : drop n (drop i bs) ≡ drop j bs = drop-drop n i bs ∙ ap (λ k. drop k bs) (sym e) in
    s ∙ ap (λ (l : List ℕ). little (take n (drop i bs)) + 256 ^ n * little l) f

pub little-32 : (bs : List ℕ) → length bs ≡ 32 →
    little bs ≡ little (take 8 (drop 0 bs)) + 2 ^ 64 * little (take 8 (drop 8 bs))
    + 2 ^ 128 * little (take 8 (drop 16 bs)) + 2 ^ 192 * little (take 8 (drop 24 bs))
unfolding little
little-32 bs h =
    let all : length bs ≤ 32 = omega arith in
    let none : little (drop 32 bs) ≡ 0 = ap little (drop_of_length-le bs all) in
    omega (
      arith,
      none,
      little-drop 8 bs 0 8 refl (omega arith),
      little-drop 8 bs 8 16 refl (omega arith),
      little-drop 8 bs 16 24 refl (omega arith),
      little-drop 8 bs 24 32 refl (omega arith),
    )

-- the lowest j bytes, then those of the rest
pub bytes_of-append : (j k n r : ℕ) → n < 256 ^ j → bytes_of (j + k) (n + 256 ^ j * r) ≡ bytes_of j n ++ bytes_of k r
unfolding bytes_of
bytes_of-append zero k n r h =
    let e : zero + k ≡ k = omega arith in
    let f : n + 256 ^ 0 * r ≡ r = omega arith in
    ap (λ i. bytes_of i (n + 256 ^ 0 * r)) e ∙ ap (bytes_of k) f
bytes_of-append (suc j) k n r h =
    let e : suc j + k ≡ suc (j + k) = omega arith in
    let pw : 256 ^ suc j * r ≡ 256 * (256 ^ j * r) = ap (λ m. m * r) (pow-suc 256 j) ∙ omega arith in
    let small : n / 256 < 256 ^ j = omega (arith, h, pow-suc 256 j) in
    let low : (n + 256 ^ suc j * r) % 256 ≡ n % 256 = omega (arith, pw) in
    let high : (n + 256 ^ suc j * r) / 256 ≡ n / 256 + 256 ^ j * r = omega (arith, pw) in
    ap (λ i. bytes_of i (n + 256 ^ suc j * r)) e
    ∙ ap (λ b. b ∷ bytes_of (j + k) ((n + 256 ^ suc j * r) / 256)) low
    ∙ ap (λ l. (n % 256) ∷ l) (ap (bytes_of (j + k)) high ∙ bytes_of-append j k (n / 256) r small)

pub bytes_of-words : (a b c d : ℕ) → a < 2 ^ 64 → b < 2 ^ 64 → c < 2 ^ 64 →
    bytes_of 8 a ++ (bytes_of 8 b ++ (bytes_of 8 c ++ bytes_of 8 d))
    ≡ bytes_of 32 (a + 2 ^ 64 * b + 2 ^ 128 * c + 2 ^ 192 * d)
bytes_of-words a b c d ha hb hc =
    let e3 = bytes_of-append 8 8 c d hc in
    let e2 = bytes_of-append 8 16 b (c + 2 ^ 64 * d) hb in
    let e1 = bytes_of-append 8 24 a (b + 2 ^ 64 * (c + 2 ^ 64 * d)) ha in
    let n : a + 2 ^ 64 * (b + 2 ^ 64 * (c + 2 ^ 64 * d)) ≡ a + 2 ^ 64 * b + 2 ^ 128 * c + 2 ^ 192 * d = omega arith in
    sym (ap (bytes_of 32) (sym n) ∙ e1 ∙ ap (λ l. bytes_of 8 a ++ l) (e2 ∙ ap (λ l. bytes_of 8 b ++ l) e3))

-- the bytes of a word
pub to_le_bytes-bytes_of : (n : ℕ) → to_le_bytes w64 n ≡ bytes_of 8 n
unfolding bytes_of
to_le_bytes-bytes_of n =
    let e1 : n / 256 ^ 1 % 256 ≡ n / 256 % 256 = omega arith in
    let e2 : n / 256 ^ 2 % 256 ≡ n / 256 / 256 % 256 = omega arith in
    let e3 : n / 256 ^ 3 % 256 ≡ n / 256 / 256 / 256 % 256 = omega arith in
    let e4 : n / 256 ^ 4 % 256 ≡ n / 256 / 256 / 256 / 256 % 256 = omega arith in
    let e5 : n / 256 ^ 5 % 256 ≡ n / 256 / 256 / 256 / 256 / 256 % 256 = omega arith in
    let e6 : n / 256 ^ 6 % 256 ≡ n / 256 / 256 / 256 / 256 / 256 / 256 % 256 = omega arith in
    let e7 : n / 256 ^ 7 % 256 ≡ n / 256 / 256 / 256 / 256 / 256 / 256 / 256 % 256 = omega arith in
    rw (e1, e2, e3, e4, e5, e6, e7) refl

-- the eight bytes of a word, read one by one before others
word-read : (l r : List ℕ) (n : ℕ) → l ≡ to_le_bytes w64 n →
    get_or l 0 0 ∷ get_or l 1 0 ∷ get_or l 2 0 ∷ get_or l 3 0
    ∷ get_or l 4 0 ∷ get_or l 5 0 ∷ get_or l 6 0 ∷ get_or l 7 0 ∷ r ≡ bytes_of 8 n ++ r
word-read l r n e =
    ap (λ (m : List ℕ). get_or m 0 0 ∷ get_or m 1 0 ∷ get_or m 2 0 ∷ get_or m 3 0
    ∷ get_or m 4 0 ∷ get_or m 5 0 ∷ get_or m 6 0 ∷ get_or m 7 0 ∷ r) e
    ∙ ap (λ (m : List ℕ). m ++ r) (to_le_bytes-bytes_of n)

-- four words, read byte by byte
pub bytes_of-read : (k l m o : List ℕ) (a b c d : ℕ)
    → k ≡ to_le_bytes w64 a → l ≡ to_le_bytes w64 b → m ≡ to_le_bytes w64 c → o ≡ to_le_bytes w64 d
    → a < 2 ^ 64 → b < 2 ^ 64 → c < 2 ^ 64 →
    get_or k 0 0 ∷ get_or k 1 0 ∷ get_or k 2 0 ∷ get_or k 3 0
    ∷ get_or k 4 0 ∷ get_or k 5 0 ∷ get_or k 6 0 ∷ get_or k 7 0
    ∷ get_or l 0 0 ∷ get_or l 1 0 ∷ get_or l 2 0 ∷ get_or l 3 0
    ∷ get_or l 4 0 ∷ get_or l 5 0 ∷ get_or l 6 0 ∷ get_or l 7 0
    ∷ get_or m 0 0 ∷ get_or m 1 0 ∷ get_or m 2 0 ∷ get_or m 3 0
    ∷ get_or m 4 0 ∷ get_or m 5 0 ∷ get_or m 6 0 ∷ get_or m 7 0
    ∷ get_or o 0 0 ∷ get_or o 1 0 ∷ get_or o 2 0 ∷ get_or o 3 0
    ∷ get_or o 4 0 ∷ get_or o 5 0 ∷ get_or o 6 0 ∷ get_or o 7 0 ∷ []
    ≡ bytes_of 32 (a + 2 ^ 64 * b + 2 ^ 128 * c + 2 ^ 192 * d)
bytes_of-read k l m o a b c d ek el em eo ha hb hc =
    word-read k _ a ek
    ∙ ap (λ r. bytes_of 8 a ++ r) (word-read l _ b el
    ∙ ap (λ r. bytes_of 8 b ++ r) (word-read m _ c em
    ∙ ap (λ r. bytes_of 8 c ++ r) (word-read o [] d eo ∙ append-nil (bytes_of 8 d))))
    ∙ bytes_of-words a b c d ha hb hc
