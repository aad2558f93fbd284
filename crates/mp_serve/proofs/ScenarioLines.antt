-- What a conversation takes a scenario's line for.
use Rattle.std.proofs.Common.{◌≡◌, ℕ, Bool, true, false, cond, List, [], ◌∷◌, length, refl, sym, ap, subst, ◌∙◌, arith}
use Rattle.std.specs.Prelude.{◌&&◌, nat_eq, nat_le, nat_lt, codes, Option, None, Some, option_map, option_and_then, unwrap_or}
use Rattle.std.specs.Option.{option_or}
use Rattle.std.specs.Cmp.Lexicographic.{pointwise, bytes_decides}
use Rattle.std.proofs.lemmas.Bool.Decides.{nat_tests}
use Rattle.mp_text.specs.Lines.{is_clean}
use Rattle.mp_text.specs.Words.{words_of}
use Rattle.mp_names.specs.DeclaredTx.{DeclaredTx}
use Rattle.mp_names.specs.Names.{Names, tx_named, has_many}
use Rattle.mp_lines.specs.Lines.{Line, Submit, submit_line, words_line, line_of}
use Rattle.mp_serve.specs.Ask.{Ask, Does, Submits, longest, declares, within, ask_within, words_ask, long_ask, staged_ask, ask_of}

-- ---- options

abbrev pub IsNone : {X : Type 0} → Option X → Type 0
IsNone None = Unit {0}
IsNone (Some x) = ⊥

pub nothing : {X : Type 0} (x : X) → None ≡ Some x → ⊥
nothing x e = subst IsNone e tt

pub same_some : {X : Type 0} (x y : X) → Some x ≡ Some y → x ≡ y
same_some x y e = ap (λ o. unwrap_or o x) e

-- ---- lines that are clean, and no longer than those of a conversation

left : (a b : Bool) → (a && b) ≡ true → a ≡ true
left true b e = refl
left false b e = e

short : (n : ℕ) → nat_le n 4096 ≡ true → nat_lt longest n ≡ false
short n le = grind (arith, nat_tests)

pub is_clean_line : (names : Names) (line : List ℕ) (l : Line) → line_of names line ≡ Some l → (is_clean line ≡ true) × (words_line names (words_of line) ≡ Some l)
unfolding line_of
is_clean_line names line l = by (is_clean line) refl
  where
    by : (b : Bool) → is_clean line ≡ b → cond b (words_line names (words_of line)) None ≡ Some l → (is_clean line ≡ true) × (words_line names (words_of line) ≡ Some l)
    by true is e = (is, e)
    by false is e = absurd (nothing l e)

asked : (names : Names) (most : ℕ) (line : List ℕ) → is_clean line ≡ true
    → ask_of names most line ≡ option_and_then (within names most) (words_ask names line (words_of line))
unfolding ask_of
asked names most line clean =
    ap (λ b. cond b None (option_and_then (within names most) (ask_within names line))) (short (length line) (left (nat_le (length line) 4096) _ clean))
    ∙ ap (λ b. option_and_then (within names most) (cond b (words_ask names line (words_of line)) (long_ask names (words_of line)))) clean

-- there may be a further name
fits : (names : Names) (most : ℕ) (ask : Ask) → has_many names most ≡ false → within names most ask ≡ Some ask
fits names most ask few = by (declares ask)
  where
    by : (b : Bool) → cond (b && has_many names most) None (Some ask) ≡ Some ask
    by true = ap (λ c. cond c None (Some ask)) few
    by false = refl

asked_for : (names : Names) (most : ℕ) (line : List ℕ) (ask : Ask) → is_clean line ≡ true → has_many names most ≡ false
    → words_ask names line (words_of line) ≡ Some ask → ask_of names most line ≡ Some ask
asked_for names most line ask clean few e = asked names most line clean ∙ ap (option_and_then (within names most)) e ∙ fits names most ask few

-- ---- first words

same_word : (word key : List ℕ) → pointwise nat_eq word key ≡ true → word ≡ key
same_word word key is = (bytes_decides word key).0 is

skipped : {X : Type 0} (b : Bool) (x y : X) → b ≡ false → cond b x y ≡ y
skipped b x y e = ap (λ c. cond c x y) e

either : {X : Type 0} (b : Bool) (x y z : X) → x ≡ z → y ≡ z → cond b x y ≡ z
either true x y z p q = p
either false x y z p q = q

-- the first word isn't one with which no line of a scenario begins
differs : (names : Names) (key word : List ℕ) (words : List (List ℕ)) (l : Line) → words_line names (key ∷ words) ≡ None
    → words_line names (word ∷ words) ≡ Some l → pointwise nat_eq word key ≡ false
differs names key word words l none e = by (pointwise nat_eq word key) refl
  where
    by : (b : Bool) → pointwise nat_eq word key ≡ b → pointwise nat_eq word key ≡ false
    by true is = absurd (nothing l (sym none ∙ ap (λ w. words_line names (w ∷ words)) (sym (same_word word key is)) ∙ e))
    by false is = is

-- a line that isn't a submit
pub does_line : (names : Names) (most : ℕ) (line word : List ℕ) (words : List (List ℕ)) (l : Line) → has_many names most ≡ false → words_of line ≡ word ∷ words
    → line_of names line ≡ Some l → pointwise nat_eq word (codes "submit") ≡ false → ask_of names most line ≡ Some (Does l)
does_line names most line word words l few is e other =
    let clean = is_clean_line names line l e in
    let good : words_line names (word ∷ words) ≡ Some l = ap (words_line names) (sym is) ∙ clean.1 in
    asked_for names most line (Does l) clean.0 few
    (
    ap (words_ask names line) is
    ∙ skipped _ _ _ (differs names (codes "bytes") word words l refl good)
    ∙ skipped _ _ _ (differs names (codes "give") word words l refl good)
    ∙ skipped _ _ _ other
    ∙ skipped _ _ _ (differs names (codes "show") word words l refl good)
    ∙ skipped _ _ _ (differs names (codes "check") word words l refl good)
    ∙ skipped _ _ _ (differs names (codes "stats") word words l refl good)
    ∙ skipped _ _ _ (differs names (codes "utxo") word words l refl good)
    ∙ skipped _ _ _ (differs names (codes "adopt") word words l refl good)
    ∙ skipped _ _ _ (differs names (codes "back") word words l refl good)
    ∙ skipped _ _ _ (differs names (codes "stage") word words l refl good)
    ∙ skipped _ _ _ (differs names (codes "unstage") word words l refl good)
    ∙ either (pointwise nat_eq word (codes "sync")) _ _ (Some (Does l)) (ap (λ o. option_or (option_map Does o) (staged_ask words)) e) (
    skipped _ _ _ (differs names (codes "forget") word words l refl good)
    ∙ skipped _ _ _ (differs names (codes "ids") word words l refl good)
    ∙ skipped _ _ _ (differs names (codes "names") word words l refl good)
    ∙ skipped _ _ _ (differs names (codes "reset") word words l refl good)
    ∙ ap (option_map Does) e
    )
    )

pub blank_line : (names : Names) (most : ℕ) (line : List ℕ) (l : Line) → has_many names most ≡ false → words_of line ≡ [] → line_of names line ≡ Some l
    → ask_of names most line ≡ Some (Does l)
blank_line names most line l few is e =
    asked_for names most line (Does l) (is_clean_line names line l e).0 few (ap (words_ask names line) is ∙ ap (option_map Does) e)

-- a submit, with the word that names its transaction
pub record IsSubmit (names : Names) (most : ℕ) (line : List ℕ) (l : Line) : Type 0 where
  pub word : List ℕ
  pub tx : DeclaredTx
  pub words : words_of line ≡ codes "submit" ∷ word ∷ []
  pub named : tx_named word names ≡ Some tx
  pub submit : l ≡ Submit tx.tx
  pub ask : ask_of names most line ≡ Some (Submits word tx.tx)

submits_named : (names : Names) (most : ℕ) (line word : List ℕ) (l : Line) → has_many names most ≡ false → words_of line ≡ codes "submit" ∷ word ∷ [] → is_clean line ≡ true
    → submit_line names (word ∷ []) ≡ Some l → IsSubmit names most line l
submits_named names most line word l few is clean = by (tx_named word names) refl
  where
    by : (o : Option DeclaredTx) → tx_named word names ≡ o → option_map (λ (t : DeclaredTx). Submit t.tx) o ≡ Some l → IsSubmit names most line l
    by None named e = absurd (nothing l e)
    by (Some t) named e = record {
      word = word;
      tx = t;
      words = is;
      named = named;
      submit = sym (same_some (Submit t.tx) l e);
      ask = asked_for names most line (Submits word t.tx) clean few (ap (words_ask names line) is ∙ ap (option_map (λ (t : DeclaredTx). Submits word t.tx)) named);
    }

submits_one : (names : Names) (most : ℕ) (line : List ℕ) (words : List (List ℕ)) (l : Line) → has_many names most ≡ false → words_of line ≡ codes "submit" ∷ words → is_clean line ≡ true
    → submit_line names words ≡ Some l → IsSubmit names most line l
submits_one names most line [] l few is clean e = absurd (nothing l e)
submits_one names most line (word ∷ []) l few is clean e = submits_named names most line word l few is clean e
submits_one names most line (word ∷ other ∷ more) l few is clean e = absurd (nothing l e)

pub submits_line : (names : Names) (most : ℕ) (line word : List ℕ) (words : List (List ℕ)) (l : Line) → has_many names most ≡ false → words_of line ≡ word ∷ words → line_of names line ≡ Some l
    → pointwise nat_eq word (codes "submit") ≡ true → IsSubmit names most line l
submits_line names most line word words l few is e same =
    let clean = is_clean_line names line l e in
    let key : words_of line ≡ codes "submit" ∷ words = is ∙ ap (λ w. w ∷ words) (same_word word (codes "submit") same) in
    submits_one names most line words l few key clean.0 (ap (words_line names) (sym key) ∙ clean.1)
