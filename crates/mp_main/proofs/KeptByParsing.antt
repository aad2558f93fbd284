-- If each use of an argument keeps a property, a parse that finds no fault keeps it.
use Rattle.std.proofs.Common.{◌≡◌, ◌&&◌, ℕ, Bool, cond, true, false, zero, suc, refl, subst, arith, List, [], ◌∷◌, length, drop}
use Rattle.std.proofs.Common.{Option, Some, None, is_some}
use Rattle.std.specs.Prelude.{encode_utf8, slice_get, fold}
use Rattle.std.specs.List.{find}
use Rattle.std.specs.Option.{option_map_or}
use Rattle.std.specs.Str.{bytes_eq, chars}
use Rattle.clap.specs.Lexer.{long_of, short_of}
use Rattle.clap.specs.Walk.{Held, Names, Outcome, Row, Rule, Step, Text, Waiting, Walk, after_flag, after_step, arg_by_id}
use Rattle.clap.specs.Walk.{arg_by_index, arg_by_long, arg_by_short, attached_value, bundle_met, bundle_step, done, flag_met}
use Rattle.clap.specs.Walk.{is_pending, long_met, long_or_other, next, option, option_met, option_word, plain, plain_word}
use Rattle.clap.specs.Walk.{positional, reacted, refused, settled, settled_rows, short_met, short_or_plain, subcommand}
use Rattle.clap.specs.Walk.{subcommand_met, subcommand_or_other, takes_several, takes_values, to_positional, trailing, used}
use Rattle.clap.specs.Walk.{used_by_id, value, waits, walked, walked_from, with_default, word_met, idle}
use Rattle.clap.specs.Walk.{nothing_held, rows_after, walk, walk_from}
use Rattle.clap.specs.Simple.{Shape}
use Rattle.clap.specs.Kinds.{Kinds, or_else}
use Rattle.clap.specs.Faults.{bundle_fault, bundle_step_fault, default_fault, defaults_fault, flag_word_fault, flags_fault}
use Rattle.clap.specs.Faults.{long_fault, option_fault, other_fault, positional_fault, react_fault, settle_fault, short_fault}
use Rattle.clap.specs.Faults.{check_fault, level_fault, step_fault, turn_fault, use_fault, walk_fault, word_fault, stray_fault}
use Rattle.clap.specs.declared.error.kind.ErrorKind.{ErrorKind}
use Rattle.clap.specs.declared.error.kind.ErrorKind.TheVariants.{TooManyValues}

pub not_none : {C : Type 0} (k : ErrorKind) (ks : Kinds) → k ∷ ks ≡ [] → C
not_none k ks e =
    let n : suc (length ks) ≡ 0 = cc in
    absurd (omega arith)

-- neither step has a fault
pub both_none : (a b : Kinds) → or_else a b ≡ [] → (a ≡ []) × (b ≡ [])
both_none [] b e = (refl, e)
both_none (k ∷ ks) b e = not_none k ks e

-- each item has the property
abbrev pub Each : {X : Type 0} → (X → Type 0) → List X → Type 0
Each Q [] = Unit {0}
Each Q (x ∷ xs) = Q x × Each Q xs

pub found_has : {X : Type 0} (Q : X → Type 0) (p : X → Bool) (xs : List X) (x : X) → Each Q xs → find p xs ≡ Some x → Q x
found_has Q p [] x all is =
    let bad : false ≡ true = cc in
    cc
found_has {X} Q p (y ∷ ys) x all is = go (p y) is (found_has Q p ys x all.1)
  where
    go : (b : Bool) → cond b (Some y) (find p ys) ≡ Some x → (find p ys ≡ Some x → Q x) → Q x
    go true e more =
        let same : y ≡ x = cc in
        subst Q same all.0
    go false e more = more e

-- a use without a fault keeps the property of the rows, and so does a default
abbrev pub KeepsUse : Bool → (List Row → Type 0) → Rule → Type 0
KeepsUse again P a = (values : List Text) (rows : List Row) → use_fault again a values rows ≡ [] → P rows
    → P (used a values rows)

abbrev pub KeepsDefault : (List Row → Type 0) → Rule → Type 0
KeepsDefault P a = (rows : List Row) → default_fault rows a ≡ [] → P rows → P (with_default rows a)

module _ (s : Shape) (P : List Row → Type 0) (keeps : Each (KeepsUse s.args_override_self P) s.rules) where
  abbrev again : Bool
  again = s.args_override_self

  abbrev c : List Rule
  c = s.rules

  -- a rule that is found keeps it
  kept : (p : Rule → Bool) (a : Rule) → find p c ≡ Some a → KeepsUse again P a
  kept p a is = found_has (KeepsUse again P) p c a keeps is

  settled_rows_keep : (pending : Option (Text × List Text)) (rows : List Row)
      → option_map_or (λ p. option_map_or (λ a. use_fault again a p.1 rows) (arg_by_id c p.0) []) pending [] ≡ [] → P rows
      → P (settled_rows c pending rows)
  settled_rows_keep None rows none h = h
  settled_rows_keep (Some p) rows none h = go (arg_by_id c p.0) refl none
    where
      go : (o : Option Rule) → arg_by_id c p.0 ≡ o → option_map_or (λ a. use_fault again a p.1 rows) o [] ≡ []
          → P (used_by_id o p.1 rows)
      go None is n = h
      go (Some a) is n = kept _ a is p.1 rows n h

  settle_keeps : (h : Held) → settle_fault c again h ≡ [] → P h.rows → P (settled c h).rows
  settle_keeps h none p = settled_rows_keep h.pending h.rows none p

  react_keeps : (a : Rule) → KeepsUse again P a → (values : List Text) (h : Held) → react_fault c again a values h ≡ []
      → P h.rows → P (reacted c a values h).rows
  react_keeps a keep values h none p =
      let n = both_none (settle_fault c again h) _ none in
      keep values (settled c h).rows n.1 (settle_keeps h n.0 p)

  option_keeps : (a : Rule) → KeepsUse again P a → (v : Option Text) (h : Held) → option_fault c again a v h ≡ []
      → P h.rows → P (option_met c a v h).0.rows
  option_keeps a keep None h none p = settle_keeps h none p
  option_keeps a keep (Some v) h none p = react_keeps a keep (v ∷ []) h none p

  long_keeps : (o : Option Rule) (v : Option Text) (h : Held) → ((a : Rule) → o ≡ Some a → KeepsUse again P a)
      → long_fault c again o v h ≡ [] → P h.rows → P (long_met c o v h).0.rows
  long_keeps None v h keep none p = p
  long_keeps (Some a) v h keep none p = go (takes_values a) v none
    where
      go : (b : Bool) (v : Option Text) → cond b (option_fault c again a v h)
          (cond (is_some v) (TooManyValues ∷ []) (react_fault c again a [] h)) ≡ []
          → P (cond b (option_met c a v h) (flag_met c a v h)).0.rows
      go true v n = option_keeps a (keep a refl) v h n p
      go false None n = react_keeps a (keep a refl) [] h n p
      go false (Some v) n = p

  short_keeps : (o : Option Rule) (rest : Text) (h : Held) (next_fault : Held → Kinds) (next_met : Held → Held × Outcome)
      → ((a : Rule) → o ≡ Some a → KeepsUse again P a) → ((g : Held) → next_fault g ≡ [] → P g.rows → P (next_met g).0.rows)
      → short_fault c again o rest h next_fault ≡ [] → P h.rows → P (short_met c o rest h next_met).0.rows
  short_keeps None rest h next_fault next_met keep more none p = p
  short_keeps (Some a) rest h next_fault next_met keep more none p = go (takes_values a) none
    where
      go : (b : Bool) → cond b (option_fault c again a (attached_value rest) h)
          (or_else (react_fault c again a [] h) (next_fault (reacted c a [] h))) ≡ []
          → P (cond b (option_met c a (attached_value rest) h) (next_met (reacted c a [] h))).0.rows
      go true n = option_keeps a (keep a refl) (attached_value rest) h n p
      go false n =
          let m = both_none (react_fault c again a [] h) _ n in
          more (reacted c a [] h) m.1 (react_keeps a (keep a refl) [] h m.0 p)

  step_keeps : (first : Option ℕ) (flags : Text) (skip : ℕ) (so_far : Outcome) (h : Held) (next_fault : Text → ℕ → Held → Kinds)
      (next_met : Text → ℕ → Outcome → Held → Held × Outcome)
      → ((t : Text) (n : ℕ) (o : Outcome) (g : Held) → next_fault t n g ≡ [] → P g.rows → P (next_met t n o g).0.rows)
      → bundle_step_fault c again first flags skip h next_fault ≡ [] → P h.rows
      → P (bundle_step c first flags skip so_far h next_met).0.rows
  step_keeps None flags skip so_far h next_fault next_met more none p = p
  step_keeps (Some x) flags (suc skip) so_far h next_fault next_met more none p =
      more (drop (length (encode_utf8 x)) flags) skip so_far h none p
  step_keeps (Some x) flags zero so_far h next_fault next_met more none p =
      let rest = drop (length (encode_utf8 x)) flags in
      short_keeps (arg_by_short c x) rest h (next_fault rest 0) (next_met rest 0 done)
      (kept _) (λ g. more rest 0 done g) none p

  flags_keep : (k : ℕ) (flags : Text) (skip : ℕ) (so_far : Outcome) (h : Held) → flags_fault c again k flags skip h ≡ []
      → P h.rows
      → P (bundle_met c k flags skip so_far h).0.rows
  unfolding flags_fault bundle_met
  flags_keep zero flags skip so_far h none p = p
  flags_keep (suc k) flags skip so_far h none p =
      step_keeps (slice_get (chars flags) 0) flags skip so_far h (flags_fault c again k) (bundle_met c k)
      (λ t n o g. flags_keep k t n o g) none p

  -- a word that is no flag doesn't change the rows
  plain_keeps : (waiting : Waiting) (word : Text) (h : Held) → P h.rows → P (plain_word c waiting word h).0.rows
  plain_keeps idle word h p = p
  plain_keeps positional word h p = p
  plain_keeps (option id) word h p = go (arg_by_id c id)
    where
      go : (o : Option Rule) → P (option_word o id word h).0.rows
      go None = p
      go (Some a) = p

  after_keeps : (waiting : Waiting) (word : Text) (h : Held) (o : Outcome) → P h.rows → P (after_flag c waiting word h o).0.rows
  after_keeps waiting word h done p = p
  after_keeps waiting word h (waits id) p = p
  after_keeps waiting word h plain p = plain_keeps waiting word h p
  after_keeps waiting word h refused p = plain_keeps waiting word h p

  other_keeps : (waiting : Waiting) (word : Text) (long : Option (Text × Option Text)) (h : Held)
      → flag_word_fault c again long word h ≡ [] → P h.rows → P (long_or_other c waiting word long h).0.rows
  other_keeps waiting word (Some name) h none p =
      after_keeps waiting word _ _ (long_keeps (arg_by_long c name.0) name.1 h (kept _) none p)
  other_keeps waiting word None h none p = go (short_of word) none
    where
      go : (o : Option Text) → option_map_or (λ flags. bundle_fault c again flags h) o [] ≡ []
          → P (short_or_plain c waiting word o h).0.rows
      go None n = plain_keeps waiting word h p
      go (Some flags) n = after_keeps waiting word _ _ (flags_keep (length flags) flags h.skip plain (record h { skip = 0 }) n p)

  word_keeps : (names : Names) (is_trailing : Bool) (waiting : Waiting) (position : ℕ) (word : Text) (h : Held)
      → word_fault s names is_trailing waiting word h ≡ []
      → P h.rows → P (word_met c names is_trailing waiting position word h).0.rows
  word_keeps names true waiting position word h none p = p
  word_keeps names false waiting position word h none p = go (subcommand_met names waiting word) none
    where
      dashes : (b : Bool) → cond b [] (flag_word_fault c again (long_of word) word h) ≡ []
          → P (cond b (h, trailing position) (long_or_other c waiting word (long_of word) h)).0.rows
      dashes true n = p
      dashes false n = other_keeps waiting word (long_of word) h n p

      go : (o : Option Text) → other_fault s o word h ≡ [] → P (subcommand_or_other c o waiting position word h).0.rows
      go (Some name) n = p
      go None n = dashes (bytes_eq word (45 ∷ 45 ∷ [])) n

  positional_keeps : (o : Option Rule) (word : Text) (w : Walk) (h : Held)
      → option_map_or (λ a. positional_fault c again a h) o (stray_fault s) ≡ []
      → P h.rows → P (to_positional c o word w h).held.rows
  positional_keeps None word w h none p = p
  positional_keeps (Some a) word w h none p = go (is_pending a h.pending && takes_several a) none
    where
      go : (b : Bool) → cond b [] (settle_fault c again h) ≡ [] → P (cond b h (settled c h)).rows
      go true n = p
      go false n = settle_keeps h n p

  after_step_keeps : (word : Text) (w : Walk) (h : Held) (step : Step) → step_fault s w.position h step ≡ [] → P h.rows
      → P (after_step c word w h step).held.rows
  after_step_keeps word w h (next waiting) none p = p
  after_step_keeps word w h (trailing position) none p = p
  after_step_keeps word w h (subcommand name) none p = p
  after_step_keeps word w h value none p = positional_keeps (arg_by_index c w.position) word w h none p

  turn_keeps : (names : Names) (w : Walk) (word : Text) → turn_fault s names w word ≡ [] → P w.held.rows
      → P (walked c names w word).held.rows
  unfolding walked
  turn_keeps names w word none p = go w.stopped none
    where
      go : (o : Option (Text × List Text))
          → cond (is_some o) [] (or_else (word_fault s names w.is_trailing w.waiting word w.held)
          (step_fault s w.position (word_met c names w.is_trailing w.waiting w.position word w.held).0
          (word_met c names w.is_trailing w.waiting w.position word w.held).1)) ≡ []
          → P (walked_from c names o w word).held.rows
      go (Some stop) n = p
      go None n =
          let m = both_none (word_fault s names w.is_trailing w.waiting word w.held) _ n in
          let met = word_met c names w.is_trailing w.waiting w.position word w.held in
          after_step_keeps word w met.0 met.1 m.1 (word_keeps names w.is_trailing w.waiting w.position word w.held m.0 p)

  pub walk_keeps : (names : Names) (w : Walk) (words : List Text) → walk_fault s names w words ≡ [] → P w.held.rows
      → P (fold (walked c names) w words).held.rows
  unfolding walk_fault
  walk_keeps names w [] none p = p
  walk_keeps names w (word ∷ rest) none p =
      let n = both_none (turn_fault s names w word) _ none in
      walk_keeps names (walked c names w word) rest n.1 (turn_keeps names w word n.0 p)

  pub settles : (h : Held) → settle_fault c again h ≡ [] → P h.rows → P (settled c h).rows
  settles h none p = settle_keeps h none p

pub defaults_keep : (P : List Row → Type 0) (c : List Rule) (rows : List Row) → Each (KeepsDefault P) c
    → defaults_fault rows c ≡ [] → P rows
    → P (fold with_default rows c)
unfolding defaults_fault
defaults_keep P [] rows keep none p = p
defaults_keep P (a ∷ c) rows keep none p =
    let n = both_none (default_fault rows a) _ none in
    defaults_keep P c (with_default rows a) keep.1 n.1 (keep.0 rows n.0 p)

-- so does a command whose words are accepted
pub level_keeps : (s : Shape) (P : List Row → Type 0) → Each (KeepsUse s.args_override_self P) s.rules
    → Each (KeepsDefault P) s.rules → P [] → (words : List Text) → level_fault s [] nothing_held words false [] ≡ []
    → P (rows_after s.rules [] words) × (check_fault s (rows_after s.rules [] words) false ≡ [])
level_keeps s P uses defaults start words none =
    let end = (walk s.rules [] nothing_held words).held in
    let n = both_none (walk_fault s [] (walk_from nothing_held) words) _ none in
    let m = both_none (settle_fault s.rules s.args_override_self end) _ n.1 in
    let k = both_none (defaults_fault (settled s.rules end).rows s.rules) _ m.1 in
    let at_end = walk_keeps s P uses [] (walk_from nothing_held) words n.0 start in
    (defaults_keep P s.rules (settled s.rules end).rows defaults k.0 (settles s P uses end m.0 at_end), k.1)
