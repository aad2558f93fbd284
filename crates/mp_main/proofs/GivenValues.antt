-- What a command whose words are accepted gives for one of its arguments, which takes one value.
use Rattle.std.proofs.Common.{◌≡◌, ◌⊎◌, ◌∙◌, ◌+◌, min, Bool, cond, true, false, true≢false, refl, sym, ap, subst, inl, inr}
use Rattle.std.proofs.Common.{List, [], ◌∷◌, ◌++◌, length, Option, Some, None, is_some, IfSome, IsSomeAnd}
use Rattle.std.specs.Prelude.{slice_get}
use Rattle.std.specs.List.{find}
use Rattle.std.specs.Option.{option_map_or, option_and_then}
use Rattle.std.specs.Str.{bytes_eq}
use Rattle.clap.specs.Facts.{explicit_source}
use Rattle.clap.specs.Values.{Accepts, reading_of, refused_kind}
use Rattle.clap.specs.ValueTests.{accepts}
use Rattle.clap.specs.Walk.{Row, Rule, Text, action_of, at_row, count_of, default_rows, first_of, has_row, more_values, new_count}
use Rattle.clap.specs.Walk.{nothing_held, one_of, reading_by, row_text, rows_after, used_as, with_values, without}
use Rattle.clap.specs.Simple.{Shape}
use Rattle.clap.specs.Takes.{is_given}
use Rattle.clap.specs.Kinds.{Kinds, or_else, range_kinds, value_kinds}
use Rattle.clap.specs.Faults.{check_fault, level_fault, repeat_fault}
use Rattle.clap.specs.declared.builder.action.ArgAction.{ArgAction}
use Rattle.clap.specs.declared.builder.action.ArgAction.TheVariants.{Set, Append, SetTrue, SetFalse, Count, Help, HelpShort}
use Rattle.clap.specs.declared.builder.action.ArgAction.TheVariants.{HelpLong, Version}
use Rattle.clap.specs.declared.builder.value_parser.ValueParser.{ValueParser}
use Rattle.clap.specs.declared.builder.value_parser.Reading.{Reading}
use Rattle.clap.specs.declared.builder.value_parser.Reading.TheVariants.{AsWritten}
use Rattle.clap.specs.declared.parser.matches.ValueSource.{ValueSource}
use Rattle.clap.specs.declared.parser.matches.ValueSource.TheVariants.{CommandLine}
use Rattle.clap.proofs.ValueTestLemmas.{accepts-Accepts}
use Rattle.mp_main.proofs.KeptByParsing.{Each, KeepsDefault, KeepsUse, both_none, found_has, level_keeps, not_none}

each_maps : {X : Type 0} (Q R : X → Type 0) → ((x : X) → Q x → R x) → (xs : List X) → Each Q xs → Each R xs
each_maps Q R so [] q = tt
each_maps Q R so (x ∷ xs) q = (so x q.0, each_maps Q R so xs q.1)

-- what is found passes the test
hit : {X : Type 0} (p : X → Bool) (xs : List X) (x : X) → find p xs ≡ Some x → p x ≡ true
hit p [] x is =
    let bad : false ≡ true = cc in
    cc
hit {X} p (y ∷ ys) x is = go (p y) refl is (hit p ys x)
  where
    go : (b : Bool) → p y ≡ b → cond b (Some y) (find p ys) ≡ Some x → (find p ys ≡ Some x → p x ≡ true) → p x ≡ true
    go true e is more =
        let same : y ≡ x = cc in
        ap p (sym same) ∙ e
    go false e is more = more is

if_so : {X : Type 0} (P : X → Type 0) (o : Option X) → IsSomeAnd o P → IfSome o P
if_so P None h = absurd h
if_so P (Some x) h = h

module _ (id : Text) (parser : ValueParser) (written : reading_of parser ≡ AsWritten) where
  -- the first value passes the parser, and is read as written
  abbrev IsRead : Reading → List Text → Type 0
  IsRead how values = (t : Text) × (slice_get values 0 ≡ Some t) × (accepts false parser t ≡ true) × (how ≡ AsWritten)

  abbrev IsGood : Row → Type 0
  IsGood r = bytes_eq r.id id ≡ true → IsRead r.reading r.values

  abbrev AreGood : List Row → Type 0
  AreGood = Each IsGood

  -- the rule is another argument's, or takes one value that passes the parser
  abbrev taking : Rule → Rule
  taking a = record a {
    id = id;
    action = Some Set;
    range = Some (record { start_inclusive = 1; end_inclusive = 1 });
    defaults = [];
    missing = [];
    parser = Some parser;
    ignore_case = false;
  }

  abbrev pub IsApart : Rule → Type 0
  IsApart a = (bytes_eq a.id id ≡ false) ⊎ (a ≡ taking a)

  both_good : (xs ys : List Row) → AreGood xs → AreGood ys → AreGood (xs ++ ys)
  both_good [] ys p q = q
  both_good (x ∷ xs) ys p q = (p.0, both_good xs ys p.1 q)

  at_row_good : (name : Text) (change : Row → List Row) (missing : List Row) → ((r : Row) → IsGood r → AreGood (change r))
      → AreGood missing → (rows : List Row) → AreGood rows → AreGood (at_row name change missing rows)
  at_row_good name change missing keep new [] p = new
  at_row_good name change missing keep new (r ∷ rs) p =
      go (bytes_eq r.id name) (at_row_good name change missing keep new rs p.1)
    where
      go : (b : Bool) → AreGood (at_row name change missing rs)
          → AreGood (cond b (change r ++ rs) (r ∷ at_row name change missing rs))
      go true more = both_good (change r) rs (keep r p.0) p.1
      go false more = (p.0, more)

  without_good : (name : Text) (rows : List Row) → AreGood rows → AreGood (without name rows)
  without_good name rows p = at_row_good name (λ _. []) [] (λ r g. tt) tt rows p

  longer : (how : Reading) (vs ws : List Text) → IsRead how vs → IsRead how (vs ++ ws)
  longer how [] ws h =
      let bad : false ≡ true = cc in
      cc
  longer how (v ∷ vs) ws h = (h.0, h.1, h.2, h.3)

  with_values_good : (name : Text) (how : Reading) (s : ValueSource) (values : List Text)
      → (bytes_eq name id ≡ true → IsRead how values)
      → (rows : List Row) → AreGood rows → AreGood (with_values name how s values rows)
  with_values_good name how s values new rows p =
      at_row_good name (more_values s values) _ (λ r g. ((λ same. longer r.reading r.values values (g same)), tt)) (new, tt) rows p

  replaced_good : (name : Text) (how : Reading) (s : ValueSource) (values : List Text)
      → (bytes_eq name id ≡ true → IsRead how values)
      → (rows : List Row) → AreGood rows → AreGood (with_values name how s values (without name rows))
  replaced_good name how s values new rows p =
      with_values_good name how s values new (without name rows) (without_good name rows p)

  -- ---- uses and defaults

  other : {C : Type 0} (name : Text) → bytes_eq name id ≡ false → bytes_eq name id ≡ true → C
  other name apart same = absurd (true≢false (sym same ∙ apart))

  count_good : (name : Text) (how : Reading) (values : List Text) → bytes_eq name id ≡ false → (rows : List Row) → AreGood rows
      → AreGood (used_as Count name how values rows)
  count_good name how [] apart rows p =
      at_row_good name (new_count CommandLine (min (count_of name rows + 1) 255)) _
      (λ r g. ((λ same. longer r.reading r.values _ (g same)), tt))
      ((λ same. other name apart same), tt) (without name rows) (without_good name rows p)
  count_good name how (v ∷ vs) apart rows p = replaced_good name how _ (v ∷ vs) (other name apart) rows p

  -- another argument is used
  other_use : (action : ArgAction) (name : Text) (how : Reading) (values : List Text) → bytes_eq name id ≡ false
      → (rows : List Row) → AreGood rows → AreGood (used_as action name how values rows)
  other_use Set name how values apart rows p = replaced_good name how _ values (other name apart) rows p
  other_use SetTrue name how values apart rows p = replaced_good name how _ values (other name apart) rows p
  other_use SetFalse name how values apart rows p = replaced_good name how _ values (other name apart) rows p
  other_use Append name how values apart rows p = with_values_good name how _ values (other name apart) rows p
  other_use Count name how values apart rows p = count_good name how values apart rows p
  other_use Help name how values apart rows p = p
  other_use HelpShort name how values apart rows p = p
  other_use HelpLong name how values apart rows p = p
  other_use Version name how values apart rows p = p

  -- a value without a fault passes
  accepted : {C : Type 0} (v : Text) (more : Kinds) → (accepts false parser v ≡ true → C)
      → or_else (value_kinds false parser v) more ≡ [] → C
  accepted {C} v more then none =
      go (accepts false parser v) refl (both_none (value_kinds false parser v) more none).0
    where
      go : (b : Bool) → accepts false parser v ≡ b → cond b [] (refused_kind parser ∷ []) ≡ [] → C
      go true is n = then is
      go false is n = not_none _ _ n

  own_use : (again : Bool) (a : Rule) → KeepsUse again AreGood (taking a)
  own_use again a [] rows none p = not_none _ _ none
  own_use again a (v ∷ vs) rows none p =
      let given = (both_none (range_kinds 1 1 (length (v ∷ vs))) _ none).1 in
      let values = (both_none (repeat_fault again id rows) _ given).1 in
      replaced_good id (reading_of parser) _ (v ∷ vs) (λ same. accepted v _ (λ ok. (v, refl, ok, written)) values) rows p

  keeps_use : (again : Bool) (a : Rule) → IsApart a → KeepsUse again AreGood a
  keeps_use again a (inl apart) = λ values rows none p. other_use (action_of a) a.id _ _ apart rows p
  keeps_use again a (inr same) = subst (KeepsUse again AreGood) (sym same) (own_use again a)

  other_default : (name : Text) (how : Reading) (values : List Text) → bytes_eq name id ≡ false → (b : Bool) (rows : List Row)
      → AreGood rows → AreGood (cond b rows (default_rows name how values rows))
  other_default name how values apart true rows p = p
  other_default name how [] apart false rows p = p
  other_default name how (v ∷ vs) apart false rows p = with_values_good name how _ (v ∷ vs) (other name apart) rows p

  no_default : (b : Bool) (rows : List Row) → AreGood rows → AreGood (cond b rows rows)
  no_default true rows p = p
  no_default false rows p = p

  keeps_default : (a : Rule) → IsApart a → KeepsDefault AreGood a
  keeps_default a (inl apart) =
      λ rows none p. other_default a.id (reading_by a) a.defaults apart (has_row a.id rows) rows p
  keeps_default a (inr same) =
      subst (KeepsDefault AreGood) (sym same) (λ rows none p. no_default (has_row id rows) rows p)

  -- -- the result of parsing a command

  level_good : (s : Shape) → Each IsApart s.rules → (words : List Text)
      → level_fault s [] nothing_held words false [] ≡ []
      → AreGood (rows_after s.rules [] words) × (check_fault s (rows_after s.rules [] words) false ≡ [])
  level_good s apart words none =
      let uses = each_maps IsApart (KeepsUse s.args_override_self AreGood) (keeps_use s.args_override_self) s.rules apart in
      let defaults = each_maps IsApart (KeepsDefault AreGood) keeps_default s.rules apart in
      level_keeps s AreGood uses defaults tt words none

  row_read : (rows : List Row) (r : Row) → AreGood rows → find (λ r. bytes_eq r.id id) rows ≡ Some r → IsRead r.reading r.values
  row_read rows r good is = found_has IsGood _ rows r good is (hit (λ r. bytes_eq r.id id) rows r is)

  text_passes : (r : Row) → IsRead r.reading r.values → IsSomeAnd (row_text r) (Accepts false parser)
  text_passes r h =
      let is : row_text r ≡ Some h.0 = rw (h.3, h.1) refl in
      subst (λ o. IsSomeAnd o (Accepts false parser)) (sym is) (accepts-Accepts false parser h.0 h.2)

  first_passes : (r : Row) → IsRead r.reading r.values → IsSomeAnd (slice_get r.values 0) (Accepts false parser)
  first_passes r h = subst (λ o. IsSomeAnd o (Accepts false parser)) (sym h.1) (accepts-Accepts false parser h.0 h.2)

  if_read : (text : Row → Option Text) → ((r : Row) → IsRead r.reading r.values → IsSomeAnd (text r) (Accepts false parser))
      → (s : Shape) → Each IsApart s.rules → (words : List Text)
      → level_fault s [] nothing_held words false [] ≡ []
      → IfSome (option_and_then text (find (λ r. bytes_eq r.id id) (rows_after s.rules [] words))) (Accepts false parser)
  if_read text passes s apart words none = go (find (λ r. bytes_eq r.id id) rows) refl
    where
      rows : List Row
      rows = rows_after s.rules [] words

      go : (o : Option Row) → find (λ r. bytes_eq r.id id) rows ≡ o
          → IfSome (option_and_then text o) (Accepts false parser)
      go None is = tt
      go (Some r) is =
          if_so (Accepts false parser) (text r) (passes r (row_read rows r (level_good s apart words none).0 is))

  -- its text, if it has one, passes the parser
  pub if_given : (s : Shape) → Each IsApart s.rules → (words : List Text)
      → level_fault s [] nothing_held words false [] ≡ []
      → IfSome (one_of id (rows_after s.rules [] words)) (Accepts false parser)
  if_given = if_read row_text text_passes

  -- so does its first value
  pub if_first : (s : Shape) → Each IsApart s.rules → (words : List Text)
      → level_fault s [] nothing_held words false [] ≡ []
      → IfSome (first_of id (rows_after s.rules [] words)) (Accepts false parser)
  if_first = if_read (λ r. slice_get r.values 0) first_passes

  -- if it was given, it has a value
  pub where_given : (s : Shape) → Each IsApart s.rules → (words : List Text)
      → level_fault s [] nothing_held words false [] ≡ []
      → (check_fault s (rows_after s.rules [] words) false ≡ [] → is_given id (rows_after s.rules [] words) ≡ true)
      → IsSomeAnd (one_of id (rows_after s.rules [] words)) (Accepts false parser)
      × (is_some (first_of id (rows_after s.rules [] words)) ≡ true)
  where_given s apart words none checked =
      go (find (λ r. bytes_eq r.id id) rows) refl (checked (level_good s apart words none).1)
    where
      rows : List Row
      rows = rows_after s.rules [] words

      go : (o : Option Row) → find (λ r. bytes_eq r.id id) rows ≡ o → option_map_or (λ r. explicit_source r.source) o false ≡ true
          → IsSomeAnd (option_and_then row_text o) (Accepts false parser)
          × (is_some (option_and_then (λ r. slice_get r.values 0) o) ≡ true)
      go None is given = absurd (true≢false (sym given))
      go (Some r) is given =
          let read = row_read rows r (level_good s apart words none).0 is in
          (text_passes r read, ap is_some read.1)
