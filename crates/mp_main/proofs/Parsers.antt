-- A command does the same if its arguments get other parsers that accept, refuse and read the same texts.
use Rattle.std.proofs.Common.{◌≡◌, ◌==◌, ◌∙◌, ◌+◌, ◌&&◌, ◌||◌, min, ℕ, Bool, cond, not, true, false, zero, suc, refl, sym, ap, ap₂}
use Rattle.std.proofs.Common.{List, [], ◌∷◌, map, length, drop, Option, Some, None, is_some}
use Rattle.std.specs.Prelude.{encode_utf8, slice_get, fold, nat_le}
use Rattle.std.specs.List.{list_all, list_any}
use Rattle.std.specs.Option.{option_map, option_map_or}
use Rattle.std.specs.Str.{bytes_eq, chars}
use Rattle.clap.specs.Facts.{explicit_source, parser_of_value, unwrap_or_range}
use Rattle.clap.specs.Kinds.{Kinds, check_kinds, or_else, range_kinds, request_kinds}
use Rattle.clap.specs.Lexer.{long_of, short_of}
use Rattle.clap.specs.Matches.{count_text}
use Rattle.clap.specs.Simple.{Shape}
use Rattle.clap.specs.Values.{is_request, reading_of, refused_kind}
use Rattle.clap.specs.ValueTests.{accepts}
use Rattle.clap.specs.Walk.{Held, Names, Outcome, Row, Rule, Step, Text, Waiting, Walk, action_of, after_flag, after_step, arg_by_id}
use Rattle.clap.specs.Walk.{arg_by_index, arg_by_long, arg_by_short, attached_value, bundle_met, bundle_step, count_of, default_rows}
use Rattle.clap.specs.Walk.{done, finished, flag_met, has_long, has_row, has_short, idle, is_empty, is_pending, long_met}
use Rattle.clap.specs.Walk.{long_or_other, most_values, next, nothing_held, option, option_met, option_word}
use Rattle.clap.specs.Walk.{plain, plain_word, positional, pushed, reacted, refused, rows_after, settled, settled_rows, short_met}
use Rattle.clap.specs.Walk.{short_or_plain, subcommand, subcommand_met, subcommand_or_other, takes_several, takes_values}
use Rattle.clap.specs.Walk.{to_positional, trailing, used, used_as, used_by_id, value, values_or_missing, waits, walk, walk_from}
use Rattle.clap.specs.Walk.{walked, walked_from, with_default, word_met}
use Rattle.clap.specs.Takes.{action_passes, bundle_passes, bundle_step_passes, default_passes, flag_word_passes}
use Rattle.clap.specs.Takes.{flags_pass, is_given, is_valid, level_passes, long_passes, option_passes, other_passes, positional_passes}
use Rattle.clap.specs.Takes.{react_passes, settle_passes, short_passes, step_passes, turn_passes, use_passes, values_pass}
use Rattle.clap.specs.Takes.{walk_passes}
use Rattle.clap.specs.Faults.{action_fault, bundle_fault, bundle_step_fault, check_fault, default_fault, defaults_fault}
use Rattle.clap.specs.Faults.{flag_word_fault, flags_fault, level_fault, long_fault, option_fault, other_fault, positional_fault}
use Rattle.clap.specs.Faults.{react_fault, repeat_fault, settle_fault, short_fault, step_fault, stray_fault, turn_fault, use_fault, values_fault}
use Rattle.clap.specs.Faults.{walk_fault}
use Rattle.clap.specs.declared.builder.action.ArgAction.{ArgAction}
use Rattle.clap.specs.declared.builder.action.ArgAction.TheVariants.{Set, Append, SetTrue, SetFalse, Count, Help, HelpShort}
use Rattle.clap.specs.declared.builder.action.ArgAction.TheVariants.{HelpLong, Version}
use Rattle.clap.specs.declared.builder.value_parser.ValueParser.{ValueParser}
use Rattle.clap.specs.declared.error.kind.ErrorKind.TheVariants.{TooManyValues}
use Rattle.std.proofs.lemmas.List.Folds.{list_all-map}
use Rattle.clap.proofs.WalkLemmas.{find-map, list_any-map}

module _ (other : Option ValueParser → Option ValueParser)
    (reads : (p : Option ValueParser) → reading_of (parser_of_value (other p)) ≡ reading_of (parser_of_value p))
    (takes : (i : Bool) (p : Option ValueParser) (t : Text)
    → accepts i (parser_of_value (other p)) t ≡ accepts i (parser_of_value p) t)
    (refuses : (p : Option ValueParser) → refused_kind (parser_of_value (other p)) ≡ refused_kind (parser_of_value p)) where
  abbrev turned : Rule → Rule
  turned a = record a { parser = other a.parser }

  abbrev pub turned_shape : Shape → Shape
  turned_shape s = record s { rules = map turned s.rules }

  -- ---- one use of an argument

  used-same : (a : Rule) (values : List Text) (rows : List Row) → used (turned a) values rows ≡ used a values rows
  used-same a values rows = ap (λ how. used_as (action_of a) a.id how (values_or_missing a values) rows) (reads a.parser)

  used_by_id-same : (o : Option Rule) (values : List Text) (rows : List Row)
      → used_by_id (option_map turned o) values rows ≡ used_by_id o values rows
  used_by_id-same None values rows = refl
  used_by_id-same (Some a) values rows = used-same a values rows

  with_default-same : (a : Rule) (rows : List Row) → with_default rows (turned a) ≡ with_default rows a
  with_default-same a rows = ap (λ how. cond (has_row a.id rows) rows (default_rows a.id how a.defaults rows)) (reads a.parser)

  with_defaults-same : (c : List Rule) (rows : List Row) → fold with_default rows (map turned c) ≡ fold with_default rows c
  with_defaults-same [] rows = refl
  with_defaults-same (a ∷ c) rows = ap (λ start. fold with_default start (map turned c)) (with_default-same a rows)
      ∙ with_defaults-same c (with_default rows a)

  values_fault-same : (a : Rule) (values : List Text) → values_fault (turned a) values ≡ values_fault a values
  values_fault-same a [] = refl
  values_fault-same a (v ∷ values) = ap₂ or_else (ap₂ (λ b k. cond b [] (k ∷ [])) (takes a.ignore_case a.parser v) (refuses a.parser))
      (values_fault-same a values)

  action_fault-same : (x : ArgAction) (again : Bool) (a : Rule) (values : List Text) (rows : List Row)
      → action_fault x again (turned a) values rows ≡ action_fault x again a values rows
  action_fault-same Set again a values rows = ap (or_else (repeat_fault again a.id rows)) (values_fault-same a values)
  action_fault-same SetTrue again a values rows = ap (or_else (repeat_fault again a.id rows)) (values_fault-same a values)
  action_fault-same SetFalse again a values rows = ap (or_else (repeat_fault again a.id rows)) (values_fault-same a values)
  action_fault-same Append again a values rows = values_fault-same a values
  action_fault-same Count again a [] rows =
      ap₂ (λ b k. cond b [] (k ∷ [])) (takes a.ignore_case a.parser (count_text (min (count_of a.id rows + 1) 255))) (refuses a.parser)
  action_fault-same Count again a (v ∷ values) rows = values_fault-same a (v ∷ values)
  action_fault-same Help again a values rows = refl
  action_fault-same HelpShort again a values rows = refl
  action_fault-same HelpLong again a values rows = refl
  action_fault-same Version again a values rows = refl

  use_fault-same : (again : Bool) (a : Rule) (values : List Text) (rows : List Row)
      → use_fault again (turned a) values rows ≡ use_fault again a values rows
  use_fault-same again a values rows =
      ap (or_else (range_kinds (unwrap_or_range a.range).start_inclusive (most_values a) (length values)))
      (action_fault-same (action_of a) again a (values_or_missing a values) rows)

  values_pass-same : (a : Rule) (values : List Text) → values_pass (turned a) values ≡ values_pass a values
  values_pass-same a [] = refl
  values_pass-same a (v ∷ values) = ap₂ ◌&&◌ (takes a.ignore_case a.parser v) (values_pass-same a values)

  action_passes-same : (x : ArgAction) (again : Bool) (a : Rule) (values : List Text) (rows : List Row)
      → action_passes x again (turned a) values rows ≡ action_passes x again a values rows
  action_passes-same Set again a values rows = ap (λ b. (not (has_row a.id rows) || again) && b) (values_pass-same a values)
  action_passes-same SetTrue again a values rows = ap (λ b. (not (has_row a.id rows) || again) && b) (values_pass-same a values)
  action_passes-same SetFalse again a values rows = ap (λ b. (not (has_row a.id rows) || again) && b) (values_pass-same a values)
  action_passes-same Append again a values rows = values_pass-same a values
  action_passes-same Count again a [] rows = takes a.ignore_case a.parser (count_text (min (count_of a.id rows + 1) 255))
  action_passes-same Count again a (v ∷ values) rows = values_pass-same a (v ∷ values)
  action_passes-same Help again a values rows = refl
  action_passes-same HelpShort again a values rows = refl
  action_passes-same HelpLong again a values rows = refl
  action_passes-same Version again a values rows = refl

  use_passes-same : (again : Bool) (a : Rule) (values : List Text) (rows : List Row)
      → use_passes again (turned a) values rows ≡ use_passes again a values rows
  use_passes-same again a values rows = ap (λ b. nat_le (unwrap_or_range a.range).start_inclusive (length values)
      && (nat_le (length values) (most_values a) && b)) (action_passes-same (action_of a) again a (values_or_missing a values) rows)

  module _ (s : Shape) where
    abbrev c : List Rule
    c = s.rules

    abbrev d : List Rule
    d = map turned s.rules

    abbrev again : Bool
    again = s.args_override_self

    by_id : (id : Text) → arg_by_id d id ≡ option_map turned (arg_by_id c id)
    by_id id = sym (find-map (λ a. bytes_eq a.id id) turned c)

    by_long : (name : Text) → arg_by_long d name ≡ option_map turned (arg_by_long c name)
    by_long name = sym (find-map (λ a. not (is_some a.index) && has_long a name) turned c)

    by_short : (x : ℕ) → arg_by_short d x ≡ option_map turned (arg_by_short c x)
    by_short x = sym (find-map (λ a. not (is_some a.index) && has_short a x) turned c)

    by_index : (i : ℕ) → arg_by_index d i ≡ option_map turned (arg_by_index c i)
    by_index i = sym (find-map (λ a. option_map_or (λ k. k == i) a.index false) turned c)

    -- ---- the walk

    settled_rows-same : (o : Option (Text × List Text)) (rows : List Row) → settled_rows d o rows ≡ settled_rows c o rows
    settled_rows-same None rows = refl
    settled_rows-same (Some p) rows = ap (λ o. used_by_id o p.1 rows) (by_id p.0) ∙ used_by_id-same (arg_by_id c p.0) p.1 rows

    settled-same : (h : Held) → settled d h ≡ settled c h
    settled-same h = ap (λ rows. record h { rows = rows; pending = None }) (settled_rows-same h.pending h.rows)

    reacted-same : (a : Rule) (values : List Text) (h : Held) → reacted d (turned a) values h ≡ reacted c a values h
    reacted-same a values h = ap (λ rows. record h { rows = rows; pending = None })
        (used-same a values (settled d h).rows ∙ ap (λ (g : Held). used a values g.rows) (settled-same h))

    option_met-same : (a : Rule) (v : Option Text) (h : Held) → option_met d (turned a) v h ≡ option_met c a v h
    option_met-same a (Some v) h = ap (λ g. (g, done)) (reacted-same a (v ∷ []) h)
    option_met-same a None h = ap (λ (g : Held). (record g { pending = Some (a.id, []) }, waits a.id)) (settled-same h)

    flag_met-same : (a : Rule) (v : Option Text) (h : Held) → flag_met d (turned a) v h ≡ flag_met c a v h
    flag_met-same a (Some v) h = refl
    flag_met-same a None h = ap (λ g. (g, done)) (reacted-same a [] h)

    long_met-same : (o : Option Rule) (v : Option Text) (h : Held) → long_met d (option_map turned o) v h ≡ long_met c o v h
    long_met-same None v h = refl
    long_met-same (Some a) v h = ap₂ (cond (takes_values a)) (option_met-same a v h) (flag_met-same a v h)

    short_met-same : (o : Option Rule) (rest : Text) (h : Held) (one two : Held → Held × Outcome)
        → ((g : Held) → one g ≡ two g) → short_met d (option_map turned o) rest h one ≡ short_met c o rest h two
    short_met-same None rest h one two each = refl
    short_met-same (Some a) rest h one two each = ap₂ (cond (takes_values a)) (option_met-same a (attached_value rest) h)
        (each (reacted d (turned a) [] h) ∙ ap two (reacted-same a [] h))

    bundle_step-same : (first : Option ℕ) (flags : Text) (skip : ℕ) (so_far : Outcome) (h : Held)
        (one two : Text → ℕ → Outcome → Held → Held × Outcome)
        → ((t : Text) (n : ℕ) (o : Outcome) (g : Held) → one t n o g ≡ two t n o g)
        → bundle_step d first flags skip so_far h one ≡ bundle_step c first flags skip so_far h two
    bundle_step-same None flags skip so_far h one two each = refl
    bundle_step-same (Some x) flags (suc skip) so_far h one two each =
        each (drop (length (encode_utf8 x)) flags) skip so_far h
    bundle_step-same (Some x) flags zero so_far h one two each =
        let rest = drop (length (encode_utf8 x)) flags in
        ap (λ o. short_met d o rest h (one rest 0 done)) (by_short x)
        ∙ short_met-same (arg_by_short c x) rest h (one rest 0 done) (two rest 0 done) (each rest 0 done)

    bundle_met-same : (k : ℕ) (flags : Text) (skip : ℕ) (so_far : Outcome) (h : Held)
        → bundle_met d k flags skip so_far h ≡ bundle_met c k flags skip so_far h
    unfolding bundle_met
    bundle_met-same zero flags skip so_far h = refl
    bundle_met-same (suc k) flags skip so_far h = bundle_step-same (slice_get (chars flags) 0) flags skip so_far h
        (bundle_met d k) (bundle_met c k) (bundle_met-same k)

    option_word-same : (o : Option Rule) (id word : Text) (h : Held)
        → option_word (option_map turned o) id word h ≡ option_word o id word h
    option_word-same None id word h = refl
    option_word-same (Some a) id word h = refl

    plain_word-same : (waiting : Waiting) (word : Text) (h : Held) → plain_word d waiting word h ≡ plain_word c waiting word h
    plain_word-same idle word h = refl
    plain_word-same positional word h = refl
    plain_word-same (option id) word h = ap (λ (m : Held × Waiting). (m.0, next m.1))
        (ap (λ o. option_word o id word h) (by_id id) ∙ option_word-same (arg_by_id c id) id word h)

    after_flag-same : (waiting : Waiting) (word : Text) (h : Held) (o : Outcome)
        → after_flag d waiting word h o ≡ after_flag c waiting word h o
    after_flag-same waiting word h done = refl
    after_flag-same waiting word h (waits id) = refl
    after_flag-same waiting word h plain = plain_word-same waiting word h
    after_flag-same waiting word h refused = plain_word-same waiting word h

    after_flag_word-same : {m n : Held × Outcome} (waiting : Waiting) (word : Text) → m ≡ n
        → after_flag d waiting word m.0 m.1 ≡ after_flag c waiting word n.0 n.1
    after_flag_word-same {n = n} waiting word same =
        ap (λ (m : Held × Outcome). after_flag d waiting word m.0 m.1) same ∙ after_flag-same waiting word n.0 n.1

    short_or_plain-same : (waiting : Waiting) (word : Text) (o : Option Text) (h : Held)
        → short_or_plain d waiting word o h ≡ short_or_plain c waiting word o h
    short_or_plain-same waiting word None h = plain_word-same waiting word h
    short_or_plain-same waiting word (Some flags) h = after_flag_word-same waiting word
        (bundle_met-same (length flags) flags h.skip plain (record h { skip = 0 }))

    long_or_other-same : (waiting : Waiting) (word : Text) (o : Option (Text × Option Text)) (h : Held)
        → long_or_other d waiting word o h ≡ long_or_other c waiting word o h
    long_or_other-same waiting word None h = short_or_plain-same waiting word (short_of word) h
    long_or_other-same waiting word (Some p) h = after_flag_word-same waiting word
        (ap (λ o. long_met d o p.1 h) (by_long p.0) ∙ long_met-same (arg_by_long c p.0) p.1 h)

    subcommand_or_other-same : (o : Option Text) (waiting : Waiting) (position : ℕ) (word : Text) (h : Held)
        → subcommand_or_other d o waiting position word h ≡ subcommand_or_other c o waiting position word h
    subcommand_or_other-same (Some name) waiting position word h = refl
    subcommand_or_other-same None waiting position word h =
        ap (cond (bytes_eq word (45 ∷ 45 ∷ [])) (h, trailing position)) (long_or_other-same waiting word (long_of word) h)

    word_met-same : (names : Names) (is_trailing : Bool) (waiting : Waiting) (position : ℕ) (word : Text) (h : Held)
        → word_met d names is_trailing waiting position word h ≡ word_met c names is_trailing waiting position word h
    word_met-same names is_trailing waiting position word h = ap (cond is_trailing (h, value))
        (subcommand_or_other-same (subcommand_met names waiting word) waiting position word h)

    to_positional-same : (o : Option Rule) (word : Text) (w : Walk) (h : Held)
        → to_positional d (option_map turned o) word w h ≡ to_positional c o word w h
    to_positional-same None word w h = refl
    to_positional-same (Some a) word w h = ap (λ (g : Held). record (to_positional c (Some a) word w h) {
      held = pushed a.id word (cond (is_pending a h.pending && takes_several a) h g);
    }) (settled-same h)

    after_step-same : (word : Text) (w : Walk) (h : Held) (step : Step) → after_step d word w h step ≡ after_step c word w h step
    after_step-same word w h (next waiting) = refl
    after_step-same word w h (trailing position) = refl
    after_step-same word w h (subcommand name) = refl
    after_step-same word w h value =
        ap (λ o. to_positional d o word w h) (by_index w.position) ∙ to_positional-same (arg_by_index c w.position) word w h

    walked_from-same : (names : Names) (o : Option (Text × List Text)) (w : Walk) (word : Text)
        → walked_from d names o w word ≡ walked_from c names o w word
    walked_from-same names (Some p) w word = refl
    walked_from-same names None w word =
        let met = word_met c names w.is_trailing w.waiting w.position word w.held in
        ap (λ (m : Held × Step). after_step d word w m.0 m.1)
        (word_met-same names w.is_trailing w.waiting w.position word w.held) ∙ after_step-same word w met.0 met.1

    walked-same : (names : Names) (w : Walk) (word : Text) → walked d names w word ≡ walked c names w word
    unfolding walked
    walked-same names w word = walked_from-same names w.stopped w word

    walk-same : (names : Names) (w : Walk) (words : List Text) → fold (walked d names) w words ≡ fold (walked c names) w words
    walk-same names w [] = refl
    walk-same names w (word ∷ words) = ap (λ v. fold (walked d names) v words) (walked-same names w word)
        ∙ walk-same names (walked c names w word) words

    finished-same : (h : Held) → finished d h ≡ finished c h
    finished-same h = ap (λ (g : Held). fold with_default g.rows d) (settled-same h) ∙ with_defaults-same c (settled c h).rows

    pub rows_after-same : (words : List Text) → rows_after d [] words ≡ rows_after c [] words
    rows_after-same words = ap (λ (w : Walk). finished d w.held) (walk-same [] (walk_from nothing_held) words)
        ∙ finished-same (walk c [] nothing_held words).held

    -- ---- its faults

    settle_fault-same : (h : Held) → settle_fault d again h ≡ settle_fault c again h
    settle_fault-same h = go h.pending
      where
        of_rule : (o : Option Rule) (values : List Text)
            → option_map_or (λ a. use_fault again a values h.rows) (option_map turned o) []
            ≡ option_map_or (λ a. use_fault again a values h.rows) o []
        of_rule None values = refl
        of_rule (Some a) values = use_fault-same again a values h.rows

        go : (o : Option (Text × List Text))
            → option_map_or (λ p. option_map_or (λ a. use_fault again a p.1 h.rows) (arg_by_id d p.0) []) o []
            ≡ option_map_or (λ p. option_map_or (λ a. use_fault again a p.1 h.rows) (arg_by_id c p.0) []) o []
        go None = refl
        go (Some p) =
            ap (λ o. option_map_or (λ a. use_fault again a p.1 h.rows) o []) (by_id p.0) ∙ of_rule (arg_by_id c p.0) p.1

    react_fault-same : (a : Rule) (values : List Text) (h : Held)
        → react_fault d again (turned a) values h ≡ react_fault c again a values h
    react_fault-same a values h = ap₂ or_else (settle_fault-same h)
        (use_fault-same again a values (settled d h).rows ∙ ap (λ (g : Held). use_fault again a values g.rows) (settled-same h))

    option_fault-same : (a : Rule) (v : Option Text) (h : Held)
        → option_fault d again (turned a) v h ≡ option_fault c again a v h
    option_fault-same a (Some v) h = react_fault-same a (v ∷ []) h
    option_fault-same a None h = settle_fault-same h

    long_fault-same : (o : Option Rule) (v : Option Text) (h : Held)
        → long_fault d again (option_map turned o) v h ≡ long_fault c again o v h
    long_fault-same None v h = refl
    long_fault-same (Some a) v h = ap₂ (cond (takes_values a)) (option_fault-same a v h)
        (ap (cond (is_some v) (TooManyValues ∷ [])) (react_fault-same a [] h))

    short_fault-same : (o : Option Rule) (rest : Text) (h : Held) (one two : Held → Kinds)
        → ((g : Held) → one g ≡ two g) → short_fault d again (option_map turned o) rest h one ≡ short_fault c again o rest h two
    short_fault-same None rest h one two each = refl
    short_fault-same (Some a) rest h one two each = ap₂ (cond (takes_values a)) (option_fault-same a (attached_value rest) h)
        (ap₂ or_else (react_fault-same a [] h) (each (reacted d (turned a) [] h) ∙ ap two (reacted-same a [] h)))

    bundle_step_fault-same : (first : Option ℕ) (flags : Text) (skip : ℕ) (h : Held) (one two : Text → ℕ → Held → Kinds)
        → ((t : Text) (n : ℕ) (g : Held) → one t n g ≡ two t n g)
        → bundle_step_fault d again first flags skip h one ≡ bundle_step_fault c again first flags skip h two
    bundle_step_fault-same None flags skip h one two each = refl
    bundle_step_fault-same (Some x) flags (suc skip) h one two each = each (drop (length (encode_utf8 x)) flags) skip h
    bundle_step_fault-same (Some x) flags zero h one two each =
        let rest = drop (length (encode_utf8 x)) flags in
        ap (λ o. short_fault d again o rest h (one rest 0)) (by_short x)
        ∙ short_fault-same (arg_by_short c x) rest h (one rest 0) (two rest 0) (each rest 0)

    flags_fault-same : (k : ℕ) (flags : Text) (skip : ℕ) (h : Held)
        → flags_fault d again k flags skip h ≡ flags_fault c again k flags skip h
    unfolding flags_fault
    flags_fault-same zero flags skip h = refl
    flags_fault-same (suc k) flags skip h = bundle_step_fault-same (slice_get (chars flags) 0) flags skip h
        (flags_fault d again k) (flags_fault c again k) (flags_fault-same k)

    flag_word_fault-same : (o : Option (Text × Option Text)) (word : Text) (h : Held)
        → flag_word_fault d again o word h ≡ flag_word_fault c again o word h
    flag_word_fault-same (Some p) word h =
        ap (λ o. long_fault d again o p.1 h) (by_long p.0) ∙ long_fault-same (arg_by_long c p.0) p.1 h
    flag_word_fault-same None word h = go (short_of word)
      where
        go : (o : Option Text) → option_map_or (λ flags. bundle_fault d again flags h) o []
            ≡ option_map_or (λ flags. bundle_fault c again flags h) o []
        go None = refl
        go (Some flags) = flags_fault-same (length flags) flags h.skip (record h { skip = 0 })

    other_fault-same : (o : Option Text) (word : Text) (h : Held) → other_fault (turned_shape s) o word h ≡ other_fault s o word h
    other_fault-same (Some name) word h = refl
    other_fault-same None word h =
        ap (cond (bytes_eq word (45 ∷ 45 ∷ [])) []) (flag_word_fault-same (long_of word) word h)

    step_fault-same : (position : ℕ) (h : Held) (step : Step) → step_fault (turned_shape s) position h step ≡ step_fault s position h step
    step_fault-same position h (next waiting) = refl
    step_fault-same position h (trailing at) = refl
    step_fault-same position h (subcommand name) = refl
    step_fault-same position h value = ap of_rule (by_index position) ∙ go (arg_by_index c position)
      where
        of_rule : Option Rule → Kinds
        of_rule o = option_map_or (λ a. positional_fault d again a h) o (stray_fault s)

        go : (o : Option Rule) → option_map_or (λ a. positional_fault d again a h) (option_map turned o) (stray_fault s)
            ≡ option_map_or (λ a. positional_fault c again a h) o (stray_fault s)
        go None = refl
        go (Some a) = ap (cond (is_pending a h.pending && takes_several a) []) (settle_fault-same h)

    turn_fault-same : (names : Names) (w : Walk) (word : Text) → turn_fault (turned_shape s) names w word ≡ turn_fault s names w word
    turn_fault-same names w word =
        let met = word_met c names w.is_trailing w.waiting w.position word w.held in
        ap (cond (is_some w.stopped) []) (ap₂ or_else
        (ap (cond w.is_trailing []) (other_fault-same (subcommand_met names w.waiting word) word w.held))
        (ap (λ (m : Held × Step). step_fault (turned_shape s) w.position m.0 m.1)
        (word_met-same names w.is_trailing w.waiting w.position word w.held) ∙ step_fault-same w.position met.0 met.1))

    walk_fault-same : (names : Names) (w : Walk) (words : List Text)
        → walk_fault (turned_shape s) names w words ≡ walk_fault s names w words
    unfolding walk_fault
    walk_fault-same names w [] = refl
    walk_fault-same names w (word ∷ words) = ap₂ or_else (turn_fault-same names w word)
        (ap (λ v. walk_fault (turned_shape s) names v words) (walked-same names w word)
        ∙ walk_fault-same names (walked c names w word) words)

    -- ---- the end

    default_fault-same : (rows : List Row) (a : Rule) → default_fault rows (turned a) ≡ default_fault rows a
    default_fault-same rows a = ap (λ k. cond (has_row a.id rows || is_empty a.defaults) [] (or_else (request_kinds (action_of a)) k))
        (values_fault-same a a.defaults)

    defaults_fault-same : (rules : List Rule) (rows : List Row) → defaults_fault rows (map turned rules) ≡ defaults_fault rows rules
    unfolding defaults_fault
    defaults_fault-same [] rows = refl
    defaults_fault-same (a ∷ rules) rows = ap₂ or_else (default_fault-same rows a)
        (ap (λ more. defaults_fault more (map turned rules)) (with_default-same a rows)
        ∙ defaults_fault-same rules (with_default rows a))

    check_fault-same : (rows : List Row) (has : Bool) → check_fault (turned_shape s) rows has ≡ check_fault s rows has
    check_fault-same rows has = ap (λ b. check_kinds (not has && (s.arg_required_else_help && not (list_any (λ r. explicit_source r.source) rows)))
        (not has && s.subcommand_required) (not (s.subcommand_negates_reqs && has) && b))
        (sym (list_any-map (λ a. a.required && not (is_given a.id rows)) turned c))

    pub level_fault-same : (words : List Text)
        → level_fault (turned_shape s) [] nothing_held words false [] ≡ level_fault s [] nothing_held words false []
    level_fault-same words = ap₂ or_else (walk_fault-same [] (walk_from nothing_held) words)
        (ap at_end (walk-same [] (walk_from nothing_held) words) ∙ ap₂ or_else (settle_fault-same end)
        (ap₂ or_else
        (ap (λ (h : Held). defaults_fault h.rows d) (settled-same end) ∙ defaults_fault-same c (settled c end).rows)
        (ap (λ rows. check_fault (turned_shape s) rows false) (finished-same end) ∙ check_fault-same (finished c end) false)))
      where
        end : Held
        end = (walk c [] nothing_held words).held

        at_end : Walk → Kinds
        at_end w = or_else (settle_fault d again w.held)
            (or_else (defaults_fault (settled d w.held).rows d) (check_fault (turned_shape s) (finished d w.held) false))

    -- -- whether it is accepted

    settle_passes-same : (h : Held) → settle_passes d again h ≡ settle_passes c again h
    settle_passes-same h = go h.pending
      where
        of_rule : (o : Option Rule) (values : List Text)
            → option_map_or (λ a. use_passes again a values h.rows) (option_map turned o) true
            ≡ option_map_or (λ a. use_passes again a values h.rows) o true
        of_rule None values = refl
        of_rule (Some a) values = use_passes-same again a values h.rows

        go : (o : Option (Text × List Text))
            → option_map_or (λ p. option_map_or (λ a. use_passes again a p.1 h.rows) (arg_by_id d p.0) true) o true
            ≡ option_map_or (λ p. option_map_or (λ a. use_passes again a p.1 h.rows) (arg_by_id c p.0) true) o true
        go None = refl
        go (Some p) =
            ap (λ o. option_map_or (λ a. use_passes again a p.1 h.rows) o true) (by_id p.0) ∙ of_rule (arg_by_id c p.0) p.1

    react_passes-same : (a : Rule) (values : List Text) (h : Held)
        → react_passes d again (turned a) values h ≡ react_passes c again a values h
    react_passes-same a values h = ap₂ ◌&&◌ (settle_passes-same h)
        (use_passes-same again a values (settled d h).rows ∙ ap (λ (g : Held). use_passes again a values g.rows) (settled-same h))

    option_passes-same : (a : Rule) (v : Option Text) (h : Held)
        → option_passes d again (turned a) v h ≡ option_passes c again a v h
    option_passes-same a (Some v) h = react_passes-same a (v ∷ []) h
    option_passes-same a None h = settle_passes-same h

    long_passes-same : (o : Option Rule) (v : Option Text) (h : Held)
        → long_passes d again (option_map turned o) v h ≡ long_passes c again o v h
    long_passes-same None v h = refl
    long_passes-same (Some a) v h = ap₂ (cond (takes_values a)) (option_passes-same a v h)
        (ap (λ b. not (is_some v) && b) (react_passes-same a [] h))

    short_passes-same : (o : Option Rule) (rest : Text) (h : Held) (one two : Held → Bool)
        → ((g : Held) → one g ≡ two g) → short_passes d again (option_map turned o) rest h one ≡ short_passes c again o rest h two
    short_passes-same None rest h one two each = refl
    short_passes-same (Some a) rest h one two each = ap₂ (cond (takes_values a)) (option_passes-same a (attached_value rest) h)
        (ap₂ ◌&&◌ (react_passes-same a [] h) (each (reacted d (turned a) [] h) ∙ ap two (reacted-same a [] h)))

    bundle_step_passes-same : (first : Option ℕ) (flags : Text) (skip : ℕ) (h : Held) (one two : Text → ℕ → Held → Bool)
        → ((t : Text) (n : ℕ) (g : Held) → one t n g ≡ two t n g)
        → bundle_step_passes d again first flags skip h one ≡ bundle_step_passes c again first flags skip h two
    bundle_step_passes-same None flags skip h one two each = refl
    bundle_step_passes-same (Some x) flags (suc skip) h one two each = each (drop (length (encode_utf8 x)) flags) skip h
    bundle_step_passes-same (Some x) flags zero h one two each =
        let rest = drop (length (encode_utf8 x)) flags in
        ap (λ o. short_passes d again o rest h (one rest 0)) (by_short x)
        ∙ short_passes-same (arg_by_short c x) rest h (one rest 0) (two rest 0) (each rest 0)

    flags_pass-same : (k : ℕ) (flags : Text) (skip : ℕ) (h : Held) → flags_pass d again k flags skip h ≡ flags_pass c again k flags skip h
    unfolding flags_pass
    flags_pass-same zero flags skip h = refl
    flags_pass-same (suc k) flags skip h = bundle_step_passes-same (slice_get (chars flags) 0) flags skip h
        (flags_pass d again k) (flags_pass c again k) (flags_pass-same k)

    flag_word_passes-same : (o : Option (Text × Option Text)) (word : Text) (h : Held)
        → flag_word_passes d again o word h ≡ flag_word_passes c again o word h
    flag_word_passes-same (Some p) word h =
        ap (λ o. long_passes d again o p.1 h) (by_long p.0) ∙ long_passes-same (arg_by_long c p.0) p.1 h
    flag_word_passes-same None word h = go (short_of word)
      where
        go : (o : Option Text) → option_map_or (λ flags. bundle_passes d again flags h) o true
            ≡ option_map_or (λ flags. bundle_passes c again flags h) o true
        go None = refl
        go (Some flags) = flags_pass-same (length flags) flags h.skip (record h { skip = 0 })

    other_passes-same : (o : Option Text) (word : Text) (h : Held) → other_passes (turned_shape s) o word h ≡ other_passes s o word h
    other_passes-same (Some name) word h = refl
    other_passes-same None word h =
        ap (λ b. bytes_eq word (45 ∷ 45 ∷ []) || b) (flag_word_passes-same (long_of word) word h)

    step_passes-same : (position : ℕ) (h : Held) (step : Step) → step_passes (turned_shape s) position h step ≡ step_passes s position h step
    step_passes-same position h (next waiting) = refl
    step_passes-same position h (trailing at) = refl
    step_passes-same position h (subcommand name) = refl
    step_passes-same position h value = ap of_rule (by_index position) ∙ go (arg_by_index c position)
      where
        of_rule : Option Rule → Bool
        of_rule o = option_map_or (λ a. positional_passes d again a h) o false

        go : (o : Option Rule) → option_map_or (λ a. positional_passes d again a h) (option_map turned o) false
            ≡ option_map_or (λ a. positional_passes c again a h) o false
        go None = refl
        go (Some a) = ap (λ b. (is_pending a h.pending && takes_several a) || b) (settle_passes-same h)

    turn_passes-same : (names : Names) (w : Walk) (word : Text) → turn_passes (turned_shape s) names w word ≡ turn_passes s names w word
    turn_passes-same names w word =
        let met = word_met c names w.is_trailing w.waiting w.position word w.held in
        ap (λ b. is_some w.stopped || b) (ap₂ ◌&&◌
        (ap (λ b. w.is_trailing || b) (other_passes-same (subcommand_met names w.waiting word) word w.held))
        (ap (λ (m : Held × Step). step_passes (turned_shape s) w.position m.0 m.1)
        (word_met-same names w.is_trailing w.waiting w.position word w.held) ∙ step_passes-same w.position met.0 met.1))

    walk_passes-same : (names : Names) (w : Walk) (words : List Text)
        → walk_passes (turned_shape s) names w words ≡ walk_passes s names w words
    unfolding walk_passes
    walk_passes-same names w [] = refl
    walk_passes-same names w (word ∷ words) = ap₂ ◌&&◌ (turn_passes-same names w word)
        (ap (λ v. walk_passes (turned_shape s) names v words) (walked-same names w word)
        ∙ walk_passes-same names (walked c names w word) words)

    default_passes-same : (rules : List Rule) → list_all default_passes (map turned rules) ≡ list_all default_passes rules
    default_passes-same [] = refl
    default_passes-same (a ∷ rules) = ap₂ ◌&&◌
        (ap (λ b. is_empty a.defaults || (not (is_request (action_of a)) && b)) (values_pass-same a a.defaults))
        (default_passes-same rules)

    is_valid-same : (rows : List Row) (has : Bool) → is_valid (turned_shape s) rows has ≡ is_valid s rows has
    is_valid-same rows has = ap₂ (λ x y. (not s.arg_required_else_help || (has || list_any (λ r. explicit_source r.source) rows))
        && ((not s.subcommand_required || has) && (x && ((s.subcommand_negates_reqs && has) || y))))
        (list_all-map (λ a. a.is_free) turned c) (list_all-map (λ a. not a.required || is_given a.id rows) turned c)

    pub level_passes-same : (words : List Text)
        → level_passes (turned_shape s) [] nothing_held words false ≡ level_passes s [] nothing_held words false
    level_passes-same words = ap₂ ◌&&◌ (walk_passes-same [] (walk_from nothing_held) words)
        (ap at_end (walk-same [] (walk_from nothing_held) words) ∙ ap₂ ◌&&◌ (settle_passes-same end)
        (ap₂ ◌&&◌ (default_passes-same c)
        (ap (λ rows. is_valid (turned_shape s) rows false) (finished-same end) ∙ is_valid-same (finished c end) false)))
      where
        end : Held
        end = (walk c [] nothing_held words).held

        at_end : Walk → Bool
        at_end w = settle_passes d again w.held
            && (list_all default_passes d && is_valid (turned_shape s) (finished d w.held) false)
