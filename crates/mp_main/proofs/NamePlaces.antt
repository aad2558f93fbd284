-- It doesn't matter where the names of an option's values are in memory.
use Rattle.std.proofs.Common.{◌≡◌, ◌∙◌, ◌&&◌, ◌||◌, Bool, cond, true, false, refl, sym, ap, ap₂, List, [], ◌∷◌, map}
use Rattle.std.proofs.Common.{Option, Some, None, codes, is_some}
use Rattle.std.specs.Prelude.{find}
use Rattle.std.specs.Borrow.{Bor}
use Rattle.std.specs.Option.{option_map, option_map_or}
use Rattle.std.specs.Str.{bytes_eq}
use Rattle.clap.specs.Facts.{parser_of_value}
use Rattle.clap.specs.Faults.{entered_fault, fault_of, level_fault}
use Rattle.clap.specs.Simple.{App, Shape, argument_words, built, built_leaf, entered, inherited, label_of, marked_built, names_of}
use Rattle.clap.specs.Simple.{rows_at, with_leaf_noted}
use Rattle.clap.specs.Takes.{entered_passes, level_passes, takes}
use Rattle.clap.specs.Values.{reading_of, refused_kind, same_text}
use Rattle.clap.specs.ValueTests.{accepts}
use Rattle.clap.specs.Walk.{Row, Text, answers_to, nothing_held, walk}
use Rattle.clap.specs.declared.builder.value_parser.ValueParser.{ValueParser}
use Rattle.clap.specs.declared.builder.value_parser.ValueParser.TheVariants.{Names}
use Rattle.clap.proofs.WalkLemmas.{list_any-map}
use Rattle.mp_main.specs.CommandLine.{audit_command, lent, program, program_with, race_command, run_command, serve_command}
use Rattle.mp_main.specs.CommandLine.{signature_names}
use Rattle.mp_main.specs.Inside.Alike.{IsAlike}
use Rattle.mp_main.proofs.Parsers.{level_fault-same, level_passes-same, rows_after-same, turned_shape}

-- ---- one command

-- the same parser, for names without a place in memory
abbrev unplaced : Option ValueParser → Option ValueParser
unplaced (Some (Names names)) = Some (Names (lent (map (λ s. lent s.now) names.now)))
unplaced parser = parser

reads : (p : Option ValueParser) → reading_of (parser_of_value (unplaced p)) ≡ reading_of (parser_of_value p)
reads (Some (Names names)) = refl
reads p = refl

refuses : (p : Option ValueParser) → refused_kind (parser_of_value (unplaced p)) ≡ refused_kind (parser_of_value p)
refuses (Some (Names names)) = refl
refuses p = refl

accepts-same : (i : Bool) (p : Option ValueParser) (t : Text)
    → accepts i (parser_of_value (unplaced p)) t ≡ accepts i (parser_of_value p) t
accepts-same i (Some (Names names)) t = sym (list_any-map (λ (s : Bor Text). same_text i s.now t) (λ s. lent s.now) names.now)
accepts-same i p t = refl

-- a command of the program, as it is built
abbrev pub leaf : App → Shape
leaf command = built_leaf (inherited (with_leaf_noted (marked_built program.top)) command.top)

-- the names of signatures, as in the definitions
abbrev pub which : Bor (List (Bor Text))
which = lent (map lent signature_names)

module _ (names : Bor (List (Bor Text))) (is : map (λ s. s.now) names.now ≡ signature_names) where
  nowhere : lent (map (λ s. lent s.now) names.now) ≡ which
  nowhere = ap lent (again names.now ∙ ap (map lent) is)
    where
      again : (xs : List (Bor Text)) → map (λ s. lent s.now) xs ≡ map lent (map (λ s. s.now) xs)
      again [] = refl
      again (x ∷ xs) = ap (λ rest. lent x.now ∷ rest) (again xs)

  module _ (command : Bor (List (Bor Text)) → App) where
    abbrev at : Bor (List (Bor Text)) → Shape
    at there = leaf (command there)

    -- its parsers are turned to those of names that lie nowhere
    abbrev IsTurned : Type 0
    IsTurned = turned_shape unplaced reads accepts-same refuses (at names) ≡ at (lent (map (λ s. lent s.now) names.now))

    fault-same : IsTurned → (words : List Text) → level_fault (at names) [] nothing_held words false []
        ≡ level_fault (at which) [] nothing_held words false []
    fault-same turned words = sym (level_fault-same unplaced reads accepts-same refuses (at names) words)
        ∙ ap (λ s. level_fault s [] nothing_held words false []) (turned ∙ ap at nowhere)

    passes-same : IsTurned → (words : List Text) → level_passes (at names) [] nothing_held words false
        ≡ level_passes (at which) [] nothing_held words false
    passes-same turned words = sym (level_passes-same unplaced reads accepts-same refuses (at names) words)
        ∙ ap (λ s. level_passes s [] nothing_held words false) (turned ∙ ap at nowhere)

    rows-same : IsTurned → (words : List Text) → rows_at (at names) words ≡ rows_at (at which) words
    rows-same turned words = ap (λ (rows : List Row). ((at names).name, rows))
        (sym (rows_after-same unplaced reads accepts-same refuses (at names) words))
        ∙ ap (λ s. rows_at s words) (turned ∙ ap at nowhere)

  -- ---- the program

  abbrev found : Bor (List (Bor Text)) → Bool → Bool → Bool → Bool → Option Shape
  found there x y z w = cond (x || false) (Some (leaf (run_command there)))
      (cond (y || false) (Some (leaf (race_command there)))
      (cond (z || false) (Some (leaf (audit_command there))) (cond (w || false) (Some (leaf (serve_command there))) None)))

  -- it is the same at each command
  abbrev IsSame : {Y : Type 0} → (Option Shape → Y) → Type 0
  IsSame on = (command : Bor (List (Bor Text)) → App) → IsTurned command → on (Some (leaf (command names))) ≡ on (Some (leaf (command which)))

  found-same : {Y : Type 0} (on : Option Shape → Y) → IsSame on → (x y z w : Bool)
      → on (found names x y z w) ≡ on (found which x y z w)
  found-same on same true y z w = same run_command refl
  found-same on same false true z w = same race_command refl
  found-same on same false false true w = same audit_command refl
  found-same on same false false false true = same serve_command refl
  found-same on same false false false false = refl

  at_word : {Y : Type 0} (on : Option Shape → Y) (word : Text) → IsSame on
      → on (find (λ s. answers_to word (label_of s)) (built (program_with names)).subs)
      ≡ on (find (λ s. answers_to word (label_of s)) (built program).subs)
  at_word on word same = found-same on same (bytes_eq (codes "run") word) (bytes_eq (codes "race") word)
      (bytes_eq (codes "audit") word) (bytes_eq (codes "serve") word)

  entered_fault-same : (stop : Option (Text × List Text))
      → entered_fault (built (program_with names)) stop ≡ entered_fault (built program) stop
  entered_fault-same None = refl
  entered_fault-same (Some p) =
      at_word (λ o. option_map_or (λ s. level_fault s [] nothing_held p.1 false []) o []) p.0
      (λ command turned. fault-same command turned p.1)

  entered_passes-same : (stop : Option (Text × List Text))
      → entered_passes (built (program_with names)) stop ≡ entered_passes (built program) stop
  entered_passes-same None = refl
  entered_passes-same (Some p) =
      at_word (λ o. option_map_or (λ s. level_passes s [] nothing_held p.1 false) o true) p.0
      (λ command turned. passes-same command turned p.1)

  entered-same : (stop : Option (Text × List Text)) → entered (built (program_with names)) stop ≡ entered (built program) stop
  entered-same None = refl
  entered-same (Some p) = at_word (λ o. option_map (λ s. rows_at s p.1) o) p.0
      (λ command turned. ap Some (rows-same command turned p.1))

  module _ (words : List Text) where
    abbrev stop : Option (Text × List Text)
    stop = (walk (built program).top.rules (names_of (built program)) nothing_held (argument_words program words)).stopped

    faults-same : fault_of (program_with names) words ≡ fault_of program words
    faults-same = ap₂ (λ has below. level_fault (built program).top (names_of (built program)) nothing_held
        (argument_words program words) has below) (ap is_some (entered-same stop)) (entered_fault-same stop)

    takes-same : takes (program_with names) words ≡ takes program words
    takes-same = ap₂ (λ below has. below && level_passes (built program).top (names_of (built program)) nothing_held
        (argument_words program words) has) (entered_passes-same stop) (ap is_some (entered-same stop))

  pub program_alike : IsAlike (program_with names) program
  program_alike = record {
    simple = refl;
    free = refl;
    faults = faults-same;
    met = λ words. entered-same (stop words);
    taken = takes-same;
  }
