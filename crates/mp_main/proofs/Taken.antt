-- Accepted words name a run, a race with its numbers in range, an audit of a file, or a conversation. They name signatures.
use Rattle.std.proofs.Common.{◌≡◌, ◌||◌, Bool, cond, not, true, false, true≢false, refl, sym, inl, inr, List, [], ◌∷◌}
use Rattle.std.proofs.Common.{Option, Some, None, IfSome, is_some, codes}
use Rattle.std.specs.Option.{option_map, option_map_or}
use Rattle.std.specs.Str.{bytes_eq}
use Rattle.std.proofs.lemmas.Slice.Eq.{bytes_eq-Decides}
use Rattle.clap.specs.Values.{Accepts}
use Rattle.clap.specs.Walk.{Row, Text, finished, first_of, one_of, nothing_held, rows_after, settled, walk, walk_from}
use Rattle.clap.specs.Simple.{Shape, argument_words, built, entered, names_of, rows_at, subcommand_of}
use Rattle.clap.specs.Takes.{is_given}
use Rattle.clap.specs.Faults.{check_fault, defaults_fault, entered_fault, fault_of, level_fault, settle_fault, walk_fault}
use Rattle.clap.specs.declared.builder.value_parser.ValueParser.{ValueParser}
use Rattle.clap.specs.declared.builder.value_parser.ValueParser.TheVariants as vp
use Rattle.clap.specs.declared.error.kind.ErrorKind.TheVariants.{MissingRequiredArgument}
use Rattle.mp_main.specs.declared.command_line.asked.SchemeName.TheVariants.{Trial, Checked, Ed25519}
use Rattle.mp_main.specs.CommandLine.{IsSignatures, audit_command, lent, program, race_command, run_command, serve_command}
use Rattle.mp_main.specs.Inside.Taken.{IsAudit, IsRace, IsServe, IsTaken}
use Rattle.mp_main.proofs.GivenValues.{IsApart, if_first, if_given, where_given}
use Rattle.mp_main.proofs.KeptByParsing.{Each, both_none, not_none}
use Rattle.mp_main.proofs.NamePlaces.{leaf, which}

-- ---- the signatures of each command

named : (x y z w : Bool) (name : Text) → (x ≡ true → name ≡ codes "trial") → (y ≡ true → name ≡ codes "checked")
    → (z ≡ true → name ≡ codes "ed25519") → (w ≡ true → name ≡ codes "scenarios") → (x || (y || (z || (w || false)))) ≡ true → IsSignatures name
named true y z w name a b c d is = (Trial, inl (a refl))
named false true z w name a b c d is = (Checked, b refl)
named false false true w name a b c d is = (Ed25519, c refl)
named false false false true name a b c d is = (Trial, inr (d refl))
named false false false false name a b c d is = absurd (true≢false (sym is))

known : (o : Option Text) → IfSome o (Accepts false (vp.Names which)) → IfSome o IsSignatures
known None h = tt
known (Some name) h = named (bytes_eq (codes "trial") name) (bytes_eq (codes "checked") name) (bytes_eq (codes "ed25519") name)
    (bytes_eq (codes "scenarios") name) name (is (codes "trial")) (is (codes "checked")) (is (codes "ed25519")) (is (codes "scenarios")) h
  where
    is : (word : Text) → bytes_eq word name ≡ true → name ≡ word
    is word e = sym ((bytes_eq-Decides word name).0 e)

-- one of the command's arguments is that of signatures, and the others are apart
abbrev HasOption : Shape → Type 0
HasOption s = Each (IsApart (codes "signatures") (vp.Names which) refl) s.rules

signed : (s : Shape) → HasOption s → (words : List Text) → level_fault s [] nothing_held words false [] ≡ []
    → IfSome (first_of (codes "signatures") (rows_after s.rules [] words)) IsSignatures
signed s apart words none = known (first_of (codes "signatures") (rows_after s.rules [] words))
    (if_first (codes "signatures") (vp.Names which) refl s apart words none)

-- ---- the arguments of a race

abbrev race : Shape
race = leaf (race_command which)

has_workers : (rows : List Row) → check_fault race rows false ≡ [] → is_given (codes "workers") rows ≡ true
has_workers rows none = go (is_given (codes "workers") rows) none
  where
    go : (b : Bool) → cond (not b || false) (MissingRequiredArgument ∷ []) [] ≡ [] → b ≡ true
    go true n = refl
    go false n = not_none _ _ n

race_taken : (words : List Text) → level_fault race [] nothing_held words false [] ≡ [] → IsRace (rows_after race.rules [] words)
race_taken words none = record {
  workers = (where_given (codes "workers") (vp.Unsigned 1 64) refl race
      (inr refl, (inl refl, (inl refl, (inl refl, (inl refl, (inl refl, (inl refl, (inl refl, tt))))))))
      words none (has_workers (rows_after race.rules [] words))).0;
  verify_us = if_given (codes "verify-us") (vp.Unsigned 0 1000000) refl race
      (inl refl, (inl refl, (inl refl, (inr refl, (inl refl, (inl refl, (inl refl, (inl refl, tt))))))))
      words none;
}

-- ---- the arguments of an audit

abbrev audit : Shape
audit = leaf (audit_command which)

has_file : (rows : List Row) → check_fault audit rows false ≡ [] → is_given (codes "FILE") rows ≡ true
has_file rows none = go (is_given (codes "FILE") rows) none
  where
    go : (b : Bool) → cond (not b || false) (MissingRequiredArgument ∷ []) [] ≡ [] → b ≡ true
    go true n = refl
    go false n = not_none _ _ n

audit_taken : (words : List Text) → level_fault audit [] nothing_held words false [] ≡ []
    → IsAudit (rows_after audit.rules [] words)
audit_taken words none =
    (where_given (codes "FILE") vp.String refl audit (inl refl, (inl refl, (inr refl, (inl refl, (inl refl, tt)))))
    words none (has_file (rows_after audit.rules [] words))).1

-- ---- a conversation

abbrev serve : Shape
serve = leaf (serve_command which)

-- no value passes this parser, so an id without an argument, whose values pass any parser, has no values
abbrev never : ValueParser
never = vp.Names (lent [])

not_given : (o : Option Text) → IfSome o (Accepts false never) → o ≡ None
not_given None h = refl
not_given (Some t) h = absurd (true≢false (sym h))

serve_taken : (words : List Text) → level_fault serve [] nothing_held words false [] ≡ [] → IsServe (rows_after serve.rules [] words)
serve_taken words none = record {
  salt = if_given (codes "salt") (vp.Unsigned 0 18446744073709551615) refl serve (inl refl, (inr refl, (inl refl, (inl refl, (inl refl, (inl refl, tt)))))) words none;
  names = if_given (codes "names") (vp.Unsigned 1 4294967296) refl serve (inl refl, (inl refl, (inr refl, (inl refl, (inl refl, (inl refl, tt)))))) words none;
  file = not_given (first_of (codes "FILE") rows)
      (if_first (codes "FILE") never refl serve (inl refl, (inl refl, (inl refl, (inl refl, (inl refl, (inl refl, tt)))))) words none);
  explain = not_given (one_of (codes "explain") rows)
      (if_given (codes "explain") never refl serve (inl refl, (inl refl, (inl refl, (inl refl, (inl refl, (inl refl, tt)))))) words none);
}
  where
    rows : List Row
    rows = rows_after serve.rules [] words

-- ---- the program

abbrev run : Shape
run = leaf (run_command which)

is_met : (rows : List Row) (has : Bool) → check_fault (built program).top rows has ≡ [] → has ≡ true
is_met rows true none = refl
is_met rows false none = not_none _ _ none

-- a command was found, and it is one of the four
met_taken : (stop : Option (Text × List Text)) → entered_fault (built program) stop ≡ []
    → is_some (entered (built program) stop) ≡ true
    → IsTaken (entered (built program) stop)
met_taken None none met = absurd (true≢false (sym met))
met_taken (Some p) none met =
    go (bytes_eq (codes "run") p.0) (bytes_eq (codes "race") p.0) (bytes_eq (codes "audit") p.0) (bytes_eq (codes "serve") p.0)
    none met
  where
    found : Bool → Bool → Bool → Bool → Option Shape
    found x y z w = cond (x || false) (Some run)
        (cond (y || false) (Some race) (cond (z || false) (Some audit) (cond (w || false) (Some serve) None)))

    go : (x y z w : Bool)
        → option_map_or (λ s. level_fault s [] nothing_held p.1 false []) (found x y z w) [] ≡ []
        → is_some (option_map (λ s. rows_at s p.1) (found x y z w)) ≡ true
        → IsTaken (option_map (λ s. rows_at s p.1) (found x y z w))
    go true y z w n m = (inl refl, signed run (inl refl, (inr refl, (inl refl, (inl refl, tt)))) p.1 n)
    go false true z w n m = (
      inr (inl (refl, race_taken p.1 n)),
      signed race (inl refl, (inl refl, (inl refl, (inl refl, (inl refl, (inr refl, (inl refl, (inl refl, tt)))))))) p.1 n,
    )
    go false false true w n m = (
      inr (inr (inl (refl, audit_taken p.1 n))),
      signed audit (inl refl, (inr refl, (inl refl, (inl refl, (inl refl, tt))))) p.1 n,
    )
    go false false false true n m = (
      inr (inr (inr (refl, serve_taken p.1 n))),
      signed serve (inr refl, (inl refl, (inl refl, (inl refl, (inl refl, (inl refl, tt)))))) p.1 n,
    )
    go false false false false n m = absurd (true≢false (sym m))

pub taken : (words : List Text) → fault_of program words ≡ [] → IsTaken (subcommand_of program words)
taken words none =
    let a = built program in
    let ws = argument_words program words in
    let w = walk a.top.rules (names_of a) nothing_held ws in
    let n = both_none (walk_fault a.top (names_of a) (walk_from nothing_held) ws) _ none in
    let m = both_none (entered_fault a w.stopped) _ n.1 in
    let k = both_none (settle_fault a.top.rules false w.held) _ m.1 in
    let l = both_none (defaults_fault (settled a.top.rules w.held).rows a.top.rules) _ k.1 in
    met_taken w.stopped m.0 (is_met (finished a.top.rules w.held) (is_some (entered a w.stopped)) l.1)
