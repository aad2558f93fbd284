-- The command lines that the program accepts: `keltuvar run [--explain] [--signatures WHICH] [FILE]`,
-- `keltuvar race --workers N [--history FILE] [--svg FILE] [--verify-us MICROSECONDS] [--explain] [--signatures WHICH] [FILE]`,
-- `keltuvar audit [--explain] [--signatures WHICH] FILE [HISTORY]`,
-- `keltuvar serve [--signatures WHICH] [--salt N] [--names N] [--history FILE] [--client IN OUT]..`, `--help` and `--version`.
use Rattle.std.specs.Prelude.{◌≡◌, ◌≤◌, ◌⊎◌, ⊤, ℕ, Bool, true, false, List, [], ◌∷◌, map, length, Option, None, Some, codes}
use Rattle.std.specs.Prelude.{if◌then◌else◌, nat_lt, option_and_then, option_map, unwrap_or}
use Rattle.std.specs.Borrow.{Bor}
use Rattle.std.specs.Str.Parse.{digits_value, without_leading_plus}
use Rattle.clap.specs.Kinds.{Kinds, or_else}
use Rattle.clap.specs.Simple.{on_top}
use Rattle.clap.specs.declared.builder.action.ArgAction.TheVariants.{Append, SetTrue}
use Rattle.clap.specs.declared.builder.value_parser.ValueParser.TheVariants.{Names, Unsigned}
use Rattle.clap.specs.declared.error.kind.ErrorKind.TheVariants.{TooManyValues}
use Rattle.clap.specs.Words.{App, Row, Rule, Text, all_of, fault_of, first_of, one_of, new_app, new_rule, subcommand_of}
use Rattle.clap.specs.Words.{with_rule, with_subcommand}
use Rattle.mp_main.specs.declared.command_line.asked.Asked.{Asked}
use Rattle.mp_main.specs.declared.command_line.asked.Asked.TheVariants.{Run, Race, Audit, Serve}
use Rattle.mp_main.specs.declared.command_line.asked.ClientFiles.{ClientFiles}
use Rattle.mp_main.specs.declared.command_line.asked.SchemeName.{SchemeName}
use Rattle.mp_main.specs.declared.command_line.asked.SchemeName.TheVariants.{Trial, Checked, Ed25519}

abbrev pub explain_rule : Rule
explain_rule = record (new_rule (codes "explain")) { long = Some (codes "explain"); action = Some SetTrue }

abbrev pub file_rule : Rule
file_rule = new_rule (codes "FILE")

-- a required number from 1 to 64
abbrev pub workers_rule : Rule
workers_rule = record (new_rule (codes "workers")) {
  long = Some (codes "workers");
  value_names = 1;
  parser = Some (Unsigned 1 64);
  required = true;
}

-- a number from 0 to 1,000,000
abbrev pub verify_us_rule : Rule
verify_us_rule = record (new_rule (codes "verify-us")) {
  long = Some (codes "verify-us");
  value_names = 1;
  parser = Some (Unsigned 0 1000000);
}

-- one of these names
abbrev pub signatures_rule : Bor (List (Bor Text)) → Rule
signatures_rule names = record (new_rule (codes "signatures")) {
  long = Some (codes "signatures");
  value_names = 1;
  parser = Some (Names names);
}

-- a number of 64 bits
abbrev pub salt_rule : Rule
salt_rule = record (new_rule (codes "salt")) {
  long = Some (codes "salt");
  value_names = 1;
  parser = Some (Unsigned 0 18446744073709551615);
}

-- a number from 1 to 2^32
abbrev pub names_rule : Rule
names_rule = record (new_rule (codes "names")) {
  long = Some (codes "names");
  value_names = 1;
  parser = Some (Unsigned 1 4294967296);
}

-- two files, as often as one likes
abbrev pub client_rule : Rule
client_rule = record (new_rule (codes "client")) {
  long = Some (codes "client");
  action = Some Append;
  value_names = 2;
}

-- an option with a file
abbrev pub output_rule : Text → Rule
output_rule name = record (new_rule name) { long = Some name; value_names = 1 }

-- a required file
abbrev pub audited_rule : Rule
audited_rule = record (new_rule (codes "FILE")) { value_names = 1; required = true }

-- another file
abbrev pub history_rule : Rule
history_rule = record (new_rule (codes "history")) { value_names = 1 }

-- `run`, with or without the flag and a file
abbrev pub run_command : Bor (List (Bor Text)) → App
run_command names = with_rule (with_rule (with_rule (new_app (codes "run")) explain_rule) (signatures_rule names)) file_rule

-- a command with two output files and a number of microseconds
abbrev pub with_wishes : App → App
with_wishes command = with_rule (with_rule (with_rule command
    (output_rule (codes "history"))) (output_rule (codes "svg"))) verify_us_rule

-- `race`: `run` with a number of workers and those options
abbrev pub race_command : Bor (List (Bor Text)) → App
race_command names =
    with_rule (with_rule (with_rule (with_wishes (with_rule (new_app (codes "race")) workers_rule)) explain_rule)
    (signatures_rule names)) file_rule

-- `audit` of one or two files, with or without the flag
abbrev pub audit_command : Bor (List (Bor Text)) → App
audit_command names = with_rule (with_rule (with_rule (with_rule (new_app (codes "audit"))
    explain_rule) (signatures_rule names)) audited_rule) history_rule

-- `serve`, with or without one of these names, two numbers, a file and the files of clients
abbrev pub serve_command : Bor (List (Bor Text)) → App
serve_command names = with_rule (with_rule (with_rule (with_rule (with_rule (new_app (codes "serve"))
    (signatures_rule names)) salt_rule) names_rule) (output_rule (codes "history"))) client_rule

-- the program without its commands, of which one is required
abbrev pub bare_program : App
bare_program = on_top (λ s. record s { has_version = true; disable_help_subcommand = true; subcommand_required = true })
    (new_app (codes "keltuvar"))

-- the only commands are `run`, `race`, `audit` and `serve`
abbrev pub program_with : Bor (List (Bor Text)) → App
program_with names = with_subcommand (with_subcommand (with_subcommand (with_subcommand bare_program
    (run_command names).top)
    (race_command names).top)
    (audit_command names).top)
    (serve_command names).top

-- the accepted signatures: those of scenarios, or all of them because the host has checked them
abbrev pub signature_names : List Text
signature_names = codes "trial" ∷ codes "checked" ∷ codes "ed25519" ∷ codes "scenarios" ∷ []

-- what a name says
abbrev pub IsNamed : Text → SchemeName → Type 0
IsNamed name Trial = (name ≡ codes "trial") ⊎ (name ≡ codes "scenarios")
IsNamed name Checked = name ≡ codes "checked"
IsNamed name Ed25519 = name ≡ codes "ed25519"

-- one of those names
abbrev pub IsSignatures : Text → Type 0
IsSignatures name = (scheme : SchemeName) × IsNamed name scheme

-- a value behind a reference; its place in memory doesn't matter
abbrev pub lent : {X : Type 0} → X → Bor X
lent x = record { ref_ptr = (0, 0); now = x }

abbrev pub program : App
program = program_with (lent (map lent signature_names))

-- the command that these words name, after the program's name, with what they give to it
abbrev pub met_in : List Text → Option (Text × List Row)
met_in words = subcommand_of program words

-- the name of that command
abbrev pub command_in : List Text → Option Text
command_in words = option_map (λ c. c.0) (met_in words)

-- -- what was given to that command

-- the first value of an argument
abbrev pub value_of : Text → Option (Text × List Row) → Option Text
value_of id command = option_and_then (first_of id) (option_map (λ c. c.1) command)

-- the scenario's file, named FILE in each command; that of the history in an audit of one file
abbrev pub file_of : Option (Text × List Row) → Option Text
file_of = value_of (codes "FILE")

-- the history's file, which has this name in a race, an audit and a conversation
abbrev pub history_of : Option (Text × List Row) → Option Text
history_of = value_of (codes "history")

-- the file for a picture of a race
abbrev pub picture_of : Option (Text × List Row) → Option Text
picture_of = value_of (codes "svg")

-- the text of an option or a flag
abbrev pub text_of : Text → Option (Text × List Row) → Option Text
text_of id command = option_and_then (one_of id) (option_map (λ c. c.1) command)

abbrev pub explain_of : Option (Text × List Row) → Option Text
explain_of = text_of (codes "explain")

-- the number that decimal digits denote, with or without a leading plus
abbrev pub number_of : Text → ℕ
number_of text = digits_value 10 (without_leading_plus text)

abbrev pub workers_of : Option (Text × List Row) → Option ℕ
workers_of command = option_map number_of (text_of (codes "workers") command)

-- how many microseconds the check of a signature takes
abbrev pub verify_us_of : Option (Text × List Row) → Option ℕ
verify_us_of command = option_map number_of (text_of (codes "verify-us") command)

-- the name of the accepted signatures
abbrev pub signatures_of : Option (Text × List Row) → Option Text
signatures_of = value_of (codes "signatures")

-- the salt of a conversation's tables
abbrev pub salt_of : Option (Text × List Row) → Option ℕ
salt_of command = option_map number_of (text_of (codes "salt") command)

-- how many names a conversation may declare
abbrev pub most_names_of : Option (Text × List Row) → Option ℕ
most_names_of command = option_map number_of (text_of (codes "names") command)

-- all values of an option
abbrev pub values_of : Text → Option (Text × List Row) → List Text
values_of id command = unwrap_or (option_and_then (all_of id) (option_map (λ c. c.1) command)) []

-- the first and the second, the third and the fourth, and so on
unfoldable pub pairs_of : {X : Type 0} → List X → List (X × X)
pairs_of [] = []
pairs_of (x ∷ []) = []
pairs_of (x ∷ y ∷ rest) = (x, y) ∷ pairs_of rest

-- the files of each client: the one that its lines are in, and the one for their answers
abbrev pub clients_of : Option (Text × List Row) → List (Text × Text)
clients_of command = pairs_of (values_of (codes "client") command)

-- there are too many clients
abbrev pub clients_fault : List (Text × Text) → Kinds
clients_fault clients = if nat_lt 63 (length clients) then TooManyValues ∷ [] else []

-- what may be wrong with these words: the first fault that clap finds, or too many clients
abbrev pub fault_in : List Text → Kinds
fault_in words = or_else (fault_of program words) (clients_fault (clients_of (met_in words)))

-- what the text of a flag means
pub record IsFlag (text : Option Text) (set : Bool) : Type 0 where
  pub none : text ≡ None → set ≡ false
  pub true_text : text ≡ Some (codes "true") → set ≡ true
  pub false_text : text ≡ Some (codes "false") → set ≡ false

-- what that name means, which is one of two
abbrev pub IsChoice : Option Text → SchemeName → Type 0
IsChoice None scheme = scheme ≡ Trial
IsChoice (Some name) scheme = IsNamed name scheme

-- -- what the words ask for

abbrev pub name_of : Asked → Text
name_of (Run input signatures) = codes "run"
name_of (Race input workers signatures wishes) = codes "race"
name_of (Audit file history signatures explains) = codes "audit"
name_of (Serve signatures salt names history clients) = codes "serve"

abbrev pub file_text : Option (Bor Text) → Option Text
file_text = option_map (λ s. s.now)

-- the scenario's file, or the only file of an audit
abbrev pub scenario_of : Asked → Option Text
scenario_of (Run input signatures) = file_text input.file
scenario_of (Race input workers signatures wishes) = file_text input.file
scenario_of (Audit file history signatures explains) = Some file.now
scenario_of (Serve signatures salt names history clients) = None

abbrev pub explains_of : Asked → Bool
explains_of (Run input signatures) = input.explains
explains_of (Race input workers signatures wishes) = input.explains
explains_of (Audit file history signatures explains) = explains
explains_of (Serve signatures salt names history clients) = false

-- the signatures that are accepted
abbrev pub scheme_of : Asked → SchemeName
scheme_of (Run input signatures) = signatures
scheme_of (Race input workers signatures wishes) = signatures
scheme_of (Audit file history signatures explains) = signatures
scheme_of (Serve signatures salt names history clients) = signatures

-- a race has the given number of workers, from 1 to 64
abbrev pub HasWorkers : Option ℕ → Asked → Type 0
HasWorkers given (Race input workers signatures wishes) = (given ≡ Some workers) × (1 ≤ workers) × (workers ≤ 64)
HasWorkers given asked = ⊤

-- the file for a race's history is the given one, or none, and so is the second file of an audit
abbrev pub HasHistory : Option Text → Asked → Type 0
HasHistory given (Run input signatures) = ⊤
HasHistory given (Race input workers signatures wishes) = file_text wishes.history ≡ given
HasHistory given (Audit file history signatures explains) = file_text history ≡ given
HasHistory given (Serve signatures salt names history clients) = file_text history ≡ given

-- the file for a race's picture is the given one, or none
abbrev pub HasPicture : Option Text → Asked → Type 0
HasPicture given (Race input workers signatures wishes) = file_text wishes.picture ≡ given
HasPicture given asked = ⊤

-- the check of a signature in a race takes the given number of microseconds, up to 1,000,000, or 0
abbrev pub HasDelay : Option ℕ → Asked → Type 0
HasDelay given (Race input workers signatures wishes) = (wishes.verify_us ≡ unwrap_or given 0) × (wishes.verify_us ≤ 1000000)
HasDelay given asked = ⊤

abbrev pub files_of : ClientFiles → Text × Text
files_of client = (client.input.now, client.output.now)

-- a conversation's clients have the given files, and are at most 63
abbrev pub HasClients : List (Text × Text) → Asked → Type 0
HasClients given (Serve signatures salt names history clients) = (map files_of clients.items ≡ given) × (length given ≤ 63)
HasClients given asked = ⊤

-- a conversation may declare the given number of names, from 1 to 2^32, or 65,536
abbrev pub HasNames : Option ℕ → Asked → Type 0
HasNames given (Serve signatures salt names history clients) = names ≡ unwrap_or given 65536
HasNames given asked = ⊤

-- a conversation has the given salt, or none
abbrev pub HasSalt : Option ℕ → Asked → Type 0
HasSalt given (Serve signatures salt names history clients) = salt ≡ given
HasSalt given asked = ⊤
