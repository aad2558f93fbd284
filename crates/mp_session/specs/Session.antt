-- How a line changes the state of a session, and what it asks of the pool. A session is a scenario, a conversation or a race.
use Rattle.std.specs.Prelude.{ℕ, List, Option, None, Some, option_map}
use Rattle.mp_tx.specs.declared.reference.OutRef.{OutRef}
use Rattle.mp_tx.specs.declared.output.Output.{Output}
use Rattle.mp_seqpool.specs.Command as commands
use Rattle.mp_names.specs.declared.names.Binding.TheVariants.{Opening, Made}
use Rattle.mp_names.specs.declared.payment.Payment.{Payment}
use Rattle.mp_names.specs.declared.settings.Setting.{Setting}
use Rattle.mp_names.specs.Names.{Names, first_names, with_binding, with_script, with_datum}
use Rattle.mp_names.specs.References.{opening_ref}
use Rattle.mp_lines.specs.Lines.{Line, Blank, Sets, Script, Data, Out, Tx, Submit, Remove, Sync, For, Asks}
use Rattle.mp_session.specs.Beginning.{Beginning, empty_beginning, with_out, with_utxo}
use Rattle.mp_session.specs.declared.session.Session.{Session}
use Rattle.mp_session.specs.declared.session.Stage.{Stage}
use Rattle.mp_session.specs.declared.session.Stage.TheVariants.{Before, Open}
use Rattle.mp_session.specs.Settings.{no_settings, with_setting}
use Rattle.mp_session.specs.Ledgers.{ledger_at}
use Rattle.mp_session.specs.Request.{Request, Change, Try, Read}

-- the state after a line, and what it asks of the pool
abbrev pub Step : Type 0 → Type 0
Step P = Option (Session P × Option Request)

module _ {P : Type 0} where
  -- before the first line
  abbrev pub new_session : ℕ → Session P
  new_session salt = record { names = first_names; settings = no_settings salt; stage = Before (empty_beginning salt) }

  -- settings are allowed before the first request
  abbrev pub set_at : Session P → Setting → Stage P → Option (Session P)
  set_at s setting (Before b) = option_map (λ g. record s { settings = g }) (with_setting s.settings setting)
  set_at s setting (Open p) = None

  abbrev pub with_beginning : Session P → Beginning → Session P
  with_beginning s b = record s { stage = Before b }

  abbrev pub with_named : Session P → List ℕ → Payment → Beginning → Beginning → Session P
  with_named s name p old new = record s {
    names = with_binding s.names (record { name = name; binding = Opening (opening_ref old.outs) p });
    stage = Before new;
  }

  -- so are outputs with a name
  abbrev pub output_at : Session P → List ℕ → Payment → Stage P → Option (Session P)
  output_at s name p (Before b) = option_map (with_named s name p b) (with_out b p)
  output_at s name p (Open q) = None

  -- and outputs without one
  abbrev pub hold_at : Session P → OutRef → Output → Stage P → Option (Session P)
  hold_at s r o (Before b) = option_map (with_beginning s) (with_utxo b r o)
  hold_at s r o (Open q) = None

  abbrev pub with_names : Session P → Names → Session P
  with_names s names = record s { names = names }

  -- the line only declares something
  abbrev pub declares : Option (Session P) → Step P
  declares s = option_map (λ s. (s, None)) s

  -- the line declares nothing
  abbrev pub asks : Session P → Request → Step P
  asks s request = Some (s, Some request)

  abbrev pub take : Session P → Line → Step P
  take s Blank = Some (s, None)
  take s (Sets setting) = declares (set_at s setting s.stage)
  take s (Script named) = Some (with_names s (with_script s.names named), None)
  take s (Data named) = Some (with_names s (with_datum s.names named), None)
  take s (Out name p) = declares (output_at s name p s.stage)
  take s (Tx name t) = Some (with_names s (with_binding s.names (record { name = name; binding = Made t })), None)
  take s (Submit t) = asks s (Change (commands.Submit t))
  take s (Remove ids) = asks s (Change (commands.Remove ids))
  take s (Sync l) = asks s (Change (commands.Sync (ledger_at s.settings l)))
  take s (For l) = asks s (Try (ledger_at s.settings l))
  take s (Asks query) = asks s (Read query)
