-- The result of auditing a history over a scenario.
use Rattle.std.specs.Prelude.{ℕ, ◌⊎◌, List, Option, Result, Ok, Err, codes, ◌++◌, ◌∷◌, [], ◌≡◌}
use Rattle.std.specs.Io.KnownBytes.{Appends, Keeps}
use Rattle.mp_text.specs.Output.{AppendsFront}
use Rattle.mp_mempool.specs.Opening.{fresh_log}
use Rattle.mp_rules.specs.Verifier.{Accepts}
use Rattle.mp_race.specs.declared.fault.RaceFault.{RaceFault}
use Rattle.mp_race.specs.declared.fault.RaceFault.TheVariants.{NoMemory, BadLine, ReadFault, WriteFault, Audit, MissingEntry}
use Rattle.mp_race.specs.declared.told.Told.{Told}
use Rattle.mp_race.specs.Scenario.{Scenario}
use Rattle.mp_race.specs.History.{IsHistory, IsFaultOfHistory}
use Rattle.mp_race.specs.HistoryText.{history_text, IsFaultOfText}

-- what is written about a legal history
abbrev pub legal_text : List ℕ
legal_text = codes "audit legal" ++ 10 ∷ []

-- what is written about the result of an audit, and the result of that
abbrev pub IsSaid : Option (List ℕ) → Option (List ℕ) → Result (Unit {0}) RaceFault → Result (Unit {0}) RaceFault → Type 0
IsSaid old new (Ok u) (Ok v) = Appends old new legal_text
IsSaid old new (Ok u) (Err WriteFault) = AppendsFront old new legal_text
IsSaid old new (Ok u) (Err fault) = ⊥
IsSaid old new (Err fault) (Ok v) = ⊥
IsSaid old new (Err fault) (Err other) = (other ≡ fault) × Keeps old new

-- The verifier decides which signatures are good.
module _ (accepts : Accepts) where
  -- The text is a history of this race.
  pub record IsLegalText (s : Scenario) (text : List ℕ) : Type 0 where
    pub workers : ℕ
    pub told : List Told
    pub text_is : text ≡ history_text workers told
    pub legal : IsHistory accepts (fresh_log s.config s.ledger).opening workers s.tasks told

  -- The text is a history with this fault.
  pub record IsFaultyText (s : Scenario) (text : List ℕ) (fault : RaceFault) : Type 0 where
    pub workers : ℕ
    pub told : List Told
    pub text_is : text ≡ history_text workers told
    pub faulty : IsFaultOfHistory accepts (fresh_log s.config s.ledger).opening workers s.tasks told fault

  -- a legal history is said to be so; of another nothing is written, and the fault is that of its text or of its entries
  abbrev pub IsAudited : Scenario → List ℕ → Option (List ℕ) → Option (List ℕ) → Result (Unit {0}) RaceFault → Type 0
  IsAudited s text old new (Ok u) = IsLegalText s text × Appends old new legal_text
  IsAudited s text old new (Err NoMemory) = Keeps old new
  IsAudited s text old new (Err ReadFault) = Keeps old new
  IsAudited s text old new (Err WriteFault) = IsLegalText s text × AppendsFront old new legal_text
  IsAudited s text old new (Err (BadLine line)) = IsFaultOfText text (BadLine line) × Keeps old new
  IsAudited s text old new (Err (Audit fault)) = IsFaultyText s text (Audit fault) × Keeps old new
  IsAudited s text old new (Err (MissingEntry place)) =
      (IsFaultOfText text (MissingEntry place) ⊎ IsFaultyText s text (MissingEntry place)) × Keeps old new
