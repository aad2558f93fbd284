-- Runs of a scenario to which a conversation answers alike.
use Rattle.std.specs.Prelude.{◌≡◌, ◌<◌, ℕ, false, List, [], ◌∷◌, codes, Some}
use Rattle.mp_text.specs.Words.{words_of}
use Rattle.mp_tx.specs.Spelling.{id_of}
use Rattle.mp_names.specs.DeclaredTx.{DeclaredTx}
use Rattle.mp_names.specs.Names.{Names, tx_named, name_of, has_many}
use Rattle.mp_session.specs.declared.session.Stage.{Stage}
use Rattle.mp_session.specs.declared.session.Stage.TheVariants.{Before, Open}
use Rattle.mp_session.specs.Pool.{ScenarioPool}
use Rattle.mp_session.specs.declared.scene.Scene.{Scene}
use Rattle.mp_session.specs.Scene as runs
use Rattle.mp_serve.specs.declared.conversation.Conversation.{Conversation}
use Rattle.mp_serve.specs.Texts.{ok_text}
use Rattle.mp_serve.specs.Talk.{line_step}

-- the answer to a line, given what a run writes for it
abbrev pub or_ok : List ℕ → List ℕ
or_ok [] = ok_text
or_ok (byte ∷ bytes) = byte ∷ bytes

-- if the pool is open, it may make one more change
abbrev pub HasRoom : Stage ScenarioPool → Type 0
HasRoom (Before b) = Unit {0}
HasRoom (Open p) = p.pool.changes < p.pool.limit

-- a submit names its transaction as the answers do
abbrev pub UsesReportedName : Names → List ℕ → Type 0
UsesReportedName names line =
    (word : List ℕ) (t : DeclaredTx) → words_of line ≡ codes "submit" ∷ word ∷ [] → tx_named word names ≡ Some t → name_of (id_of t.tx) names ≡ word

-- The run does the line, which isn't bad, and writes this text. There may be a further name.
pub record IsPlainLine (most : ℕ) (s : Scene) (line text : List ℕ) (t : Scene) : Type 0 where
  pub step : runs.line_step s line ≡ Some (t, text)
  pub room : HasRoom t.session.stage
  pub name : UsesReportedName s.session.names line
  pub few : has_many s.session.names most ≡ false

-- the run does these lines, and writes these texts, one for each line
abbrev pub IsPlainRun : ℕ → Scene → List (List ℕ) → List (List ℕ) → Type 0
IsPlainRun most s [] texts = texts ≡ []
IsPlainRun most s (line ∷ lines) texts =
    (text : List ℕ) × (others : List (List ℕ)) × (t : Scene) × (texts ≡ text ∷ others) × IsPlainLine most s line text t × IsPlainRun most t lines others

-- the conversation answers these lines so, and none of them is bad
abbrev pub Answers : Conversation → List (List ℕ) → List (List ℕ) → Type 0
Answers c [] texts = texts ≡ []
Answers c (line ∷ lines) texts =
    (text : List ℕ) × (others : List (List ℕ)) × (d : Conversation) × (texts ≡ text ∷ others) × (line_step c line ≡ Some (d, text)) × Answers d lines others
