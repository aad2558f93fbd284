-- The state of a scenario, and the effect of a line on it.
use Rattle.std.specs.Prelude.{ℕ, ◌+◌, List, [], ◌∷◌, ◌++◌, Option, None, Some, option_map, option_and_then}
use Rattle.mp_seqpool.specs.Keep.{keep}
use Rattle.mp_seqpool.specs.SlowPool.{empty_pool, answer, next}
use Rattle.mp_names.specs.Names.{Names}
use Rattle.mp_lines.specs.Lines.{Line, line_of}
use Rattle.mp_signatures.specs.declared.scheme.Scheme.{Scheme}
use Rattle.mp_signatures.specs.Scheme.{accepted_by}
use Rattle.mp_session.specs.declared.settings.Settings.{Settings}
use Rattle.mp_session.specs.Beginning.{Beginning, opening_ledger}
use Rattle.mp_session.specs.declared.session.Stage.{Stage}
use Rattle.mp_session.specs.declared.session.Stage.TheVariants.{Before, Open}
use Rattle.mp_session.specs.Settings.{limit_of, last_of}
use Rattle.mp_session.specs.Request.{Request, Change, Try, Read}
use Rattle.mp_session.specs.Session.{new_session}
use Rattle.mp_session.specs.Session as sessions
use Rattle.mp_answers.specs.AnswerText.{answer_text}
use Rattle.mp_answers.specs.QueryText.{query_text, for_text, cursor_after}
use Rattle.mp_session.specs.Pool.{ScenarioPool}
use Rattle.mp_session.specs.declared.scene.Scene.{Scene}

-- the salt of a scenario is public
abbrev pub empty_scene : Scheme → Scene
empty_scene scheme = record { signatures = scheme; session = new_session 0 }

abbrev pub opened : Scheme → Settings → Beginning → ScenarioPool
opened scheme g b = record { scheme = scheme; pool = empty_pool (limit_of g) (last_of g) (opening_ledger g b); cursor = 0 }

-- the pool opens with the first request
abbrev pub pool_at : Scheme → Settings → Stage ScenarioPool → ScenarioPool
pool_at scheme g (Before b) = opened scheme g b
pool_at scheme g (Open p) = p

-- The pool after a request, and the line that answers it. Only an offer moves the cursor.
abbrev pub respond : Names → ScenarioPool → Request → ScenarioPool × List ℕ
respond names p (Change c) =
    (record p { pool = next (accepted_by p.scheme) p.pool c }, answer_text names (answer (accepted_by p.scheme) p.pool c))
respond names p (Try l) = (p, for_text names (keep (accepted_by p.scheme) l p.pool.items))
respond names p (Read query) = (record p { cursor = cursor_after p.cursor p.pool query }, query_text names p.cursor p.pool query)

abbrev pub with_response : Scene → ScenarioPool × List ℕ → Scene × List ℕ
with_response s r = (record s { session = record s.session { stage = Open r.0 } }, r.1)

abbrev pub ask : Scene → Request → Scene × List ℕ
ask s request = with_response s (respond s.session.names (pool_at s.signatures s.session.settings s.session.stage) request)

-- a line that only declares something writes nothing
abbrev pub ask_if : Scene → Option Request → Scene × List ℕ
ask_if s None = (s, [])
ask_if s (Some request) = ask s request

-- the state after a line, and what the line writes
abbrev pub Step : Type 0
Step = Option (Scene × List ℕ)

abbrev pub take : Scene → Line → Step
take s line = option_map (λ r. ask_if (record s { session = r.0 }) r.1) (sessions.take s.session line)

unfoldable pub line_step : Scene → List ℕ → Step
line_step s line = option_and_then (take s) (line_of s.session.names line)

-- a bad line ends it; else what the line writes comes before what is written after it
abbrev pub follow : ℕ → (Scene → List ℕ × Option ℕ) → Step → List ℕ × Option ℕ
follow n others None = ([], Some n)
follow n others (Some step) = (step.1 ++ (others step.0).0, (others step.0).1)

-- the text of the lines before the first bad one, and the number of that one, counted from n
abbrev pub outcome : Scene → ℕ → List (List ℕ) → List ℕ × Option ℕ
outcome s n [] = ([], None)
outcome s n (line ∷ lines) = follow n (λ t. outcome t (n + 1) lines) (line_step s line)
