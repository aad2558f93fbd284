-- The operator's lines before the pool is open.
use Rattle.std.specs.Prelude.{◌≡◌, ℕ, true, false, List, ◌∷◌, ◌++◌, Option, Some, IsSomeAnd, Bool, Result, Ok, Err}
use Rattle.std.specs.Io.KnownBytes.{Appends}
use Rattle.mp_text.specs.Lines.{lines_of}
use Rattle.mp_names.specs.Names.{Names}
use Rattle.mp_session.specs.declared.session.Stage.{Stage}
use Rattle.mp_session.specs.declared.session.Stage.TheVariants.{Before, Open}
use Rattle.mp_serve.specs.ServedPool.{ServedPool}
use Rattle.mp_serve.specs.declared.conversation.Conversation.{Conversation}
use Rattle.mp_serve.specs.declared.fault.ConversationFault.{ConversationFault}
use Rattle.mp_serve.specs.Ask.{ask_of}
use Rattle.mp_serve.specs.Served.{AreAnswers, Ended}
use Rattle.mp_clients.specs.Asking.{opens}

-- the pool isn't open
abbrev pub IsBefore : Stage ServedPool → Type 0
IsBefore (Before b) = Unit {0}
IsBefore (Open p) = ⊥

-- the line asks for something that opens the pool
abbrev pub Opens : Names → ℕ → List ℕ → Type 0
Opens names most line = IsSomeAnd (ask_of names most line) (λ ask. opens ask ≡ true)

-- Some first lines were answered, and the next one opens the pool. The bytes after it are left.
pub record HasCome (start : Conversation) (bytes : List ℕ) (old new : Option (List ℕ)) (line : List ℕ) (u : Conversation)
    (left : Option (List ℕ)) : Type 0 where
  pub lines : List (List ℕ)
  pub rest : List ℕ
  pub text : List ℕ
  pub whole : lines_of bytes ≡ lines ++ line ∷ lines_of rest
  pub told : AreAnswers start lines text u
  pub wrote : Appends old new text
  pub opens_it : Opens u.session.names u.most_names line
  pub left_is : left ≡ Some rest

-- all lines were answered
abbrev pub AreAll : Conversation → List ℕ → Option (List ℕ) → Option (List ℕ) → Conversation → Type 0
AreAll start bytes old new u = (text : List ℕ) × AreAnswers start (lines_of bytes) text u × Appends old new text

-- How the part before the pool is open ends: with a line that opens it, with the input, or with a fault.
abbrev pub HasBegun : Conversation → List ℕ → Option (List ℕ) → Option (List ℕ) → Result Bool ConversationFault → List ℕ → Conversation → Option (List ℕ) → Type 0
HasBegun start bytes old new (Ok true) line u left = HasCome start bytes old new line u left
HasBegun start bytes old new (Ok false) line u left = AreAll start bytes old new u
HasBegun start bytes old new (Err fault) line u left = Ended start bytes old new (Err fault)
