-- The answers to lines, one after the other.
use Rattle.std.specs.Prelude.{◌≡◌, ℕ, ◌-◌, ◌^◌, ◌⊎◌, List, [], ◌∷◌, ◌++◌, take, Option, None, Some, Result, Ok, Err}
use Rattle.std.specs.Io.KnownBytes.{Appends, Keeps}
use Rattle.mp_text.specs.Lines.{lines_of}
use Rattle.mp_serve.specs.Texts.{no_memory_text, bad_text}
use Rattle.mp_serve.specs.declared.conversation.Conversation.{Conversation}
use Rattle.mp_serve.specs.Talk.{Step, line_step, counted}
use Rattle.mp_serve.specs.declared.fault.ConversationFault.{ConversationFault}
use Rattle.mp_serve.specs.declared.fault.ConversationFault.TheVariants.{NoMemory, ReadFault, WriteFault, ManyLines}

-- the answer to the bad line with this number says why it is bad
abbrev pub IsBadLine : ℕ → List ℕ → Type 0
IsBadLine n text = (why : List ℕ) × (text ≡ bad_text n ++ why ++ 10 ∷ [])

-- as the line asks; nothing has changed after a bad line
abbrev pub IsTold : ℕ → Conversation → Step → List ℕ → Conversation → Type 0
IsTold n t None text u = IsBadLine n text × (u ≡ t)
IsTold n t (Some r) text u = (text ≡ r.1) × (u ≡ r.0)

-- Any answer may be an allocation failure. Then nothing has changed.
abbrev pub IsAnswer : ℕ → Conversation → List ℕ → List ℕ → Conversation → Type 0
IsAnswer n t line text u = IsTold n t (line_step t line) text u ⊎ ((text ≡ no_memory_text) × (u ≡ t))

-- the text is the answers to the lines, and u is the state after them
abbrev pub AreAnswers : Conversation → List (List ℕ) → List ℕ → Conversation → Type 0
AreAnswers t [] text u = (text ≡ []) × (u ≡ t)
AreAnswers t (line ∷ lines) text u =
    (first rest : List ℕ) × (v : Conversation) × (text ≡ first ++ rest) × IsAnswer t.line t line first v × AreAnswers (counted v) lines rest u

-- these lines were answered
abbrev pub WereAnswered : Conversation → Option (List ℕ) → Option (List ℕ) → List (List ℕ) → Type 0
WereAnswered start old new lines =
    (text : List ℕ) × (t : Conversation) × AreAnswers start lines text t × Appends old new text

-- a prefix of these bytes was written, perhaps all of them
abbrev pub AppendsUpTo : Option (List ℕ) → Option (List ℕ) → List ℕ → Type 0
AppendsUpTo old new bytes = (taken : ℕ) × Appends old new (take taken bytes)

-- some first lines were answered, and the answer to the last of them may be cut off
abbrev pub WasCut : Conversation → Option (List ℕ) → Option (List ℕ) → List (List ℕ) → Type 0
WasCut start old new lines =
    (k : ℕ) × (text : List ℕ) × (t : Conversation) × AreAnswers start (take k lines) text t × AppendsUpTo old new text

-- how a conversation ends: at the end of the input, when a device fails, or before it begins
abbrev pub Ended : Conversation → List ℕ → Option (List ℕ) → Option (List ℕ) → Result (Unit {0}) ConversationFault → Type 0
Ended start bytes old new (Ok u) = WereAnswered start old new (lines_of bytes)
Ended start bytes old new (Err WriteFault) = WasCut start old new (lines_of bytes)
Ended start bytes old new (Err ReadFault) = (k : ℕ) × WereAnswered start old new (take k (lines_of bytes))
Ended start bytes old new (Err ManyLines) =
    (k : ℕ) × (k ≡ 2 ^ 64 - 2) × WereAnswered start old new (take k (lines_of bytes))
Ended start bytes old new (Err NoMemory) = Keeps old new
