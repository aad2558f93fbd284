-- Parts of the answer to a line before the pool is open, and to one that was read before the conversation went on.
use Rattle.std.specs.Prelude.{◌≡◌, ◌⊎◌, ℕ, List, ◌∷◌, Option, Result, Ok, Err}
use Rattle.std.specs.Io.KnownBytes.{Appends}
use Rattle.mp_serve.specs.declared.conversation.Conversation.{Conversation}
use Rattle.mp_serve.specs.Served.{IsTold}
use Rattle.mp_serve.specs.Talk.{Step}
use Rattle.mp_serve.specs.Texts.{no_memory_text}
use Rattle.mp_clients.specs.declared.fault.ClientFault.{ClientFault}
use Rattle.mp_clients.specs.Told.{Ended}

-- As the step says. Any answer may be an allocation failure. Then nothing has changed.
abbrev pub IsStepTold : ℕ → Conversation → Step → List ℕ → Conversation → Type 0
IsStepTold n t step text u = IsTold n t step text u ⊎ ((text ≡ no_memory_text) × (u ≡ t))

module _ {S : Type 0} (Step : S → List ℕ → List ℕ → S → Type 0) (Breaks : S → S → ClientFault → Type 0) where
  -- the first of the lines was answered, or the conversation ended with it
  abbrev pub IsFirst : S → List ℕ → List (List ℕ) → Option (List ℕ) → Option (List ℕ) → Result (Unit {0}) ClientFault → S → Type 0
  IsFirst s line rest old new (Ok done) u = (text : List ℕ) × Step s line text u × Appends old new text
  IsFirst s line rest old new (Err fault) u = Ended Step Breaks s (line ∷ rest) old new (Err fault) u
