-- Lines that are answered in turn.
use Rattle.std.specs.Prelude.{◌≡◌, ℕ, ◌-◌, ◌^◌, ◌≤◌, List, [], ◌∷◌, ◌++◌, take, Option, Result, Ok, Err}
use Rattle.std.specs.Io.KnownBytes.{Appends}
use Rattle.mp_serve.specs.Served.{AppendsUpTo}
use Rattle.mp_clients.specs.declared.fault.ClientFault.{ClientFault}
use Rattle.mp_clients.specs.declared.fault.ClientFault.TheVariants.{NoMemory, ReadFault, WriteFault, ManyLines, Foreign, Untold}

-- A step says what may be answered to a line, and what state follows.
module _ {S : Type 0} (Step : S → List ℕ → List ℕ → S → Type 0) where
  -- the text is the answers to the lines, and u is the state after them
  abbrev pub AreTold : S → List (List ℕ) → List ℕ → S → Type 0
  AreTold s [] text u = (text ≡ []) × (u ≡ s)
  AreTold s (line ∷ lines) text u =
      (first rest : List ℕ) × (v : S) × (text ≡ first ++ rest) × Step s line first v × AreTold v lines rest u

  -- these lines were answered
  abbrev pub WereTold : S → Option (List ℕ) → Option (List ℕ) → List (List ℕ) → S → Type 0
  WereTold s old new lines u = (text : List ℕ) × AreTold s lines text u × Appends old new text

  -- some first lines were answered, and the answer to the last of them may be cut off
  abbrev pub WasCut : S → Option (List ℕ) → Option (List ℕ) → List (List ℕ) → S → Type 0
  WasCut s old new lines u = (k : ℕ) × (text : List ℕ) × AreTold s (take k lines) text u × AppendsUpTo old new text

  -- How a conversation over these lines ends, from the state s to u: after the last, or before. `Breaks` says what may have happened
  -- to the state without an answer.
  abbrev pub Ended : (S → S → ClientFault → Type 0) → S → List (List ℕ) → Option (List ℕ) → Option (List ℕ) → Result (Unit {0}) ClientFault → S → Type 0
  Ended Breaks s lines old new (Ok done) u = WereTold s old new lines u
  Ended Breaks s lines old new (Err WriteFault) u = WasCut s old new lines u
  Ended Breaks s lines old new (Err ReadFault) u = (k : ℕ) × WereTold s old new (take k lines) u
  Ended Breaks s lines old new (Err Foreign) u =
      (k : ℕ) × (t : S) × WereTold s old new (take k lines) t × Breaks t u Foreign
  Ended Breaks s lines old new (Err Untold) u =
      (k : ℕ) × (t : S) × WereTold s old new (take k lines) t × Breaks t u Untold
  Ended Breaks s lines old new (Err ManyLines) u = (k : ℕ) × (2 ^ 64 - 2 ≤ k) × WereTold s old new (take k lines) u
  Ended Breaks s lines old new (Err NoMemory) u = ⊥
