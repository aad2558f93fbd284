-- How a conversation ends without an answer.
use Rattle.std.proofs.Common.{◌≡◌, ℕ, List, [], ◌∷◌, refl}
use Rattle.std.specs.Prelude.{Option, Err}
use Rattle.mp_rules.specs.Verifier.{Accepts}
use Rattle.mp_answers.proofs.Appending.{Appends-nothing}
use Rattle.mp_clients.specs.declared.conversation.Conversation.{Conversation}
use Rattle.mp_clients.specs.declared.fault.ClientFault.{ClientFault}
use Rattle.mp_clients.specs.declared.fault.ClientFault.TheVariants.{NoMemory, ReadFault, WriteFault, ManyLines, Foreign, Untold}
use Rattle.mp_serve.specs.Ask.{Ask}
use Rattle.mp_clients.specs.declared.stop.ClientStop.TheVariants as stops
use Rattle.mp_clients.specs.Answers.{IsTaken, IsTurn, IsBroken}
use Rattle.mp_clients.specs.Inside.Steps.{IsStopped}
use Rattle.mp_clients.specs.Inside.Before.{IsFirst}
use Rattle.mp_clients.proofs.Progress.{broken}

module _ {N : Type 0} (accepts : Accepts) (callers : ℕ) (s u : Conversation N) where
  -- there are two ways
  pub only_two : (f : ClientFault) → IsBroken accepts callers s u f → (f ≡ Foreign → ⊥) → f ≡ Untold
  only_two Foreign b other = absurd (other refl)
  only_two Untold b other = refl
  only_two NoMemory b other = absurd b
  only_two ReadFault b other = absurd b
  only_two WriteFault b other = absurd b
  only_two ManyLines b other = absurd b

  -- at the first line
  pub broken_first : (line : List ℕ) (rest : List (List ℕ)) (old : Option (List ℕ)) (fault : ClientFault) → IsBroken accepts callers s u fault
      → IsFirst (IsTurn accepts callers) (IsBroken accepts callers) s line rest old old (Err fault) u
  broken_first line rest old fault b =
      broken (IsTurn accepts callers) (IsBroken accepts callers) s (line ∷ rest) old old 0 s u fault only_two ([], (refl, refl), Appends-nothing old) b

  -- an answer was lost
  pub untold_of : (ask : Ask) → IsStopped accepts callers (IsTaken accepts callers s ask) s u stops.Untold → IsBroken accepts callers s u Untold
  untold_of ask (text, v, does, same) = record { ask = ask; text = text; answered = v; taken = does; after = same }
