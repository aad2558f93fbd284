-- Transactions that are valid in order, with their signatures and without.
use Rattle.std.proofs.Common.{◌≡◌, ℕ, true, cond, List, [], ◌∷◌, refl, ap, ◌∙◌}
use Rattle.std.specs.Prelude.{is_none, All}
use Rattle.std.proofs.lemmas.List.Elements.{All-head, All-tail}
use Rattle.mp_tx.specs.Transaction.{Transaction}
use Rattle.mp_utxo.specs.Apply.{Unspent, apply}
use Rattle.mp_utxo.specs.Leaf.{IsFed}
use Rattle.mp_rules.specs.Verifier.{Accepts}
use Rattle.mp_rules.specs.Validity.{IsValid, Chain, InInterval, InputsThere, ReferencesThere, OutputsFresh, SignaturesAccepted}
use Rattle.mp_rules.specs.Checked.{IsSigned}
use Rattle.mp_rules.proofs.Faults.{each_rule}
use Rattle.mp_rules.proofs.Meeting.{still}
use Rattle.mp_rules.proofs.Valid.{faultless}
use Rattle.mp_seqpool.specs.Keep.{transactions, is_valid, keep_upon}
use Rattle.mp_seqpool.specs.Inside.Chained.{all_accepted}

module _ (accepts : Accepts) where
  pub valid_unsigned : (u : Unspent) (tick : ℕ) (t : Transaction) → IsValid accepts u tick t → IsValid all_accepted u tick t
  valid_unsigned u tick t valid =
      still accepts all_accepted u u tick tick t valid refl (valid InInterval) (valid InputsThere) (valid ReferencesThere) (valid OutputsFresh) (λ k d lt. refl)

  valid_signed : (u : Unspent) (tick : ℕ) (t : Transaction) → IsValid all_accepted u tick t → IsSigned accepts t → IsValid accepts u tick t
  valid_signed u tick t valid signed =
      still all_accepted accepts u u tick tick t valid refl (valid InInterval) (valid InputsThere) (valid ReferencesThere) (valid OutputsFresh)
      ((each_rule accepts u tick t SignaturesAccepted).holds signed)

  pub chain_unsigned : (u : Unspent) (tick : ℕ) (ts : List Transaction) → Chain accepts u tick ts → Chain all_accepted u tick ts
  chain_unsigned u tick [] chain = tt
  chain_unsigned u tick (t ∷ ts) chain = (valid_unsigned u tick t chain.0, chain_unsigned (apply t u) tick ts chain.1)

  pub chain_signed : (u : Unspent) (tick : ℕ) (ts : List Transaction) → Chain all_accepted u tick ts → All (IsSigned accepts) ts → Chain accepts u tick ts
  chain_signed u tick [] chain signed = tt
  chain_signed u tick (t ∷ ts) chain signed = (
    valid_signed u tick t chain.0 (All-head (IsSigned accepts) t ts signed),
    chain_signed (apply t u) tick ts chain.1 (All-tail (IsSigned accepts) t ts signed),
  )

  -- everything that is spent is there
  pub chain_fed : (u : Unspent) (tick : ℕ) (ts : List Transaction) → Chain accepts u tick ts → IsFed u ts
  chain_fed u tick [] chain = tt
  chain_fed u tick (t ∷ ts) chain = (chain.0 InputsThere, chain_fed (apply t u) tick ts chain.1)

  pub clear : (u : Unspent) (tick : ℕ) (t : Transaction) → IsValid accepts u tick t → is_valid accepts u tick t ≡ true
  clear u tick t valid = ap is_none (faultless accepts u tick t valid)

  -- of a chain, everything is kept
  pub all_kept : (u : Unspent) (tick : ℕ) (items : List (ℕ × Transaction)) → Chain accepts u tick (transactions items) → keep_upon accepts u tick items ≡ items
  all_kept u tick [] chain = refl
  all_kept u tick (i ∷ is) chain =
      ap (λ b. cond b (i ∷ keep_upon accepts (apply i.1 u) tick is) (keep_upon accepts u tick is)) (clear u tick i.1 chain.0)
      ∙ ap (λ l. i ∷ l) (all_kept (apply i.1 u) tick is chain.1)
