-- What a binary search of blocks by their last tickets finds.
use Rattle.std.proofs.Common.{◌≡◌, ℕ, zero, suc, ◌+◌, ◌-◌, ◌≤◌, true, false, List, [], ◌∷◌, length, take, drop, refl, sym, ap, ◌∙◌, subst, arith}
use Rattle.std.specs.Prelude.{nat_le}
use Rattle.std.specs.List.{All, AllByRecursion, flat_map}
use Rattle.std.specs.List.Sorted.{IsPartitionPoint}
use Rattle.std.proofs.lemmas.List.{take_rest}
use Rattle.std.proofs.lemmas.List.Elements.{All-head, All-same, All-tail, All-drop}
use Rattle.mp_tx.specs.Transaction.{Transaction}
use Rattle.mp_tickets.specs.Tickets.{IsRisingFrom, IsRising, after}
use Rattle.mp_versions.proofs.Parts.{passes, fails}
use Rattle.mp_versions.proofs.Blocks.{ticket_in, rising-left, rising-right, rising-zero, Ends, after_first, after_blocks}
use Rattle.mp_versions.specs.Pages.{last_by}

module _ {B : Type 0} (items : B → List (ℕ × Transaction)) (last : B → ℕ) where
  -- the blocks from the index on are these
  pub parted : (low t : ℕ) (bs rest : List B) (i : ℕ) → AllByRecursion (Ends items last) bs → IsRisingFrom low (flat_map items bs) → i ≤ length bs
      → IsPartitionPoint (λ b. nat_le (last b) t ≡ true) (λ b. nat_le (last b) t ≡ false) bs i → take (length bs - i) (drop i bs) ≡ rest
      → after (flat_map items bs) t ≡ after_first items last t rest
  parted low t bs rest i e r l p c =
      after_blocks items last low t bs i e r (passes (λ b. nat_le (last b) t) bs i l p.0) (fails (λ b. nat_le (last b) t) bs i p.1)
      ∙ ap (after_first items last t) (sym (take_rest bs i) ∙ c)

  rising_at : (low : ℕ) (bs : List B) (i : ℕ) (b : B) (rest : List B) → IsRisingFrom low (flat_map items bs) → drop i bs ≡ b ∷ rest → IsRising (items b)
  rising_at low bs zero b rest r e = rising-zero low (items b) (rising-left low (items b) (flat_map items rest) (subst (λ l. IsRisingFrom low (flat_map items l)) e r))
  rising_at low [] (suc i) b rest r e = let l : 0 ≡ length (b ∷ rest) = ap length e in let more : length (b ∷ rest) ≡ suc (length rest) = refl in absurd (omega arith)
  rising_at low (x ∷ xs) (suc i) b rest r e = rising_at (last_by ticket_in low (items x)) xs i b rest (rising-right low (items x) (flat_map items xs) r) e

  -- the block's tickets are strictly increasing
  pub rising_there : (low : ℕ) (bs : List B) (i : ℕ) (b : B) (rest : List B) → IsRisingFrom low (flat_map items bs) → take (length bs - i) (drop i bs) ≡ b ∷ rest → IsRising (items b)
  rising_there low bs i b rest r e = rising_at low bs i b rest r (sym (take_rest bs i) ∙ e)

  pub rising_item : (low : ℕ) (bs : List B) (i : ℕ) (b : B) → IsRisingFrom low (flat_map items bs) → drop i bs ≡ b ∷ drop (i + 1) bs → IsRising (items b)
  rising_item low bs i b r e = rising_at low bs i b (drop (i + 1) bs) r e

module _ {B : Type 0} (P : B → Type 0) where
  pub first_is : (bs : List B) (i : ℕ) (b : B) (rest : List B) → All P bs → take (length bs - i) (drop i bs) ≡ b ∷ rest → P b
  first_is bs i b rest a e = All-head P b rest (All-same P (b ∷ rest) (drop i bs) (sym (sym (take_rest bs i) ∙ e)) (All-drop P i bs a))

  pub others_are : (bs : List B) (i : ℕ) (b : B) (rest : List B) → All P bs → take (length bs - i) (drop i bs) ≡ b ∷ rest → All P rest
  others_are bs i b rest a e = All-tail P b rest (All-same P (b ∷ rest) (drop i bs) (sym (sym (take_rest bs i) ∙ e)) (All-drop P i bs a))
