-- One more id in the table.
use Rattle.std.proofs.Common.{◌≡◌, ℕ, ◌+◌, ◌<◌, Bool, true, false, nat_eq, ◌||◌, List, length, get_or, take, if◌then◌else◌, refl, sym, ap, ◌∙◌}
use Rattle.std.specs.Prelude.{Option, None, Some, is_some}
use Rattle.std.specs.List.{list_any}
use Rattle.std.specs.Map.{lookup}
use Rattle.std.specs.Cmp.Lexicographic.{pointwise}
use Rattle.std.proofs.lemmas.List.Folds.{list_any_more}
use Rattle.mp_tx.specs.Reference.{same_ref}
use Rattle.mp_utxo.specs.ById.{key_of}
use Rattle.mp_utxo.proofs.ById.{same-key}
use Rattle.mp_seqpool.specs.Inside.IdSet.{Table, AreNamed, Notes}

either : (a : Bool) (o : Option (Unit {0})) → is_some (if a then Some tt else o) ≡ (is_some o || a)
either true None = refl
either true (Some x) = refl
either false None = refl
either false (Some x) = refl

pub named_more : (ids : List (List ℕ)) (i : ℕ) (d : List ℕ) (old new : Table) → i < length ids → AreNamed (take i ids) old → Notes old (get_or ids i d) new → AreNamed (take (i + 1) ids) new
named_more ids i d old new lt before noted = λ n.
    ap is_some (noted (key_of n))
    ∙ either (same_ref (key_of (get_or ids i d)) (key_of n)) (lookup (same_ref (key_of n)) old)
    ∙ ap (λ b. b || same_ref (key_of (get_or ids i d)) (key_of n)) (before n)
    ∙ ap (λ b. list_any (λ m. pointwise nat_eq n m) (take i ids) || b) (same-key (get_or ids i d) n)
    ∙ sym (list_any_more (λ m. pointwise nat_eq n m) ids i d lt)
