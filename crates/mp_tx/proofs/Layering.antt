-- The changes of layers, one after another.
use Rattle.std.proofs.Common.{◌≡◌, ℕ, suc, ◌+◌, ◌<◌, List, [], ◌∷◌, ◌++◌, fold, length, get_or, take, drop, refl, sym, ap, ◌∙◌, append_assoc, append-nil, drop-cons, arith}
use Rattle.std.specs.Prelude.{None, Some, Result, Ok, Err, IfOk}
use Rattle.std.specs.Option.{option_or}
use Rattle.std.specs.Map.{lookup}
use Rattle.std.proofs.lemmas.List.{take_more, take-append-drop}
use Rattle.std.proofs.lemmas.List.Sums.{fold-append}
use Rattle.mp_tx.specs.declared.reference.OutRef.{OutRef}
use Rattle.mp_tx.specs.declared.ledger.change.Change.{Change}
use Rattle.mp_tx.specs.Reference.{same_ref}
use Rattle.mp_tx.specs.Ledger.{Utxo}
use Rattle.mp_tx.specs.Inside.Changes.{Noted, changed, with_earlier}
use Rattle.mp_tx.specs.Inside.Tables.{Layer, all_of}
use Rattle.mp_tx.proofs.Changed.{lookup-append, changed-append, changed-joined}

pub all_of-append : (ls ms : List Layer) → all_of (ls ++ ms) ≡ all_of ls ++ all_of ms
all_of-append [] ms = refl
all_of-append (l ∷ ls) ms = ap (λ es. l.noted ++ es) (all_of-append ls ms) ∙ sym (append_assoc l.noted (all_of ls) (all_of ms))

all_of_more : (ls : List Layer) (i : ℕ) (l : Layer) → i < length ls → l ≡ get_or ls i l → all_of (take (i + 1) ls) ≡ all_of (take i ls) ++ l.noted
all_of_more ls i l lt is =
    ap all_of (take_more ls i l lt)
    ∙ all_of-append (take i ls) (get_or ls i l ∷ [])
    ∙ ap (λ es. all_of (take i ls) ++ es) (append-nil (get_or ls i l).noted ∙ ap (λ (m : Layer). m.noted) (sym is))

-- one more layer is joined
pub joined_more : (old mid new : Noted) (ls : List Layer) (i : ℕ) (l : Layer) → i < length ls → l ≡ get_or ls i l → mid ≡ fold with_earlier old (all_of (take i ls)) → new ≡ fold with_earlier mid l.noted → new ≡ fold with_earlier old (all_of (take (i + 1) ls))
joined_more old mid new ls i l lt is before joins =
    joins
    ∙ ap (λ cs. fold with_earlier cs l.noted) before
    ∙ sym (fold-append with_earlier old (all_of (take i ls)) l.noted)
    ∙ ap (fold with_earlier old) (sym (all_of_more ls i l lt is))

-- one more layer has no change of the reference
pub absent_more : (ls : List Layer) (i : ℕ) (l : Layer) (r : OutRef) → i < length ls → l ≡ get_or ls i l → lookup (same_ref r) (all_of (take i ls)) ≡ None → lookup (same_ref r) l.noted ≡ None → lookup (same_ref r) (all_of (take (i + 1) ls)) ≡ None
absent_more ls i l r lt is before none =
    ap (lookup (same_ref r)) (all_of_more ls i l lt is)
    ∙ lookup-append (same_ref r) (all_of (take i ls)) l.noted
    ∙ ap (λ o. option_or o (lookup (same_ref r) l.noted)) before
    ∙ none

-- the first layer that has a change of the reference has the last one
pub found_at : (ls : List Layer) (i : ℕ) (l : Layer) (r : OutRef) (c : Change) → i < length ls → l ≡ get_or ls i l → lookup (same_ref r) (all_of (take i ls)) ≡ None → lookup (same_ref r) l.noted ≡ Some c → lookup (same_ref r) (all_of ls) ≡ Some c
found_at ls i l r c lt is before found =
    let rest = all_of (drop (suc i) ls) in
    let split : all_of ls ≡ all_of (take i ls) ++ (l.noted ++ rest) =
    ap all_of (sym (take-append-drop i ls)) ∙ all_of-append (take i ls) (drop i ls)
    ∙ ap (λ ms. all_of (take i ls) ++ all_of ms) (drop-cons ls i l lt)
    ∙ ap (λ (m : Layer). all_of (take i ls) ++ (m.noted ++ rest)) (sym is) in
    ap (lookup (same_ref r)) split
    ∙ lookup-append (same_ref r) (all_of (take i ls)) (l.noted ++ rest)
    ∙ ap (λ o. option_or o (lookup (same_ref r) (l.noted ++ rest))) before
    ∙ lookup-append (same_ref r) l.noted rest
    ∙ ap (λ o. option_or o (lookup (same_ref r) rest)) found

-- joined with the newest layers, the changes have the same effect on the others as on all
pub layered : (u : Utxo) (cs new : Noted) (ls : List Layer) (n : ℕ) → new ≡ fold with_earlier cs (all_of (take n ls)) → changed u (new ++ all_of (drop n ls)) ≡ changed (changed u (all_of ls)) cs
layered u cs new ls n is =
    let older = all_of (drop n ls) in
    changed-append u new older
    ∙ ap (changed (changed u older)) is
    ∙ changed-joined (changed u older) cs (all_of (take n ls))
    ∙ ap (λ v. changed v cs) (sym (changed-append u (all_of (take n ls)) older) ∙ ap (changed u) (sym (all_of-append (take n ls) (drop n ls)) ∙ ap all_of (take-append-drop n ls)))

-- joined with all layers, they are directly above the table
pub settled_layers : (u : Utxo) (cs new : Noted) (ls : List Layer) (n : ℕ) → new ≡ fold with_earlier cs (all_of (take n ls)) → drop n ls ≡ [] → changed u new ≡ changed (changed u (all_of ls)) cs
settled_layers u cs new ls n is none =
    ap (changed u) (sym (append-nil new) ∙ ap (λ ms. new ++ all_of ms) (sym none)) ∙ layered u cs new ls n is

pub nothing_in : {X : Type 0} (xs : List X) → length xs ≡ 0 → xs ≡ []
nothing_in [] e = refl
nothing_in (x ∷ xs) e = absurd (omega arith)

pub if_ok : {X E : Type 0} {P Q : X → Type 0} (r : Result X E) → ((x : X) → P x → Q x) → IfOk r P → IfOk r Q
if_ok (Ok x) then p = then x p
if_ok (Err e) then p = tt
