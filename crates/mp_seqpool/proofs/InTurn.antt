-- If items go in turn, from the last to the first, all others stay valid.
use Rattle.std.proofs.Common.{◌≡◌, ◌≢◌, ℕ, zero, suc, ◌+◌, ◌-◌, ◌<◌, Bool, true, false, ◌||◌, List, [], ◌∷◌, length, get_or, drop, refl, sym, ap, subst, ◌∙◌, arith}
use Rattle.std.specs.Prelude.{Option, None, Some, IfSome, ◌==◌, map, option_map, AllPairs}
use Rattle.std.specs.List.Sorted.{IsStrictlyIncreasing}
use Rattle.std.specs.FinMap.{get}
use Rattle.std.proofs.lemmas.List.{drop_more, drop_all}
use Rattle.std.proofs.lemmas.List.Kept.{AllPairs-from_increasing}
use Rattle.mp_tx.specs.Transaction.{Transaction}
use Rattle.mp_tx.specs.Spelling.{id_of}
use Rattle.mp_tx.specs.Ledger.{LedgerState}
use Rattle.mp_utxo.specs.Apply.{Unspent}
use Rattle.mp_utxo.specs.Overlay.{Overlay}
use Rattle.mp_utxo.specs.Leaf.{IsLeaf, LacksOne, others, other_items}
use Rattle.mp_rules.specs.Verifier.{Accepts}
use Rattle.mp_rules.specs.Validity.{Chain}
use Rattle.mp_tickets.specs.Tickets.{IsRising, has_ticket, item_at, without}
use Rattle.mp_seqpool.specs.ValidatedTx.{ValidatedTx, ticketed}
use Rattle.mp_seqpool.specs.Keep.{transactions}
use Rattle.mp_seqpool.specs.Prepared.{apart, GoInTurn}
use Rattle.mp_seqpool.specs.Inside.Chained.{all_accepted}
use Rattle.mp_seqpool.specs.Inside.NamedLeaves.{Lacks}
use Rattle.mp_seqpool.specs.Inside.Followed.{HasInTurn}
use Rattle.mp_seqpool.proofs.Keeping.{AllPairs-tail}
use Rattle.mp_seqpool.proofs.Leavers.{nothing, step}
use Rattle.mp_seqpool.proofs.LeavesOut.{all_apart, still_at, stands_at, one_less, CanGo, can_go_from}
use Rattle.mp_seqpool.proofs.Reading.{item_ticketed}
use Rattle.mp_seqpool.proofs.TicketsNamed.{Rise, has_none}

abbrev Items : Type 0
Items = List (ℕ × Transaction)

or_swapped : (a b : Bool) → (a || b) ≡ (b || a)
or_swapped true true = refl
or_swapped true false = refl
or_swapped false true = refl
or_swapped false false = refl

-- one more of the tickets, before the others
apart_more : (n : ℕ) (ns : List ℕ) (items : Items) → without (apart ns items) n ≡ apart (n ∷ ns) items
apart_more n ns items = step ns n items (n ∷ ns) (λ k. or_swapped (n == k) (has_ticket ns k))

module _ (accepts : Accepts) (ledger : LedgerState) where
  abbrev u : Unspent
  u = get ledger.utxo

  -- the items are valid in order, and have tickets and ids in order
  pub record AreSound (items : Items) : Type 0 where
    pub rising : IsRising items
    pub distinct : AllPairs (λ a b. a ≢ b) (map id_of (transactions items))
    pub chained : Chain accepts u ledger.tick (transactions items)

  sound_less : (left : Items) (n : ℕ) (t : Transaction) → item_at left n ≡ Some t → IsLeaf u (transactions left) t → AreSound left → AreSound (without left n)
  sound_less left n t at leaf s =
      let l = one_less accepts u ledger.tick left left n t at leaf (record { rising = s.rising; distinct = s.distinct; chained = s.chained; leaves = λ x there leaf. leaf }) in
      record { rising = l.rising; distinct = l.distinct; chained = l.chained }

  sound_at : (left : Items) (n : ℕ) (o : Option Transaction) → item_at left n ≡ o → IfSome o (IsLeaf u (transactions left)) → AreSound left → AreSound (without left n)
  sound_at left n None at leaf s = subst AreSound (sym (nothing left n at)) s
  sound_at left n (Some t) at leaf s = sound_less left n t at leaf s

  pub sound_out : (items : Items) (ns : List ℕ) → GoInTurn ledger items ns → AreSound items → AreSound (apart ns items)
  sound_out items [] turn s = subst AreSound (sym (all_apart items)) s
  sound_out items (n ∷ ns) turn s =
      subst AreSound (apart_more n ns items)
      (sound_at (apart ns items) n (item_at (apart ns items) n) refl turn.0 (sound_out items ns turn.1 s))

-- ---- the last of them

pub turn_drop : (ledger : LedgerState) (items : Items) (k : ℕ) (ns : List ℕ) → GoInTurn ledger items ns → GoInTurn ledger items (drop k ns)
turn_drop ledger items zero ns turn = turn
turn_drop ledger items (suc k) [] turn = turn
turn_drop ledger items (suc k) (n ∷ ns) turn = turn_drop ledger items k ns turn.1

rise_drop : (k : ℕ) (ns : List ℕ) → Rise ns → Rise (drop k ns)
rise_drop zero ns rise = rise
rise_drop (suc k) [] rise = rise
rise_drop (suc k) (n ∷ ns) rise = rise_drop k ns (AllPairs-tail (λ a b. a < b) n ns rise)

module _ (old : Overlay) (items : Items) (gone : List ℕ) (rise : Rise gone) (has : HasInTurn old items gone) where
  left_after : (k : ℕ) → AreSound all_accepted old.ledger (apart (drop k gone) items)
  left_after k =
      sound_out all_accepted old.ledger items (drop k gone) (turn_drop old.ledger items k gone has.turn)
      (record { rising = has.rising; distinct = has.distinct; chained = has.chained })

  module _ (now : Overlay) (k : ℕ) (lt : k < length gone) (lacks : Lacks old items (drop (k + 1) gone) now) where
    abbrev left : Items
    left = apart (drop (k + 1) gone) items

    abbrev ticket : ℕ
    ticket = get_or gone k 0

    -- it isn't among those after it
    not_later : has_ticket (drop (k + 1) gone) ticket ≡ false
    not_later = has_none ticket ticket (drop (k + 1) gone) (subst Rise (drop_more gone k 0 lt) (rise_drop k gone rise)) (omega arith)

    at_left : (o : Option Transaction) → item_at items ticket ≡ o → item_at left ticket ≡ o
    at_left o at = still_at (drop (k + 1) gone) items ticket not_later ∙ at

    less_again : without left ticket ≡ apart (drop k gone) items
    less_again = apart_more ticket (drop (k + 1) gone) items ∙ ap (λ l. apart l items) (sym (drop_more gone k 0 lt))

    -- the transaction of the next ticket can be taken out
    pub next_can_go : (t : Transaction) → item_at items ticket ≡ Some t → CanGo now t
    next_can_go t at =
        let s = left_after (k + 1) in
        let here = at_left (Some t) at in
        let turn : GoInTurn old.ledger items (ticket ∷ drop (k + 1) gone) = subst (GoInTurn old.ledger items) (drop_more gone k 0 lt) (turn_drop old.ledger items k gone has.turn) in
        can_go_from now old.ledger left ticket t lacks.base lacks.applied here s.rising s.distinct s.chained
        (subst (λ o. IfSome o (IsLeaf (get old.ledger.utxo) (transactions left))) here turn.0)

    -- and then one more is out
    pub next_out : (t : Transaction) (new : Overlay) → item_at items ticket ≡ Some t → LacksOne now (id_of t) new → Lacks old items (drop k gone) new
    next_out t new at one =
        let s = left_after (k + 1) in
        let stands = stands_at left ticket t s.rising s.distinct (at_left (Some t) at) in
        record {
          base = one.base ∙ lacks.base;
          applied = one.applied ∙ ap (others (id_of t)) lacks.applied ∙ sym stands.without_it ∙ ap transactions less_again;
          under = one.items ∙ ap (other_items (id_of t)) lacks.under ∙ sym stands.other_items ∙ less_again;
          chained = (left_after k).chained;
        }

    -- if the ticket has none, nothing changes
    pub next_none : item_at items ticket ≡ None → Lacks old items (drop k gone) now
    next_none at =
        let same = sym (nothing left ticket (at_left None at)) ∙ less_again in
        record {
          base = lacks.base;
          applied = lacks.applied ∙ ap transactions same;
          under = lacks.under ∙ same;
          chained = (left_after k).chained;
        }

-- ---- what the code finds for the next ticket

-- those that are out after some iterations
abbrev pub AreOut : Overlay → Items → List ℕ → ℕ → Overlay → Type 0
AreOut old items gone count now = Lacks old items (drop (length gone - count) gone) now

pub none_out : (old : Overlay) (items : Items) (gone : List ℕ) → HasInTurn old items gone → AreOut old items gone 0 old
none_out old items gone has =
    let none : drop (length gone - 0) gone ≡ [] = drop_all (length gone - 0) gone (omega arith) in
    let all : items ≡ apart (drop (length gone - 0) gone) items = sym (ap (λ l. apart l items) none ∙ all_apart items) in
    record {
      base = refl;
      applied = has.applied ∙ ap transactions all;
      under = has.under ∙ all;
      chained = subst (λ l. Chain all_accepted (get old.ledger.utxo) old.ledger.tick (transactions l)) all has.chained;
    }

drop_none : (n : ℕ) (gone : List ℕ) → n ≡ 0 → drop n gone ≡ gone
drop_none n gone e = ap (λ (k : ℕ). drop k gone) e

pub all_out : (old now : Overlay) (items : Items) (gone : List ℕ) (count : ℕ) → count ≡ length gone → AreOut old items gone count now → Lacks old items gone now
all_out old now items gone count is out = subst (λ l. Lacks old items l now) (drop_none (length gone - count) gone (omega arith)) out

module _ (old now : Overlay) (items : List (ℕ × ValidatedTx)) (gone told : List ℕ) (index k : ℕ) (has : HasInTurn old (ticketed items) gone) (same : told ≡ gone) (rising : IsStrictlyIncreasing told)
    (lt : index < length told) (is : k ≡ length told - 1 - index) (out : AreOut old (ticketed items) gone index now) where
  all_told : HasInTurn old (ticketed items) told
  all_told = subst (HasInTurn old (ticketed items)) (sym same) has

  within : k < length told
  within = omega arith

  before : Lacks old (ticketed items) (drop (k + 1) told) now
  before =
      let at : length told - index ≡ k + 1 = omega arith in
      subst (λ (n : ℕ). Lacks old (ticketed items) (drop n told) now) at (subst (λ l. AreOut old (ticketed items) l index now) (sym same) out)

  after_it : (new : Overlay) → Lacks old (ticketed items) (drop k told) new → AreOut old (ticketed items) gone (index + 1) new
  after_it new lacks =
      let at : k ≡ length told - (index + 1) = omega arith in
      subst (λ l. AreOut old (ticketed items) l (index + 1) new) same (subst (λ (n : ℕ). Lacks old (ticketed items) (drop n told) new) at lacks)

  seen_at : (o : Option ValidatedTx) → o ≡ item_at items (get_or told k 0) → item_at (ticketed items) (get_or told k 0) ≡ option_map (λ v. v.tx) o
  seen_at o at = item_ticketed items (get_or told k 0) ∙ ap (option_map (λ v. v.tx)) (sym at)

  pub found_can_go : (item : ValidatedTx) (t : Transaction) → Some item ≡ item_at items (get_or told k 0) → t ≡ item.tx → CanGo now t
  found_can_go item t at tx = next_can_go old (ticketed items) told (AllPairs-from_increasing told rising) all_told now k within before t (seen_at (Some item) at ∙ ap Some (sym tx))

  pub found_out : (item : ValidatedTx) (t : Transaction) (new : Overlay) → Some item ≡ item_at items (get_or told k 0) → t ≡ item.tx → LacksOne now (id_of t) new → AreOut old (ticketed items) gone (index + 1) new
  found_out item t new at tx one =
      after_it new (next_out old (ticketed items) told (AllPairs-from_increasing told rising) all_told now k within before t new (seen_at (Some item) at ∙ ap Some (sym tx)) one)

  pub none_found : None ≡ item_at items (get_or told k 0) → AreOut old (ticketed items) gone (index + 1) now
  none_found at = after_it now (next_none old (ticketed items) told (AllPairs-from_increasing told rising) all_told now k within before (seen_at None at))
