-- Prefixes of a pool's items.
use Rattle.std.proofs.Common.{◌≡◌, ℕ, ◌+◌, ◌≤◌, min, List, [], ◌∷◌, ◌++◌, length, take, drop, sym, ap, subst, ◌∙◌, arith, length-append, length-take, take-append-drop}
use Rattle.std.specs.FinMap.{get}
use Rattle.std.specs.Prelude.{sum_by}
use Rattle.std.proofs.lemmas.List.{map-append, take_all}
use Rattle.std.proofs.lemmas.List.Sums.{sum_by-append}
use mathlib.Core.List.{IsPrefix}
use Rattle.mp_tx.specs.Transaction.{Transaction}
use Rattle.mp_tx.specs.Spelling.{size_of}
use Rattle.mp_utxo.specs.Apply.{Unspent, apply}
use Rattle.mp_rules.specs.Verifier.{Accepts}
use Rattle.mp_rules.specs.Validity.{Chain}
use Rattle.mp_tickets.specs.Tickets.{after}
use Rattle.mp_seqpool.specs.Keep.{transactions, bytes_of}
use Rattle.mp_seqpool.specs.Pool.{Pool}
use Rattle.mp_seqpool.specs.PoolLaws.{IsLawful}
use Rattle.mp_seqpool.proofs.Histories.{lawful-after}
use Rattle.mp_history.specs.Log.{Log, IsLegalLog, commands, state_after}
use Rattle.mp_history.proofs.Prefixes.{prefix_trans}
use Rattle.mp_seqpool.specs.Reading.{within, offer}
use Rattle.mp_versions.proofs.Withins.{longest_within}
use Rattle.mp_versions.specs.Offers.{IsLongestOffer}
use Rattle.mp_versions.specs.Blocks.{IsValidBlock}

pub first_ones : {A : Type 0} (n : ℕ) (xs : List A) → IsPrefix (take n xs) xs
first_ones n xs = (drop n xs, take-append-drop n xs)

bytes-append : (xs ys : List (ℕ × Transaction)) → bytes_of (xs ++ ys) ≡ bytes_of xs + bytes_of ys
bytes-append xs ys = ap (sum_by size_of) (map-append (λ i. i.1) xs ys) ∙ sum_by-append size_of (transactions xs) (transactions ys)

-- a prefix has no more bytes than the whole
lighter : (xs ys : List (ℕ × Transaction)) → IsPrefix xs ys → bytes_of xs ≤ bytes_of ys
lighter xs ys p = let all : bytes_of ys ≡ bytes_of xs + bytes_of p.0 = ap bytes_of (sym p.1) ∙ bytes-append xs p.0 in omega arith

pub begins_after : (cursor count bytes : ℕ) (items : List (ℕ × Transaction)) → IsPrefix (offer cursor count bytes items) (after items cursor)
begins_after cursor count bytes items =
    prefix_trans (offer cursor count bytes items) (within bytes (after items cursor)) (after items cursor) (first_ones count (within bytes (after items cursor))) (longest_within bytes (after items cursor)).begins

pub longest : (cursor count bytes : ℕ) (items : List (ℕ × Transaction)) → IsLongestOffer count bytes (after items cursor) (offer cursor count bytes items)
longest cursor count bytes items =
    let next : List (ℕ × Transaction) = after items cursor in
    let run : List (ℕ × Transaction) = within bytes next in
    let k = longest_within bytes next in
    let long : length (take count run) ≡ min count (length run) = length-take count run in
    let few : length (take count run) ≤ count = omega arith in
    let light : bytes_of (take count run) ≤ bytes_of run = lighter (take count run) run (first_ones count run) in
    let bound : bytes_of run ≤ bytes = k.fits in
    record {
      begins = begins_after cursor count bytes items;
      few = few;
      fits = omega arith;
      longest = λ other p n b. let most : length other ≤ length run = k.longest other p b in omega arith;
    }

-- a run within a number of bytes has no more items than the whole
whole_run : (bytes count : ℕ) (items : List (ℕ × Transaction)) → count ≡ length items → take count (within bytes items) ≡ within bytes items
whole_run bytes count items all =
    let run : List (ℕ × Transaction) = within bytes items in
    let begins = (longest_within bytes items).begins in
    let parts : length run + length begins.0 ≡ length items = sym (length-append run begins.0) ∙ ap length begins.1 in
    take_all count run (omega arith)

-- the whole run is taken if as many items are allowed as there are
pub all_of_run : (bytes count : ℕ) (items run taken : List (ℕ × Transaction)) → count ≡ length items → run ≡ within bytes items → taken ≡ take count run → taken ≡ within bytes items
all_of_run bytes count items run taken all is part = part ∙ ap (take count) is ∙ whole_run bytes count items all

pub light_run : (bytes : ℕ) (items : List (ℕ × Transaction)) → bytes_of (within bytes items) ≤ bytes
light_run bytes items = (longest_within bytes items).fits

module _ (accepts : Accepts) where
  chain-left : (u : Unspent) (tick : ℕ) (xs ys : List Transaction) → Chain accepts u tick (xs ++ ys) → Chain accepts u tick xs
  chain-left u tick [] ys c = tt
  chain-left u tick (x ∷ xs) ys c = (c.0, chain-left (apply x u) tick xs ys c.1)

  pub lawful-state : (callers : ℕ) (log : Log) → IsLegalLog accepts callers log → IsLawful accepts (state_after accepts log)
  lawful-state callers log legal = lawful-after accepts log.opening (commands log.entries) legal.lawful

  -- a prefix of the pool's items may go into a block
  pub valid_block : (p : Pool) (items : List (ℕ × Transaction)) → IsLawful accepts p → IsPrefix items p.items → IsValidBlock accepts p items
  valid_block p items law begins =
      let all : transactions p.items ≡ transactions items ++ transactions begins.0 = ap transactions (sym begins.1) ∙ map-append (λ i. i.1) items begins.0 in
      record {
        begins = begins;
        chained = chain-left (get p.ledger.utxo) p.ledger.tick (transactions items) (transactions begins.0) (subst (Chain accepts (get p.ledger.utxo) p.ledger.tick) all law.chained);
      }

  pub valid_blocks : (callers bytes : ℕ) (log : Log) → IsLegalLog accepts callers log → IsValidBlock accepts (state_after accepts log) (within bytes (state_after accepts log).items)
  valid_blocks callers bytes log legal =
      valid_block (state_after accepts log) (within bytes (state_after accepts log).items) (lawful-state callers log legal) (longest_within bytes (state_after accepts log).items).begins
