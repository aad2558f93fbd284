-- What a pool answers to a request to go back.
use Rattle.std.proofs.Common.{◌≡◌, ℕ, ◌-◌, ◌<◌, ◌≤◌, List, length, take, drop, sym, ap, ◌∙◌}
use Rattle.std.specs.Prelude.{None, Some, Result, Ok, Err, OnOk, IfOk}
use Rattle.std.specs.declared.vec.Vec.{Vec}
use Rattle.mp_tx.specs.Ledger.{LedgerState}
use Rattle.mp_seqpool.specs.Command.{Sync}
use Rattle.mp_seqpool.specs.Pool.{Pool}
use Rattle.mp_seqpool.specs.SlowPool.{answer, next}
use Rattle.mp_names.specs.Names.{Names}
use Rattle.mp_answers.specs.AnswerText.{answer_text}
use Rattle.mp_serve.specs.declared.former.Former.{Former}
use Rattle.mp_serve.specs.Refused.{one_more}
use Rattle.mp_signatures.specs.Scheme.{accepted_by}
use Rattle.mp_serve.specs.ServedPool.{ServedPool, state_back}
use Rattle.mp_serve.specs.Request.{Response, Return, counted_anew, go_back, respond}
use Rattle.mp_serve.specs.Texts.{back_refused_text}
use Rattle.mp_serve.specs.Inside.Former.{states_of, earliest}
use Rattle.mp_serve.proofs.Formers.{length-states, state-kept, state-lost}

module _ (names : Names) (p : ServedPool) (fs : List Former) (count : ℕ) (former : p.former ≡ states_of fs p.pool.ledger) where
  many : length p.former ≡ length fs
  many = ap length former ∙ length-states fs p.pool.ledger

  -- too few ledger states are kept
  pub refused_back : (kept backs : ℕ) (text : List ℕ) → length fs < count → kept ≡ length fs → backs ≡ one_more p.refused.backs → text ≡ back_refused_text kept
      → respond names p (Return count) ≡ (record p { refused = record p.refused { backs = backs } }, text)
  refused_back kept backs text lt is counted told =
      let lost : state_back p.former p.pool.ledger count ≡ None =
      ap (λ (states : List LedgerState). state_back states p.pool.ledger count) former ∙ state-lost fs p.pool.ledger count lt in
      let made : ℕ → List ℕ → Response = λ n t. (record p { refused = record p.refused { backs = n } }, t) in
      ap (go_back names p count) lost
      ∙ ap (λ n. made n (back_refused_text (length p.former))) (sym counted)
      ∙ ap (made backs) (ap back_refused_text (many ∙ sym is) ∙ sym told)

  -- the ledger state this many steps ago
  pub went_back : (left : ℕ) (pool : Pool) (states : List LedgerState) (text : List ℕ) → count ≤ length fs → left ≡ length fs - count
      → pool ≡ counted_anew (next (accepted_by p.signatures) p.pool (Sync (earliest (drop left fs) p.pool.ledger)))
      → states ≡ take left p.former
      → text ≡ answer_text names (answer (accepted_by p.signatures) p.pool (Sync (earliest (drop left fs) p.pool.ledger)))
      → respond names p (Return count) ≡ (record p { pool = pool; former = states }, text)
  went_back left pool states text le is done stay told =
      let state : LedgerState = earliest (drop left fs) p.pool.ledger in
      let kept : state_back p.former p.pool.ledger count ≡ Some state =
      ap (λ (ls : List LedgerState). state_back ls p.pool.ledger count) former ∙ state-kept fs p.pool.ledger count le
      ∙ ap (λ n. Some (earliest (drop n fs) p.pool.ledger)) (sym is) in
      let made : Pool → List LedgerState → List ℕ → Response = λ q ls t. (record p { pool = q; former = ls }, t) in
      let first : List LedgerState = take (length p.former - count) p.former in
      let same : first ≡ states = ap (λ n. take n p.former) (ap (λ n. n - count) many ∙ sym is) ∙ sym stay in
      let obeyed : Pool = counted_anew (next (accepted_by p.signatures) p.pool (Sync state)) in
      let answered : List ℕ = answer_text names (answer (accepted_by p.signatures) p.pool (Sync state)) in
      ap (go_back names p count) kept
      ∙ ap (λ ls. made obeyed ls answered) same
      ∙ ap (λ q. made q states answered) (sym done)
      ∙ ap (made pool states) (sym told)

  -- if no allocation fails
  pub went_back-ok : {A E : Type 0} (r : Result (Vec ℕ A) E) (left : ℕ) (pool : Pool) (states : List LedgerState) → count ≤ length fs → left ≡ length fs - count
      → OnOk r (pool ≡ counted_anew (next (accepted_by p.signatures) p.pool (Sync (earliest (drop left fs) p.pool.ledger))))
      → OnOk r (states ≡ take left p.former)
      → IfOk r (λ text. text.items ≡ answer_text names (answer (accepted_by p.signatures) p.pool (Sync (earliest (drop left fs) p.pool.ledger))))
      → IfOk r (λ text. respond names p (Return count) ≡ (record p { pool = pool; former = states }, text.items))
  went_back-ok (Ok text) left pool states le is done stay told = went_back left pool states text.items le is done stay told
  went_back-ok (Err e) left pool states le is done stay told = tt
