-- What the lock guards, after one more entry.
use Rattle.std.proofs.Common.{◌≡◌, ℕ, ◌<◌, List, [], ◌∷◌, ◌++◌, length, set, sym, ap, ap₂, subst, ◌∙◌}
use Rattle.std.specs.Prelude.{Option, Some, Ok}
use Rattle.mp_rules.specs.Verifier.{Accepts}
use Rattle.mp_seqpool.specs.Pool.{Pool}
use Rattle.mp_seqpool.specs.Prepared.{Prepared, Prepares, leads_to}
use Rattle.mp_seqpool.specs.SlowPool.{answer}
use Rattle.mp_history.specs.Entry.{Entry}
use Rattle.mp_history.specs.Log.{Log, IsLegalLog, entered, state_after}
use Rattle.mp_versions.proofs.Histories.{number_of}
use Rattle.mp_mempool.specs.Locked.{Locked, holding}
use Rattle.mp_mempool.specs.Inside.Locked.{IsAt, ArePlaces}
use Rattle.mp_mempool.proofs.Places.{noted}
use Rattle.mp_mempool.proofs.Steps.{after_entry, legal_with}

-- one more place is noted, however the entry is written
noted_as : (callers : ℕ) (es : List Entry) (places : List (Option ℕ)) (e : Entry) (n place : ℕ) → ArePlaces callers es places → e.caller < callers → n ≡ e.caller → place ≡ length es
    → ArePlaces callers (es ++ e ∷ []) (set places n (Some place))
noted_as callers es places e n place were known n_is place_is =
    subst (ArePlaces callers (es ++ e ∷ [])) (ap₂ (λ k p. set places k (Some p)) (sym n_is) (sym place_is)) (noted callers es places e were known)

module _ (accepts : Accepts) where
  -- there are as many entries as changes
  pub entries_made : (callers : ℕ) (l : Locked) (log : Log) (p : Pool) (newest : Log) (places : List (Option ℕ)) → log ≡ l.log → IsAt accepts callers log p newest places
      → p.changes ≡ length l.log.entries
  entries_made callers l log p newest places same at =
      ap (λ q. q.changes) at.state ∙ number_of accepts callers log at.legal ∙ ap (λ k. length k.entries) same

  -- everything is what the longer history leads to
  pub is_at_next : (callers : ℕ) (l : Locked) (log : Log) (p : Pool) (newest : Log) (places : List (Option ℕ)) (e : Entry) (q : Prepared) (n place : ℕ) (log_now newest_now : Log) (p_now : Pool)
      → log ≡ l.log → IsAt accepts callers log p newest places → Prepares accepts (holding accepts l) q.command q → e.command ≡ q.command → e.reply ≡ q.reply
      → e.caller < callers → n ≡ e.caller → place ≡ length l.log.entries
      → log_now ≡ entered log e → p_now ≡ leads_to p q → newest_now ≡ log_now
      → IsAt accepts callers log_now p_now newest_now (set places n (Some place))
  is_at_next callers l log p newest places e q n place log_now newest_now p_now same at prepared asked reply known n_is place_is log_is p_is newest_is =
      let prepares : Prepares accepts (holding accepts l) e.command q = subst (λ k. Prepares accepts (holding accepts l) k q) (sym asked) prepared in
      let state_here : p ≡ state_after accepts l.log = at.state ∙ ap (state_after accepts) same in
      let told : answer accepts (state_after accepts log) e.command ≡ Ok e.reply =
      subst (λ k. answer accepts (state_after accepts k) e.command ≡ Ok e.reply) (sym same) (prepares.reply ∙ ap Ok (sym reply)) in
      let legal_now : IsLegalLog accepts callers (entered log e) = legal_with accepts callers log e at.legal known told in
      let state_now : p_now ≡ state_after accepts (entered log e) =
      p_is ∙ ap (λ s. leads_to s q) state_here ∙ sym prepares.leads ∙ sym (after_entry accepts l.log e) ∙ ap (λ k. state_after accepts (entered k e)) (sym same) in
      let places_now : ArePlaces callers (entered log e).entries (set places n (Some place)) =
      noted_as callers log.entries places e n place at.last known n_is (place_is ∙ ap (λ k. length k.entries) (sym same)) in
      record {
        legal = subst (IsLegalLog accepts callers) (sym log_is) legal_now;
        state = state_now ∙ ap (state_after accepts) (sym log_is);
        shown = newest_is;
        last = subst (λ k. ArePlaces callers k.entries (set places n (Some place))) (sym log_is) places_now;
      }
