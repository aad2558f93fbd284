-- Prefixes of legal histories.
use Rattle.std.proofs.Common.{ℕ, List, [], ◌∷◌, ◌++◌, sym, ap, subst, ◌∙◌}
use Rattle.mp_rules.specs.Verifier.{Accepts}
use Rattle.mp_seqpool.specs.Pool.{Pool}
use Rattle.mp_seqpool.specs.SlowPool.{next}
use Rattle.mp_seqpool.specs.PoolLaws.{IsLawful}
use Rattle.mp_history.specs.Entry.{Entry}
use Rattle.mp_history.specs.Log.{Log, Begins, IsLegal, IsLegalLog}

module _ (accepts : Accepts) (callers : ℕ) where
  legal-left : (p : Pool) (es rest : List Entry) → IsLegal accepts callers p (es ++ rest) → IsLegal accepts callers p es
  legal-left p [] rest legal = tt
  legal-left p (e ∷ es) rest legal = (legal.0, legal-left (next accepts p e.command) es rest legal.1)

  -- a prefix of a legal history is legal
  pub legal-beginning : (a b : Log) → Begins a b → IsLegalLog accepts callers b → IsLegalLog accepts callers a
  legal-beginning a b begins legal = record {
    lawful = subst (IsLawful accepts) (sym begins.opening) legal.lawful;
    unchanged = ap (λ (p : Pool). p.changes) begins.opening ∙ legal.unchanged;
    legal = subst (λ p. IsLegal accepts callers p a.entries) (sym begins.opening)
        (legal-left b.opening a.entries begins.entries.0 (subst (IsLegal accepts callers b.opening) (sym begins.entries.1) legal.legal));
  }
