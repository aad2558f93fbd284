use Rattle.std.proofs.Common.{refl, sym, ◌∙◌}
use Rattle.mp_tx.proofs.TxReading.{transaction_again, read_once}
use Rattle.mp_tx.proofs.laws.transaction_is_one.Goals as goal

pub returns : goal.returns
returns c = record {
  spelled_once = λ bytes t u s r. read_once t u (sym (transaction_again bytes t s) ∙ transaction_again bytes u r);
  read = transaction_again;
  one_spelling = λ a b t s r. s.spelled ∙ sym r.spelled;
  is_spelled = λ t parts fits. record { parts = parts; fits = fits; spelled = refl };
}
