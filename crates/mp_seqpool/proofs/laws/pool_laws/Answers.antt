use Rattle.mp_seqpool.proofs.Histories.{obeys, lawful-empty, lawful-renewed, signed}
use Rattle.mp_seqpool.proofs.laws.pool_laws.Goals as goal

pub returns-clause-histories : goal.returns-clause-histories
returns-clause-histories c accepts p cs law = obeys accepts p cs law

pub returns-clause-openings : goal.returns-clause-openings
returns-clause-openings c accepts limit last ledger = lawful-empty accepts limit last ledger

pub returns-clause-renewals : goal.returns-clause-renewals
returns-clause-renewals c accepts limit p law = lawful-renewed accepts limit p law

pub returns-clause-signed : goal.returns-clause-signed
returns-clause-signed c accepts p law = signed accepts p law
