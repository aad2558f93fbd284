use Rattle.std.proofs.Common.{sym, subst}
use Rattle.mp_seqpool.specs.Inside.Command.{commands_of}
use Rattle.mp_seqpool.specs.PoolLaws.{IsLawful}
use Rattle.mp_seqpool.proofs.Exits.{no_value}
use Rattle.mp_seqpool.proofs.Histories.{lawful-empty, obeys-empty}
use Rattle.mp_seqpool.proofs.playing.play.Goals as goal

pub step_all-requires : goal.step_all-requires
step_all-requires g c =
    let accepts = g.V.Verifier.accepts c.args.verifier.now in
    subst (IsLawful accepts) (sym c.in_ok-pool.ensures) (lawful-empty accepts c.args.config.limit c.args.config.last c.args.ledger.now)

pub returns-in_err-answers-clause-answers : goal.returns-in_err-answers-clause-answers
returns-in_err-answers-clause-answers g c = no_value c.from_residual.result _ c.from_residual.ensures.0

pub returns-in_err-answers-clause-pool : goal.returns-in_err-answers-clause-pool
returns-in_err-answers-clause-pool g c = no_value c.from_residual.result _ c.from_residual.ensures.0

pub returns-in_err-answers-clause-laws : goal.returns-in_err-answers-clause-laws
returns-in_err-answers-clause-laws g c = obeys-empty (g.V.Verifier.accepts c.args.verifier.now) c.args.config.limit c.args.config.last c.args.ledger.now (commands_of c.args.commands.now)

pub returns-in_err-pool-clause-answers : goal.returns-in_err-pool-clause-answers
returns-in_err-pool-clause-answers g c = no_value c.from_residual-in_err-pool.result _ c.from_residual-in_err-pool.ensures.0

pub returns-in_err-pool-clause-pool : goal.returns-in_err-pool-clause-pool
returns-in_err-pool-clause-pool g c = no_value c.from_residual-in_err-pool.result _ c.from_residual-in_err-pool.ensures.0

pub returns-in_err-pool-clause-laws : goal.returns-in_err-pool-clause-laws
returns-in_err-pool-clause-laws g c = obeys-empty (g.V.Verifier.accepts c.args.verifier.now) c.args.config.limit c.args.config.last c.args.ledger.now (commands_of c.args.commands.now)

pub returns-in_err-step_all-clause-answers : goal.returns-in_err-step_all-clause-answers
returns-in_err-step_all-clause-answers g c = no_value c.from_residual-in_err-step_all.result _ c.from_residual-in_err-step_all.ensures.0

pub returns-in_err-step_all-clause-pool : goal.returns-in_err-step_all-clause-pool
returns-in_err-step_all-clause-pool g c = no_value c.from_residual-in_err-step_all.result _ c.from_residual-in_err-step_all.ensures.0

pub returns-in_err-step_all-clause-laws : goal.returns-in_err-step_all-clause-laws
returns-in_err-step_all-clause-laws g c = obeys-empty (g.V.Verifier.accepts c.args.verifier.now) c.args.config.limit c.args.config.last c.args.ledger.now (commands_of c.args.commands.now)

pub returns-clause-laws : goal.returns-clause-laws
returns-clause-laws g c = obeys-empty (g.V.Verifier.accepts c.args.verifier.now) c.args.config.limit c.args.config.last c.args.ledger.now (commands_of c.args.commands.now)
