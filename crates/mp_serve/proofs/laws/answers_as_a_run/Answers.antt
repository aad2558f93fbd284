use Rattle.std.proofs.Common.{[]}
use Rattle.mp_session.specs.Scene.{empty_scene}
use Rattle.mp_serve.specs.Refused.{none_counted}
use Rattle.mp_serve.proofs.PlainRuns.{plain_run}
use Rattle.mp_serve.proofs.laws.answers_as_a_run.Goals as goal

pub returns : goal.returns
returns c scheme most lines texts plain = plain_run most (empty_scene scheme) [] none_counted lines texts plain
