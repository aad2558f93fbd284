use Rattle.mp_race.proofs.Alone.{races_alone}
use Rattle.mp_race.proofs.laws.one_worker_runs.Goals as goal

pub returns : goal.returns
returns c accepts opening tasks log race = races_alone accepts opening tasks log race
