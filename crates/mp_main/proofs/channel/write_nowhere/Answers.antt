use Rattle.std.proofs.Common.{rules}
use Rattle.mp_main.proofs.channel.write_nowhere.Goals as goal

pub returns : goal.returns
returns c = (0, search rules, tt)
