use Rattle.std.proofs.Common.{rules}
use Rattle.mp_bundle.proofs.Coin.{coin_least}
use Rattle.mp_bundle.proofs.token.Token.is_coin.Goals as goal

pub returns-clause-least : goal.returns-clause-least
returns-clause-least c = coin_least c.args.self.now (search rules)
