use Rattle.std.proofs.Common.{◌∙◌}
use Rattle.mp_tickets.proofs.Searched.{found_where}
use Rattle.mp_versions.proofs.layout.removal.is_among.Goals as goal

pub returns : goal.returns
returns c = c.is_ok.ensures.value ∙ found_where c.args.tickets.now c.args.ticket c.binary_search.result c.requires c.binary_search.ensures.position
