-- How contracts see a request.
use Rattle.mp_seqpool.specs.Inside.Command.{command_of}
use Rattle.mp_session.specs.declared.request.Request.{Request}
use Rattle.mp_session.specs.declared.request.Request.TheVariants as requests
use Rattle.mp_session.specs.Request as told

abbrev pub to_request : Request → told.Request
to_request (requests.Change command) = told.Change (command_of command)
to_request (requests.Try ledger) = told.Try ledger
to_request (requests.Read query) = told.Read query
