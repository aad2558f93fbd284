-- How contracts see a request of the code.
use Rattle.std.specs.Arc.{arc_value}
use Rattle.mp_serve.specs.declared.request.Request as code
use Rattle.mp_serve.specs.declared.request.Request.TheVariants as requests
use Rattle.mp_session.specs.Inside.Request as sessions
use Rattle.mp_serve.specs.Request.{Request, Plain, Return, Check, Give, Count}

abbrev pub to_request : code.Request → Request
to_request (requests.Plain request) = Plain (sessions.to_request request)
to_request (requests.Return count) = Return count
to_request (requests.Check tx) = Check (arc_value tx)
to_request (requests.Give tx) = Give (arc_value tx)
to_request requests.Count = Count
