-- What a message asks of the catalogue.
use Rattle.std.specs.Prelude.{ℕ, ◌+◌, length, Result, Ok}
use Rattle.pol_http.specs.Head.{fields_of}
use Rattle.pol_http.specs.Message.{Message, print_message}
use Rattle.pol_commands.specs.declared.command.Caller.{Caller}
use Rattle.pol_commands.specs.declared.command.Caller.TheVariants.{Nobody}
use Rattle.pol_commands.specs.declared.command.Command.{Command}
use Rattle.pol_commands.specs.declared.command.Words4.{Words4}
use Rattle.pol_requests.specs.declared.endpoint.Endpoint.{Endpoint}
use Rattle.pol_requests.specs.declared.endpoint.Endpoint.TheVariants.{OpenSession, Content, Namespace, Table, View, Catalog, Principal, PrincipalRole, CatalogRole, Object}
use Rattle.pol_requests.specs.declared.refused.RouteRefused.{RouteRefused}
use Rattle.pol_requests.specs.declared.table.Service.{Service}
use Rattle.pol_requests.specs.Refused.{◌>>=◌}
use Rattle.pol_requests.specs.Table.{Entry}
use Rattle.pol_routes.specs.declared.plans.Planned.{Planned}
use Rattle.pol_routes.specs.declared.plans.TheConstants.{REQUEST_CHARGE}
use Rattle.pol_routes.specs.Bearer.{caller_of}
use Rattle.pol_routes.specs.Delegation.{is_delegated, words_drawn}
use Rattle.pol_routes.specs.Request.{Request}
use Rattle.pol_routes.specs.Requests.{action_of}
use Rattle.pol_routes.specs.Route.{row_of}
use Rattle.pol_routes.specs.Target.{path_of}
use Rattle.pol_routes.specs.Verbs.{verb_of}

-- whose a request is: a token request is nobody's
abbrev pub caller_for : Endpoint → Caller → Caller
caller_for OpenSession caller = Nobody
caller_for (Content request) caller = caller
caller_for (Namespace request) caller = caller
caller_for (Table request) caller = caller
caller_for (View request) caller = caller
caller_for (Catalog request) caller = caller
caller_for (Principal request) caller = caller
caller_for (PrincipalRole request) caller = caller
caller_for (CatalogRole request) caller = caller
caller_for (Object request) caller = caller

-- the plan of a request with that charge and caller, by what such requests ask for
unfoldable pub served_plan : ℕ → Caller → Request → Service → Result Planned RouteRefused
served_plan charge caller request service =
    action_of request service.endpoint
    >>= λ action. Ok (record { caller = caller_for service.endpoint caller; action = action; words = words_drawn service.endpoint request.delegated service.words; charge = charge; verb = verb_of service.endpoint })

-- the request that a message makes by a row of the table
abbrev pub request_by : Entry → Message → Request
request_by row message = record { pattern = row.path; target = message.head.target; body = message.body; delegated = is_delegated (fields_of message.head) }

-- the plan of a message, or why it has none: its row is found first
unfoldable pub plan_of : Message → Result Planned RouteRefused
plan_of message =
    row_of message.head.method (path_of message.head.target)
    >>= λ row. served_plan (length (print_message message) + REQUEST_CHARGE) (caller_of (fields_of message.head)) (request_by row message) row.service

-- the command of a plan at a moment, with the words that were drawn for it
unfoldable pub command_of : Planned → ℕ → Words4 → Command
command_of planned moment words = record {
  caller = planned.caller;
  moment = moment;
  words = words;
  charge = planned.charge;
  action = planned.action;
}
