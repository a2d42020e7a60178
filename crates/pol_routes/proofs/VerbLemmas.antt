-- The action of a plan goes with its verb.
use Rattle.std.proofs.Common.{◌≡◌, ◌+◌, ℕ, List, length, Result, Ok, Err, refl, subst}
use Rattle.pol_commands.specs.declared.command.Action.{Action}
use Rattle.pol_commands.specs.declared.command.Action.TheVariants.{Access}
use Rattle.pol_commands.specs.declared.command.Caller.{Caller}
use Rattle.pol_http.specs.Head.{fields_of}
use Rattle.pol_http.specs.Message.{Message, print_message}
use Rattle.pol_requests.specs.Refused.{◌>>=◌}
use Rattle.pol_requests.specs.Table.{Entry}
use Rattle.pol_requests.specs.declared.endpoint.Endpoint.{Endpoint}
use Rattle.pol_requests.specs.declared.endpoint.Endpoint.TheVariants.{OpenSession, Content, Namespace, Table, View, Catalog, Principal, PrincipalRole, CatalogRole, Object}
use Rattle.pol_requests.specs.declared.endpoint.ObjectRequest.{ObjectRequest}
use Rattle.pol_requests.specs.declared.endpoint.ObjectRequest.TheVariants.{GetObject, HeadObject, PutObject, DeleteObject, ListObjects}
use Rattle.pol_requests.specs.declared.refused.RouteRefused.{RouteRefused}
use Rattle.pol_requests.specs.declared.table.Service.{Service}
use Rattle.pol_routes.specs.Bearer.{caller_of}
use Rattle.pol_routes.specs.Delegation.{words_drawn}
use Rattle.pol_routes.specs.Laws.{VerbsAskForAccess}
use Rattle.pol_routes.specs.Objects.{access, act_of, object_path}
use Rattle.pol_routes.specs.Plan.{caller_for, plan_of, request_by, served_plan}
use Rattle.pol_routes.specs.Request.{Request}
use Rattle.pol_routes.specs.Requests.{action_of}
use Rattle.pol_routes.specs.Route.{row_of}
use Rattle.pol_routes.specs.Target.{path_of}
use Rattle.pol_routes.specs.Verbs.{AsksFor, IsActionOf, object_verb, verb_act, verb_of}
use Rattle.pol_routes.specs.declared.plans.Planned.{Planned}
use Rattle.pol_routes.specs.declared.plans.TheConstants.{REQUEST_CHARGE}

act-of-verb : (asked : ObjectRequest) → act_of asked ≡ verb_act (object_verb asked)
act-of-verb GetObject = refl
act-of-verb HeadObject = refl
act-of-verb PutObject = refl
act-of-verb DeleteObject = refl
act-of-verb ListObjects = refl

-- what is asked of an object
accesses : (target : List ℕ) (asked : ObjectRequest) (found : Action) → access target asked ≡ Ok found → AsksFor (verb_act (object_verb asked)) found
unfolding access
accesses target asked found is = by (object_path target) is
  where
    by : (read : Result (List (List ℕ)) RouteRefused) → (read >>= λ path. Ok (Access path (act_of asked))) ≡ Ok found
        → AsksFor (verb_act (object_verb asked)) found
    by (Ok path) is = let same = act-of-verb asked in (path, cc)
    by (Err why) is = absurd (cc)

-- what is asked
pub asked_by : (request : Request) (endpoint : Endpoint) (found : Action) → action_of request endpoint ≡ Ok found → IsActionOf (verb_of endpoint) found
asked_by request OpenSession found is = tt
asked_by request (Content asked) found is = tt
asked_by request (Namespace asked) found is = tt
asked_by request (Table asked) found is = tt
asked_by request (View asked) found is = tt
asked_by request (Catalog asked) found is = tt
asked_by request (Principal asked) found is = tt
asked_by request (PrincipalRole asked) found is = tt
asked_by request (CatalogRole asked) found is = tt
asked_by request (Object asked) found is = accesses request.target asked found is

-- and so what is planned
served_by : (charge : ℕ) (caller : Caller) (request : Request) (service : Service) (planned : Planned)
    → served_plan charge caller request service ≡ Ok planned → IsActionOf planned.verb planned.action
unfolding served_plan
served_by charge caller request service planned is = by (action_of request service.endpoint) refl is
  where
    plan_for : Action → Planned
    plan_for found = record { caller = caller_for service.endpoint caller; action = found; words = words_drawn service.endpoint request.delegated service.words; charge = charge; verb = verb_of service.endpoint }

    by : (read : Result Action RouteRefused) → action_of request service.endpoint ≡ read → (read >>= λ found. Ok (plan_for found)) ≡ Ok planned
        → IsActionOf planned.verb planned.action
    by (Ok found) read is =
        let same : plan_for found ≡ planned = cc in
        subst (λ (plan : Planned). IsActionOf plan.verb plan.action) same (asked_by request service.endpoint found read)
    by (Err why) read is = absurd (cc)

pub planned_by : VerbsAskForAccess
unfolding plan_of
planned_by message planned is = by (row_of message.head.method (path_of message.head.target)) is
  where
    by : (read : Result Entry RouteRefused)
        → (read >>= λ row. served_plan (length (print_message message) + REQUEST_CHARGE) (caller_of (fields_of message.head)) (request_by row message) row.service) ≡ Ok planned
        → IsActionOf planned.verb planned.action
    by (Ok row) is = served_by _ _ _ _ planned is
    by (Err why) is = absurd (cc)
