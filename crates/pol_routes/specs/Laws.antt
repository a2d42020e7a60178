-- Laws of plans.
use Rattle.std.specs.Prelude.{◌≡◌, ℕ, true, List, Ok}
use Rattle.std.specs.List.{All}
use Rattle.matchit.specs.Level.{IsText}
use Rattle.matchit.specs.Route.{Scan, parse_route}
use Rattle.pol_http.specs.Message.{Message}
use Rattle.pol_requests.specs.Table.{Entry, table}
use Rattle.pol_routes.specs.Plan.{plan_of}
use Rattle.pol_routes.specs.Route.{fits, row_of}
use Rattle.pol_routes.specs.Verbs.{IsActionOf}
use Rattle.pol_routes.specs.declared.plans.Planned.{Planned}

-- the path of the row is a route, and the row of each path of its pattern that is asked for by its method is this one
unfoldable pub IsServed : Entry → Type 0
IsServed row =
    (scan : Scan) × (parse_route row.path ≡ Ok scan)
    × ((path : List ℕ) → IsText path → fits scan.pattern path ≡ true → row_of row.method path ≡ Ok row)

-- so it is for each row of the table
abbrev pub EachRowIsServed : Type 0
EachRowIsServed = All IsServed table

-- the action of each plan goes with its verb
abbrev pub VerbsAskForAccess : Type 0
VerbsAskForAccess = (message : Message) (planned : Planned) → plan_of message ≡ Ok planned → IsActionOf planned.verb planned.action
