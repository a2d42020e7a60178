use Rattle.std.proofs.Common.{◌≡◌, drop, map}
use Rattle.pol_requests.specs.Table.{entry_of}
use Rattle.pol_routes.specs.Route.{routes_from}
use Rattle.pol_routes.proofs.routes.insert_paths.Given as goal

abbrev pub invariant-loop-place : goal.invariant-loop-place
invariant-loop-place l = routes_from l.place l.router (map entry_of (drop l.place l.rows)) ≡ routes_from 0 l.initial.router (map entry_of l.rows)
