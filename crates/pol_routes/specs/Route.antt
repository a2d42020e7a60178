-- The route of a request: the path of the table that matchit finds, and the row of its method.
use Rattle.std.specs.Prelude.{◌≡◌, ℕ, ◌+◌, Bool, false, ◌&&◌, not, List, [], ◌∷◌, drop, ◌==◌, if◌then◌else◌, Option, Some, None, option_map, option_and_then, is_none, find, slice_get, Result, Ok, Err}
use Rattle.std.specs.Borrow.{Bor}
use Rattle.std.specs.Str.{bytes_eq}
use Rattle.form_urlencoded.specs.Form.{is_nonempty}
use Rattle.matchit.specs.Order.{placed}
use Rattle.matchit.specs.Route.{Scan, parse_route}
use Rattle.matchit.specs.Router.{RouteOf, nearest, route_from}
use Rattle.matchit.specs.Rows.{RowsOf, catch_all_token, param_token}
use Rattle.matchit.specs.Seek.{first, slash}
use Rattle.matchit.specs.declared.error.InsertError.{InsertError}
use Rattle.pol_requests.specs.declared.refused.RouteRefused.{RouteRefused}
use Rattle.pol_requests.specs.declared.refused.RouteRefused.TheVariants.{NoRoute, WrongMethod}
use Rattle.pol_requests.specs.declared.table.Service.{Service}
use Rattle.pol_requests.specs.Table.{Entry, entry_of, table}

-- routes, each with the place in the table of the first row with its path
abbrev pub PathRoutes : Type 0
PathRoutes = RowsOf (RouteOf ℕ)

-- the routes with one more path, unless it is no route or conflicts with one that is there, as an equal one does
abbrev pub with_scan : Result Scan InsertError → ℕ → PathRoutes → PathRoutes
with_scan (Ok scan) place routes =
    if is_none (nearest scan.pattern routes) then placed (scan.pattern, route_from scan place) routes else routes
with_scan (Err why) place routes = routes

-- the routes with the paths of rows, the first of which stands at a place
unfoldable pub routes_from : ℕ → PathRoutes → List Entry → PathRoutes
routes_from place routes [] = routes
routes_from place routes (row ∷ rows) = routes_from (place + 1) (with_scan (parse_route row.path) place routes) rows

-- the routes of the table's paths
unfoldable pub table_routes : PathRoutes
table_routes = routes_from 0 [] table

-- the row is that of the method and path
abbrev pub serves : List ℕ → List ℕ → Entry → Bool
serves method path row = bytes_eq row.method method && bytes_eq row.path path

-- the row of a method and path
abbrev pub row_by : List ℕ → List ℕ → List Entry → Option Entry
row_by method path rows = find (serves method path) rows

-- the row of a method and of the path of the row at a place
abbrev pub row_at : List ℕ → ℕ → List Entry → Option Entry
row_at method place rows = option_and_then (λ row. row_by method row.path rows) (slice_get rows place)

abbrev pub of_method : Option Entry → Result Entry RouteRefused
of_method None = Err WrongMethod
of_method (Some row) = Ok row

abbrev pub of_path : List ℕ → Option ℕ → Result Entry RouteRefused
of_path method None = Err NoRoute
of_path method (Some place) = of_method (row_at method place table)

-- the place of the path that matchit finds
abbrev pub path_found : List ℕ → Option ℕ
path_found path = option_map (λ route. route.value) (first table_routes path)

-- the row of a method and of the path that a path is found to be
unfoldable pub row_of : List ℕ → List ℕ → Result Entry RouteRefused
row_of method path = of_path method (path_found path)

-- the code finds the expected row, or tells why there is none
abbrev pub Finds : Result Entry RouteRefused → Result (Bor (Bor (List ℕ) × Bor (List ℕ) × Service)) RouteRefused → Type 0
Finds expected (Ok row) = expected ≡ Ok (entry_of row.now)
Finds expected (Err why) = expected ≡ Err why

-- the bytes in front of the first slash, and those from it on
abbrev pub first_segment : List ℕ → List ℕ
first_segment [] = []
first_segment (byte ∷ path) = if byte == slash then [] else byte ∷ first_segment path

abbrev pub behind_segment : List ℕ → List ℕ
behind_segment [] = []
behind_segment (byte ∷ path) = if byte == slash then byte ∷ path else behind_segment path

abbrev pub begins_with : ℕ → List ℕ → Bool
begins_with byte [] = false
begins_with byte (first ∷ path) = first == byte

-- the path is one of the pattern's: a parameter stands for a segment, and a catch-all for all that follows, neither of
-- which is empty, and any other token for itself
abbrev pub fits : List ℕ → List ℕ → Bool
fits [] path = not (is_nonempty path)
fits (token ∷ tokens) path =
    if token == catch_all_token then is_nonempty path
    else if token == param_token then is_nonempty (first_segment path) && fits tokens (behind_segment path)
    else begins_with token path && fits tokens (drop 1 path)
