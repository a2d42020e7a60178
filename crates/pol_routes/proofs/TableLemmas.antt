-- Each row of the table is served.
use Rattle.std.proofs.Common.{◌≡◌, ◌∙◌, ℕ, zero, suc, List, [], ◌∷◌, map, refl, ap, sym, Option, Some, None, Result, Ok, Err, true, arith}
use Rattle.std.specs.List.{All}
use Rattle.std.specs.Option.{option_map, option_and_then}
use Rattle.matchit.proofs.OnLiterals.{matchit_on_literals}
use Rattle.matchit.specs.Level.{IsText}
use Rattle.matchit.specs.Route.{Scan, parse_route}
use Rattle.matchit.specs.Router.{RouteOf}
use Rattle.matchit.specs.declared.error.InsertError.{InsertError}
use Rattle.pol_requests.specs.Table.{Entry, table}
use Rattle.pol_routes.proofs.WalkLemmas.{found, reaches}
use Rattle.pol_routes.specs.Laws.{EachRowIsServed, IsServed}
use Rattle.pol_routes.specs.Route.{PathRoutes, fits, of_method, of_path, row_at, row_of, routes_from, table_routes}

-- the row of a row's method and of the route that its pattern reaches
abbrev answer_at : List ℕ → Option (RouteOf ℕ) → Option Entry
answer_at method reached = option_and_then (λ route. row_at method route.value table) reached

abbrev answer_of : PathRoutes → List ℕ → Result Scan InsertError → Option Entry
answer_of routes method (Ok scan) = answer_at method (reaches routes scan.pattern)
answer_of routes method (Err why) = None

abbrev answer : PathRoutes → Entry → Option Entry
answer routes row = answer_of routes row.method (parse_route row.path)

served : (row : Entry) → answer table_routes row ≡ Some row → IsServed row
unfolding IsServed row_of
served row is = by (parse_route row.path) refl is
  where
    reached : (path : List ℕ) (route : Option (RouteOf ℕ)) → answer_at row.method route ≡ Some row
        → ((key : RouteOf ℕ) → route ≡ Some key → of_path row.method (option_map (λ r. r.value) (Some key)) ≡ row_of row.method path)
        → row_of row.method path ≡ Ok row
    reached path None asked leads = absurd (cc)
    reached path (Some key) asked leads = sym (leads key refl) ∙ ap of_method asked

    by : (read : Result Scan InsertError) → parse_route row.path ≡ read → answer_of table_routes row.method read ≡ Some row
        → (scan : Scan) × (parse_route row.path ≡ Ok scan) × ((path : List ℕ) → IsText path → fits scan.pattern path ≡ true → row_of row.method path ≡ Ok row)
    by (Ok scan) read asked = (
      scan,
      read,
      λ path text fit.
          reached path (reaches table_routes scan.pattern) asked
          (λ key leads. ap (λ place. of_path row.method (option_map (λ r. r.value) place)) (sym (found scan.pattern path table_routes key leads text fit))),
    )
    by (Err why) read asked = absurd (cc)

each_of : (rows : List Entry) → map (answer table_routes) rows ≡ map Some rows → All IsServed rows
each_of [] are k d within = absurd (omega arith)
each_of (row ∷ rows) are zero d within = served row (cc)
each_of (row ∷ rows) are (suc k) d within = each_of rows (cc) k d (omega arith)

-- each pattern reaches its own row, by computing all of them
answers : map (answer table_routes) table ≡ map Some table
unfolding table table_routes routes_from matchit_on_literals
answers = refl

pub each_served : EachRowIsServed
each_served = each_of table answers
