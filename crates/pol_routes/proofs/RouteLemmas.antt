-- Routes of paths, one by one.
use Rattle.std.proofs.Common.{◌≡◌, ℕ, ◌+◌, ◌<◌, Bool, true, false, cond, List, [], ◌∷◌, map, drop, length, get_or, suc, Option, Some, None, Result, Ok, Err, refl, sym, ap, ◌∙◌, OnOk, ◌≢◌, drop-cons, add-one}
use Rattle.std.specs.Borrow.{Bor}
use Rattle.std.specs.List.{find}
use Rattle.std.specs.Option.{option_map, is_none}
use Rattle.matchit.specs.Route.{Scan, parse_route}
use Rattle.matchit.specs.Router.{InsertsRead, route_from}
use Rattle.matchit.specs.Order.{placed}
use Rattle.matchit.specs.declared.error.InsertError.{InsertError}
use Rattle.matchit.specs.declared.error.InsertError.TheVariants.{Conflict, InvalidParamSegment, InvalidParam, InvalidCatchAll, OutOfMemory}
use Rattle.pol_requests.specs.Table.{entry_of}
use Rattle.pol_requests.specs.declared.table.Service.{Service}
use Rattle.pol_routes.specs.Route.{PathRoutes, with_scan, routes_from, serves, row_by}

-- a row of the table
abbrev pub TableRow : Type 0
TableRow = Bor (List ℕ) × Bor (List ℕ) × Service

pub find_map : {A B : Type 0} (p : B → Bool) (g : A → B) (xs : List A) → find p (map g xs) ≡ option_map g (find (λ x. p (g x)) xs)
find_map p g [] = refl
find_map p g (x ∷ xs) =
    elim (p (g x)) as (λ b. cond b (Some (g x)) (find p (map g xs)) ≡ option_map g (cond b (Some x) (find (λ y. p (g y)) xs))) [
      | true ↦ refl
      | false ↦ find_map p g xs
    ]

-- an insertion that had memory leaves the routes with the path
pub inserted : (read : Result Scan InsertError) (place : ℕ) (old new : PathRoutes) (result : Result (Unit {0}) InsertError)
    → InsertsRead read place old new result → (result ≡ Err OutOfMemory → ⊥) → new ≡ with_scan read place old
inserted (Ok scan) place old new (Ok done) is memory =
    is.1 ∙ ap (λ found. cond (is_none found) (placed (scan.pattern, route_from scan place) old) old) (sym is.0)
inserted (Ok scan) place old new (Err (Conflict with)) is memory =
    is.0 ∙ ap (λ found. cond (is_none found) (placed (scan.pattern, route_from scan place) old) old) (sym is.1.1)
inserted (Ok scan) place old new (Err OutOfMemory) is memory = absurd (memory refl)
inserted (Ok scan) place old new (Err InvalidParamSegment) is memory = absurd is.1
inserted (Ok scan) place old new (Err InvalidParam) is memory = absurd is.1
inserted (Ok scan) place old new (Err InvalidCatchAll) is memory = absurd is.1
inserted (Err why) place old new result is memory = is.0

-- an insertion that was refused for another cause than want of memory leaves the routes as they were
pub left_out : {E : Type 0} (read : Result Scan InsertError) (place : ℕ) (old new : PathRoutes) (error : InsertError) (done : Result (Unit {0}) E)
    → InsertsRead read place old new (Err error) → OnOk done (error ≢ OutOfMemory) → OnOk done (new ≡ with_scan read place old)
left_out read place old new error (Ok u) is other = inserted read place old new (Err error) is (λ same. other (cc))
left_out read place old new error (Err e) is other = tt

-- the routes of rows from a place on: those with the path of the row at it, and then those of the rows behind it
pub routes_next : (rows : List TableRow) (place : ℕ) (row : TableRow) (old new : PathRoutes)
    → place < length rows → new ≡ with_scan (parse_route (get_or rows place row).1.now) place old
    → routes_from (place + 1) new (map entry_of (drop (place + 1) rows)) ≡ routes_from place old (map entry_of (drop place rows))
unfolding routes_from
routes_next rows place row old new inside added =
    ap (λ n. routes_from (place + 1) new (map entry_of (drop n rows))) (add-one place)
    ∙ ap (λ routes. routes_from (place + 1) routes (map entry_of (drop (suc place) rows))) added
    ∙ sym (ap (λ xs. routes_from place old (map entry_of xs)) (drop-cons rows place row inside))

-- the row that is found, as a contract sees it
pub row_found : (method path : List ℕ) (rows : List TableRow) (found : Option (Bor TableRow))
    → option_map (λ row. row.now) found ≡ find (λ row. serves method path (entry_of row)) rows
    → option_map (λ row. entry_of row.now) found ≡ row_by method path (map entry_of rows)
row_found method path rows found is =
    parts found ∙ ap (option_map entry_of) is ∙ sym (find_map (serves method path) entry_of rows)
  where
    parts : (f : Option (Bor TableRow)) → option_map (λ row. entry_of row.now) f ≡ option_map entry_of (option_map (λ row. row.now) f)
    parts None = refl
    parts (Some row) = refl
