use Rattle.std.proofs.Common.{◌≡◌, Some, None, refl, length}
use Rattle.std.specs.List.{slice_get}
use Rattle.std.proofs.lemmas.Option.{slice_get-map, slice_get_read, slice_get_past}
use Rattle.pol_routes.proofs.RouteLemmas.{row_found}
use Rattle.pol_routes.proofs.routes.row_at.Goals as goal

pub returns-in-Some : goal.returns-in-Some
returns-in-Some c =
    let found = c.in-Some.ensures.lookup in
    let is : slice_get c.args.rows.now c.args.place ≡ Some c.in-Some.row.now =
    slice_get_read c.args.rows.now (length c.args.rows.now) c.args.place c.in-Some.row.now refl found.3.0 found.1 in
    rw (slice_get-map, is) (row_found c.args.method.now c.in-Some.row.now.1.now c.args.rows.now c.row_by.result c.row_by.ensures)

pub returns-in-None : goal.returns-in-None
returns-in-None c =
    let is : slice_get c.args.rows.now c.args.place ≡ None = slice_get_past c.args.rows.now c.args.place c.in-None.ensures.lookup.3 in
    rw (slice_get-map, is)
