use Rattle.std.proofs.Common.{◌∙◌, ap, map, sym}
use Rattle.std.proofs.lemmas.List.{drop_all}
use Rattle.pol_requests.specs.Table.{entry_of}
use Rattle.pol_routes.specs.Route.{routes_from}
use Rattle.pol_routes.proofs.RouteLemmas.{routes_next}
use Rattle.pol_routes.proofs.routes.insert_paths.Goals as goal

pub loop-place-preserved : goal.loop-place-preserved
loop-place-preserved c =
    routes_next c.args.rows.now c.loop-place.place _ c.loop-place.router c.insert_path.new.router c.loop-place-test.true c.in_ok-insert_path.ensures
    ∙ c.loop-place.invariant

pub returns : goal.returns
unfolding routes_from
returns c =
    sym (ap (λ rows. routes_from c.loop-place.place c.loop-place.router (map entry_of rows)) (drop_all c.loop-place.place c.args.rows.now c.loop-place-test.false)) ∙ c.loop-place.invariant
