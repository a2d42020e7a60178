use Rattle.std.proofs.Common.{List, ap, ◌∙◌}
use Rattle.pol_locations.specs.LocationSet.{clash_of}
use Rattle.pol_locations.specs.declared.location_set.Member.{Member}
use Rattle.pol_table_rows.specs.Places.{least}
use Rattle.pol_table_rows.proofs.PlacesLemmas.{clash-append}
use Rattle.pol_table_rows.proofs.places.Places.clash.Goals as goal

pub returns : goal.returns
returns c =
    let beside = c.least_clash.ensures ∙ ap (λ (members : List Member). clash_of members c.args.wanted.now c.args.except.now) c.as_slice.ensures.value in
    rw (← c.self.view_is) (c.least.ensures ∙ (λ i. least (c.clash.ensures i) (beside i)) ∙ clash-append c.self.inside.set.members c.self.inside.beside.items c.args.wanted.now c.args.except.now)
