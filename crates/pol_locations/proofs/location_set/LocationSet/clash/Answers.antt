use Rattle.std.proofs.Common.{◌∙◌, ap, subst}
use Rattle.pol_locations.specs.LocationSet.{Held, IsNear}
use Rattle.pol_locations.proofs.NearLemmas.{near-clash}
use Rattle.pol_locations.proofs.location_set.LocationSet.clash.Goals as goal

pub returns : goal.returns
returns c =
    let found = subst (λ some. IsNear c.args.wanted.now some c.near.result.now) (c.as_slice.ensures.value ∙ ap (λ (held : Held). held.members) c.self.view_is) c.near.ensures in
    c.least_clash.ensures ∙ near-clash c.args.wanted.now c.args.self.now.members c.near.result.now found c.args.except.now
