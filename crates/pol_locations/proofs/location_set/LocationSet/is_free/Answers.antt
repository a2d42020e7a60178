use Rattle.std.proofs.Common.{◌∙◌, ap, not, subst}
use Rattle.pol_locations.specs.LocationSet.{Held, IsNear}
use Rattle.pol_locations.proofs.Members.{free_tested}
use Rattle.pol_locations.proofs.NearLemmas.{near-overlaps}
use Rattle.pol_locations.proofs.location_set.LocationSet.is_free.Goals as goal

pub returns-clause-test : goal.returns-clause-test
returns-clause-test c =
    let found = subst (λ some. IsNear c.args.wanted.now some c.near.result.now) (c.as_slice.ensures.value ∙ ap (λ (held : Held). held.members) c.self.view_is) c.near.ensures in
    ap not (c.overlaps_any.ensures ∙ near-overlaps c.args.wanted.now c.args.self.now.members c.near.result.now found)

pub returns-clause-free : goal.returns-clause-free
returns-clause-free c =
    let found = subst (λ some. IsNear c.args.wanted.now some c.near.result.now) (c.as_slice.ensures.value ∙ ap (λ (held : Held). held.members) c.self.view_is) c.near.ensures in
    free_tested c.args.self.now.members c.args.wanted.now _ (ap not (c.overlaps_any.ensures ∙ near-overlaps c.args.wanted.now c.args.self.now.members c.near.result.now found))
