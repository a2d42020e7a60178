use Rattle.std.proofs.Common.{◌≡◌, ◌∙◌, ◌<◌, ap, arith, cond, false, subst, true}
use Rattle.std.specs.List.{insert}
use Rattle.std.specs.List.Sorted.{IsPartitionPoint}
use Rattle.std.specs.Prelude.{vec_capacity, vec_len}
use Rattle.std.proofs.lemmas.Grind.{common_steps}
use Rattle.pol_locations.specs.LocationSet.{Held, is_before}
use Rattle.pol_locations.specs.declared.location_set.Member.{Member}
use Rattle.pol_locations.proofs.Members.{AreApart-insert, Ascend-insert}
use Rattle.pol_locations.proofs.location_set.LocationSet.insert.Goals as goal

pub invariant_of-self : goal.invariant_of-self
invariant_of-self c =
    let room : vec_len c.self.inside.members < vec_capacity c.self.inside.members = (let before = ap (λ (held : Held). held.spare) c.self.view_is in grind (arith, common_steps)) in
    let members = c.self.inside.members.items in
    let member : Member = record { owner = c.args.owner; location = c.args.location } in
    let place = c.place_of-place.result in
    let items : c.insert-inserted.new.self.items ≡ insert members place member =
    c.insert-inserted.ensures.items ∙ ap (λ b. cond b (insert members place member) members) (c.insert-inserted.ensures.succeeds room) in
    let owners = rw (← c.self.view_is) at c.requires.new_owner in
    let locations = rw (← c.self.view_is) at c.requires.free in
    let split = subst (λ some. IsPartitionPoint (λ (other : Member). is_before c.args.location other ≡ true) (λ (other : Member). is_before c.args.location other ≡ false) some place) c.as_slice.ensures.value c.place_of-place.ensures.split in
    rw items (
      AreApart-insert members place member c.self.invariant.0 c.self.invariant.1 owners locations,
      Ascend-insert members place member c.self.invariant.0 c.self.invariant.1 owners locations split.0 split.1,
    )
