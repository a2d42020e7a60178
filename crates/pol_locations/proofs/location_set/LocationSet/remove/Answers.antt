use Rattle.std.proofs.Common.{◌≡◌, ◌<◌, ◌-◌, ◌+◌, length, rules, arith, ap, subst, sym}
use Rattle.std.specs.Prelude.{remove, vec_len, vec_capacity}
use Rattle.std.proofs.lemmas.Grind.{common_steps}
use Rattle.pol_locations.specs.LocationSet.{Gains}
use Rattle.pol_locations.proofs.Members.{AreApart-remove, Ascend-remove, Gains-remove}
use Rattle.pol_locations.proofs.location_set.LocationSet.remove.Goals as goal

pub invariant_of-self : goal.invariant_of-self
invariant_of-self c =
    let inside : c.in-Some.place < length c.self.inside.members.items = grind (arith, common_steps) in
    rw c.remove.ensures.items (AreApart-remove c.self.inside.members.items c.in-Some.place c.remove.result inside c.self.invariant.0, Ascend-remove c.self.inside.members.items c.in-Some.place c.remove.result inside c.self.invariant.1)

pub returns-clause-taken : goal.returns-clause-taken
returns-clause-taken c taken =
    let inside : c.in-Some.place < length c.self.inside.members.items = grind (arith, common_steps) in
    let owner : c.remove.result.owner ≡ c.args.owner = search rules in
    let spare : vec_capacity c.remove.new.self - vec_len c.remove.new.self ≡ c.args.self.now.spare + 1 = (let before = ap (λ held. held.spare) c.self.view_is in grind (arith, common_steps)) in
    let gains : Gains c.remove.new.self.items c.args.self.now.members c.remove.result =
    rw (c.remove.ensures.items, ← c.self.view_is) (subst (λ member. Gains (remove c.self.inside.members.items c.in-Some.place) c.self.inside.members.items member) (sym c.remove.ensures.value) (Gains-remove c.self.inside.members.items c.in-Some.place c.remove.result inside)) in
    (c.remove.result, owner, gains, spare)
