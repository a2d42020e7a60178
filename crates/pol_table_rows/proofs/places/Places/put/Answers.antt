use Rattle.std.proofs.Common.{◌++◌}
use Rattle.pol_locations.specs.declared.location_set.Member.{Member}
use Rattle.pol_table_rows.proofs.PlacesLemmas.{none-taken, put-taken, taken-append}
use Rattle.pol_table_rows.proofs.places.Places.put.Goals as goal

pub add-requires-clause-new_owner : goal.add-requires-clause-new_owner
add-requires-clause-new_owner c =
    none-taken c.args.owner (c.self.inside.set.members ++ c.self.inside.beside.items) _
    (taken-append c.args.owner c.self.inside.set.members c.self.inside.beside.items c.forget.new.set.members c.forget.new.beside.items c.forget.ensures.set c.forget.ensures.beside)

pub returns-clause-put : goal.returns-clause-put
returns-clause-put c =
    let member : Member = record { owner = c.args.owner; location = c.args.location } in
    let taken = taken-append c.args.owner c.self.inside.set.members c.self.inside.beside.items c.forget.new.set.members c.forget.new.beside.items c.forget.ensures.set c.forget.ensures.beside in
    rw (← c.self.view_is) (put-taken member _ (c.forget.new.set.members ++ c.forget.new.beside.items) c.add.new.self.members taken c.add.ensures.put)
