use Rattle.std.proofs.Common.{◌≡◌, ◌++◌, false, ap, ◌∙◌}
use Rattle.std.specs.List.{list_any}
use Rattle.pol_locations.specs.declared.location_set.Member.{Member}
use Rattle.pol_table_rows.specs.Places.{PlacesValue, is_owner}
use Rattle.pol_table_rows.proofs.PlacesLemmas.{put-beside, put-first, taken-none}
use Rattle.pol_table_rows.proofs.places.Places.add.Goals as goal

pub returns-then-is_free-clause-put : goal.returns-then-is_free-clause-put
returns-then-is_free-clause-put c =
    let member : Member = record { owner = c.args.owner; location = c.args.location } in
    let set = c.self.inside.set.members in
    let beside = c.self.inside.beside.items in
    let none : list_any (is_owner c.args.owner) (set ++ beside) ≡ false = ap (λ (places : PlacesValue). list_any (is_owner c.args.owner) places.members) c.self.view_is ∙ c.requires.new_owner in
    rw (← c.self.view_is) (put-first member _ set beside c.insert.new.self.members (taken-none c.args.owner (set ++ beside) none) c.insert.ensures.member)

pub returns-else-is_free-clause-put : goal.returns-else-is_free-clause-put
returns-else-is_free-clause-put c =
    let member : Member = record { owner = c.args.owner; location = c.args.location } in
    let set = c.self.inside.set.members in
    let beside = c.self.inside.beside.items in
    let none : list_any (is_owner c.args.owner) (set ++ beside) ≡ false = ap (λ (places : PlacesValue). list_any (is_owner c.args.owner) places.members) c.self.view_is ∙ c.requires.new_owner in
    rw (← c.self.view_is, c.push_reserved.ensures.items) (put-beside member _ set beside (taken-none c.args.owner (set ++ beside) none))
