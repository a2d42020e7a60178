use Rattle.std.proofs.Common.{ap, rules, subst, sym}
use Rattle.std.proofs.lemmas.Fn.{filter_same}
use Rattle.pol_locations.specs.LocationSet.{Held}
use Rattle.pol_table_rows.specs.Places.{IsTaken}
use Rattle.pol_table_rows.proofs.PlacesLemmas.{forgotten, taken-filter}
use Rattle.pol_table_rows.proofs.places.forget.Goals as goal

pub returns-clause-set : goal.returns-clause-set
returns-clause-set c =
    (forgotten c.args.owner c.args.set.now.members c.remove.new.self.members c.remove.result c.members-apart.ensures.apart c.remove.ensures.there (λ is. let one = c.remove.ensures.taken is in (one.0, one.1, one.2)) (λ is. ap (λ (held : Held). held.members) (c.remove.ensures.absent is)))

pub returns-clause-beside : goal.returns-clause-beside
returns-clause-beside c =
    subst (IsTaken c.args.owner c.args.beside.now.items) (sym (filter_same _ _ _ (λ x b f' k. search rules) _ _ c.retain.ensures.filtered)) (taken-filter c.args.owner c.args.beside.now.items)
