use Rattle.pol_table_rows.proofs.PlacesLemmas.{taken-append}
use Rattle.pol_table_rows.proofs.places.Places.take.Goals as goal

pub returns-clause-taken : goal.returns-clause-taken
returns-clause-taken c =
    rw (← c.self.view_is) (taken-append c.args.owner c.self.inside.set.members c.self.inside.beside.items c.forget.new.set.members c.forget.new.beside.items c.forget.ensures.set c.forget.ensures.beside)
