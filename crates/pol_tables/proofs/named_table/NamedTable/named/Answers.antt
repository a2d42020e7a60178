use Rattle.std.specs.Option.{option_copied}
use Rattle.pol_tables.proofs.NamedLemmas.{Finds-none, FindsOr-weaken}
use Rattle.pol_tables.proofs.named_table.NamedTable.named.Goals as goal

pub returns-in-None : goal.returns-in-None
returns-in-None g c =
    let test = g.N.NameOf.names c.args.name.now in
    let none = Finds-none g.R.Keyed.key g.R.Named.number test c.self.inside.table.rows c.self.inside.index (g.N.NameOf.numbered c.args.name.now) (g.met.N.NameOf.numbers_agree c.args.name.now) c.rows-rows.ensures.differ c.first_named.ensures.differ c.self.invariant c.in-None.ensures.found in
    rw (← c.self.view_is) (FindsOr-weaken g.R.Keyed.key test _ _ c.self.inside.table.rows (option_copied c.other_named.result) none (rw c.others.ensures at c.other_named.ensures))
