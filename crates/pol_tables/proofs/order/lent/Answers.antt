use Rattle.std.proofs.Common.{refl}
use Rattle.std.proofs.lemmas.Iterator.Consumers.{map_from_collect, YieldsList-from_first}
use Rattle.pol_tables.proofs.order.lent.Goals as goal

pub returns : goal.returns
returns g c =
    map_from_collect c.collect.result c.collect.ensures.ran (YieldsList-from_first (λ row. row.now) (λ rest. rest) c.args.rows refl)
