use Rattle.std.proofs.Common.{refl}
use Rattle.pol_table_rows.proofs.tables.Tables.new.Goals as goal

pub invariant_of-result : goal.invariant_of-result
invariant_of-result c = rw (c.new.ensures, c.new-2.ensures) (λ other. refl)
