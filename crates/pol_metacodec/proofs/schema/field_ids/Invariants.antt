use Rattle.std.proofs.Common.{◌≡◌, ℕ, nat_eq, take}
use Rattle.indexmap.specs.IndexSet.{contains}
use Rattle.pol_meta.specs.Columns.{has_field}
use Rattle.pol_metacodec.proofs.schema.field_ids.Given as goal

abbrev pub invariant-loop-column : goal.invariant-loop-column
invariant-loop-column l = (id : ℕ) → contains nat_eq l.ids id ≡ has_field (take l.column-index l.columns) id
