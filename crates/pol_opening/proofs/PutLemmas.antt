-- Changes that have a form put valid metadata.
use Rattle.std.proofs.Common.{◌≡◌, List, subst}
use Rattle.std.specs.List.{AllByRecursion}
use Rattle.pol_changecodec.specs.Change.{change as change_form, changes as changes_form}
use Rattle.pol_changecodec.specs.Tables.{table_row, view_row}
use Rattle.pol_content.specs.declared.change.Change.{Change}
use Rattle.pol_content.specs.declared.change.Change.TheVariants.{PutTable, PutView}
use Rattle.pol_forms.specs.Forms.{list}
use Rattle.pol_metacodec.proofs.ToldLemmas.{metadata_told}
use Rattle.pol_sound_content.specs.Valid.{HasValidMetadata, HasValidViewMetadata}
use Rattle.pol_soundness.specs.Base.{PutsValid}
use Rattle.pol_table_rows.specs.declared.row.TableRow.{TableRow}
use Rattle.pol_tables.proofs.ListLemmas.{each-weaken}
use Rattle.pol_view_rows.specs.declared.row.ViewRow.{ViewRow}
use Rattle.pol_viewcodec.proofs.ToldLemmas.{view_told}

table_valid : (row : TableRow) → table_row.holds row → HasValidMetadata row
unfolding table_row
table_valid row held = ∣ metadata_told row.metadata held.1.1.1.1.1.1 ∣₁

view_valid : (row : ViewRow) → view_row.holds row → HasValidViewMetadata row
unfolding view_row
view_valid row held = ∣ view_told row.metadata held.1.1.1.1 ∣₁

same_table : (row other : TableRow) → PutTable row ≡ PutTable other → row ≡ other
same_table row other same = cc

same_view : (row other : ViewRow) → PutView row ≡ PutView other → row ≡ other
same_view row other same = cc

puts_valid : (change : Change) → change_form.holds change → PutsValid change
unfolding change_form
puts_valid (PutTable row) held = record {
  table = λ other same. subst HasValidMetadata (same_table row other same) (table_valid row held);
  view = λ other same. absurd (cc);
}
puts_valid (PutView row) held = record {
  table = λ other same. absurd (cc);
  view = λ other same. subst HasValidViewMetadata (same_view row other same) (view_valid row held);
}
puts_valid _ held = record { table = λ other same. absurd (cc); view = λ other same. absurd (cc) }

pub each_valid : (changes : List Change) → changes_form.holds changes → AllByRecursion PutsValid changes
unfolding list
each_valid changes held = each-weaken change_form.holds PutsValid changes puts_valid held.1
