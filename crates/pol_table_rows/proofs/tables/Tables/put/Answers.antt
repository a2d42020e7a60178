use Rattle.std.proofs.Common.{◌≡◌, Bor, None, Option, Some, ap, is_some, refl, subst, sym, ◌∙◌}
use Rattle.std.specs.Option.{option_copied}
use Rattle.pol_tables.specs.Table.{row_of, rows_with}
use Rattle.pol_tables.proofs.TableLemmas.{is_some-row_of}
use Rattle.pol_table_rows.specs.Places.{IsPut}
use Rattle.pol_table_rows.specs.Tables.{ArePlaced, stays_at, table_id}
use Rattle.pol_table_rows.specs.declared.row.TableRow.{TableRow}
use Rattle.pol_table_rows.specs.declared.tables.Tables.TheInside.{Inside}
use Rattle.pol_table_rows.proofs.TablesLemmas.{placed-new, placed-put, placed-stays}
use Rattle.pol_table_rows.proofs.tables.Tables.put.Goals as goal
use Rattle.pol_table_rows.proofs.tables.Tables.put.Goals.{else-is_none+else-not-stays_at, else-is_none+then-not-stays_at, then-is_none}

is_some-copied : {T : Type 0} (found : Option (Bor T)) → is_some (option_copied found) ≡ is_some found
is_some-copied None = refl
is_some-copied (Some row) = refl

pub add-requires-clause-new_owner : goal.add-requires-clause-new_owner
add-requires-clause-new_owner c =
    let row : TableRow = c.into_parts-row.result.0 in
    let unknown = sym (is_some-row_of table_id row.id c.self.inside.rows.rows) ∙ ap is_some (sym c.find-known.ensures) ∙ is_some-copied c.find-known.result ∙ c.if-is_none.ensures in
    placed-new row c.self.inside.rows.rows c.self.inside.places.members c.self.invariant unknown

pub invariant_of-self : goal.invariant_of-self
invariant_of-self c =
    let row : TableRow = c.into_parts-row.result.0 in
    let rows = c.self.inside.rows.rows in
    let old = c.self.inside.places.members in
    let there : c.into_parts-row.result.1 ≡ row.location =
    c.into_parts-row.ensures.place ∙ ap (λ (one : TableRow). one.location) (sym c.into_parts-row.ensures.row) in
    let Placed : Inside → Type 0 = λ inside. ArePlaced inside.places.members (rows_with table_id row inside.rows.rows) in
    rw c.put-2.ensures.rows (elim c.if-is_none.branch [
      | then-is_none w ↦
          let put = subst (λ location. IsPut (record { owner = row.id; location = location }) old w.add.new.self.members) there w.add.ensures.put in
          subst Placed (sym w.self-inside-is) (placed-put row rows old w.add.new.self.members c.self.invariant put)
      | else-is_none+then-not-stays_at w ↦
          let put = subst (λ location. IsPut (record { owner = row.id; location = location }) old w.put.new.self.members) there w.put.ensures.put in
          subst Placed (sym w.self-inside-is) (placed-put row rows old w.put.new.self.members c.self.invariant put)
      | else-is_none+else-not-stays_at w ↦
          let stays =
          ap (λ location. stays_at location (row_of table_id row.id rows)) (sym there)
          ∙ ap (stays_at c.into_parts-row.result.1) (sym c.find-known.ensures)
          ∙ sym w.stays_at.ensures
          ∙ w.if-not-stays_at.false in
          subst Placed (sym w.self-inside-is) (placed-stays row rows old c.rows-differ.ensures.differ stays c.self.invariant)
    ])
