-- The forms of the rows of tables and views.
use Rattle.std.specs.Prelude.{◌≡◌, ℕ, true, List, is_none, refl}
use Rattle.std.proofs.Common.{ap}
use Rattle.pol_forms.specs.Form.{Form}
use Rattle.pol_forms.specs.Forms.{mapped, number, ruled, text, ◌&◌}
use Rattle.pol_forms.specs.Names.{is_none-None, location}
use Rattle.pol_metacodec.specs.Metadata.{metadata}
use Rattle.pol_names.proofs.Refusals.{IsName-from_refusal, name_refusal-IsName}
use Rattle.pol_names.specs.Name.{IsName, name_refusal}
use Rattle.pol_table_rows.specs.declared.row.TableRow.{TableRow}
use Rattle.pol_view_rows.specs.declared.row.ViewRow.{ViewRow}
use Rattle.pol_viewcodec.specs.Views.{view}

-- a text that is UTF-8 and that the rule of names refuses for nothing is a name
pub name_told : (name : List ℕ) → text.holds name → is_none (name_refusal name) ≡ true → IsName name
unfolding text
name_told name held passes = IsName-from_refusal name held.1 (is_none-None (name_refusal name) passes)

-- a name: its text
unfoldable pub name : Form (List ℕ)
name = ruled text IsName (λ one. is_none (name_refusal one)) name_told (λ one right. ap is_none (name_refusal-IsName one right))

-- a table: id, namespace, name, version, moves, location, metadata
unfoldable pub table_row : Form TableRow
table_row = mapped (number & number & name & number & number & location & metadata)
    (λ fields. record {
      id = fields.0;
      namespace = fields.1.0;
      name = fields.1.1.0;
      version = fields.1.1.1.0;
      moves = fields.1.1.1.1.0;
      location = fields.1.1.1.1.1.0;
      metadata = fields.1.1.1.1.1.1;
    })
    (λ row. (row.id, (row.namespace, (row.name, (row.version, (row.moves, (row.location, row.metadata)))))))
    (λ row. refl) (λ fields. refl)

-- a view: id, namespace, name, version, metadata
unfoldable pub view_row : Form ViewRow
view_row = mapped (number & number & name & number & view)
    (λ fields. record {
      id = fields.0;
      namespace = fields.1.0;
      name = fields.1.1.0;
      version = fields.1.1.1.0;
      metadata = fields.1.1.1.1;
    })
    (λ row. (row.id, (row.namespace, (row.name, (row.version, row.metadata)))))
    (λ row. refl) (λ fields. refl)
