-- What `==` tells of views: only equal ones compare as equal.
use Rattle.std.specs.Prelude.{◌≡◌, true}
use Rattle.pol_meta.specs.Exactness.{both, numbers_exact, texts_exact}
use Rattle.pol_views.specs.Exactness.{view_metadata_exact}
use Rattle.pol_view_rows.specs.contracts.row.ViewRowPartialEq.TheImpl as view_rows_compared
use Rattle.pol_view_rows.specs.declared.row.ViewRow.{ViewRow}

pub view_rows_exact : (left right : ViewRow) → (view_rows_compared.ghosts).eq left right ≡ true → left ≡ right
view_rows_exact left right same =
    let told =
    both (numbers_exact left.id right.id)
    (both (numbers_exact left.namespace right.namespace)
    (both (texts_exact left.name right.name)
    (both (numbers_exact left.version right.version)
    (view_metadata_exact left.metadata right.metadata)))) same
    in
    λ i. record {
      id = told.0 i;
      namespace = told.1.0 i;
      name = told.1.1.0 i;
      version = told.1.1.1.0 i;
      metadata = told.1.1.1.1 i;
    }
