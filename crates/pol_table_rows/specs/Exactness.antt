-- What `==` tells of tables: only equal ones compare as equal.
use Rattle.std.specs.Prelude.{◌≡◌, ℕ, Bool, true, ◌&&◌, nat_eq, List}
use Rattle.std.specs.Cmp.{first_so, second_so}
use Rattle.std.specs.Cmp.Lexicographic.{pointwise, same_text}
use Rattle.std.proofs.Common.{sym}
use Rattle.std.proofs.lemmas.Bool.{eqb-true}
use Rattle.pol_types.specs.Exact.{pointwise_exact}
use Rattle.pol_meta.specs.Exactness.{table_metadata_exact}
use Rattle.pol_table_rows.specs.contracts.row.TableRowPartialEq.TheImpl as table_rows_compared
use Rattle.pol_table_rows.specs.declared.row.TableRow.{TableRow}

-- two comparisons that both hold tell what each of them tells
both : {P Q : Type 0} {a b : Bool} → (a ≡ true → P) → (b ≡ true → Q) → (a && b) ≡ true → P × Q
both {P} {Q} {a} {b} first second same = (first (first_so a b same), second (second_so a b same))

numbers_exact : (left right : ℕ) → nat_eq left right ≡ true → left ≡ right
numbers_exact left right same = eqb-true left right same

texts_exact : (left right : List ℕ) → pointwise nat_eq left right ≡ true → left ≡ right
texts_exact left right same = same_text left right (sym same)

pub table_rows_exact : (left right : TableRow) → (table_rows_compared.ghosts).eq left right ≡ true → left ≡ right
table_rows_exact left right same =
    let told =
    both (numbers_exact left.id right.id)
    (both (numbers_exact left.namespace right.namespace)
    (both (texts_exact left.name right.name)
    (both (numbers_exact left.version right.version)
    (both (numbers_exact left.moves right.moves)
    (both (pointwise_exact texts_exact left.location right.location)
    (table_metadata_exact left.metadata right.metadata)))))) same
    in
    λ i. record {
      id = told.0 i;
      namespace = told.1.0 i;
      name = told.1.1.0 i;
      version = told.1.1.1.0 i;
      moves = told.1.1.1.1.0 i;
      location = told.1.1.1.1.1.0 i;
      metadata = told.1.1.1.1.1.1 i;
    }
