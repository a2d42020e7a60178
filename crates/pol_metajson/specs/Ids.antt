-- Ids.
use Rattle.std.specs.Prelude.{ℕ}
use Rattle.pol_readers.specs.Shape.{Shape, whole_number}

-- ids of columns; of schemas, specs and orders; and of partition fields (Iceberg table spec, Reserved Field IDs and
-- Partition Evolution)
abbrev pub column_id : Shape ℕ
column_id = whole_number 0 2147483447

abbrev pub id : Shape ℕ
id = whole_number 0 2147483647

abbrev pub field_id : Shape ℕ
field_id = whole_number 1000 2147483647
