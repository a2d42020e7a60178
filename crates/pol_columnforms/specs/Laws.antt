-- Which columns have a form.
use Rattle.std.specs.Prelude.{List}
use Rattle.pol_meta.specs.declared.column.Column.{Column}
use Rattle.pol_columnforms.specs.Columns.{AreColumns, AreStored, columns}

-- those of a schema as the Iceberg table spec has it, where they are such as memory keeps
abbrev pub ValidHaveForms : Type 0
ValidHaveForms = (these : List Column) → AreStored these → AreColumns these → columns.holds these

-- and no others
abbrev pub FormsAreValid : Type 0
FormsAreValid = (these : List Column) → columns.holds these → AreColumns these
