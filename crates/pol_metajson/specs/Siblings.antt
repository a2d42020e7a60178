-- The columns of one struct, while they are read.
use Rattle.std.specs.Prelude.{◌≡◌, ℕ, List}
use Rattle.std.specs.List.{list_any}
use Rattle.std.specs.Str.{bytes_eq}
use Rattle.pol_meta.specs.declared.column.Column.{Column}
use Rattle.pol_metajson.specs.Schema.{is_name_among}

-- columns of a struct, and in how many others its fields stand
pub record Beside : Type 0 where
  pub depth : ℕ
  pub columns : List Column

-- texts that are the names of the fields at a depth, in any order
abbrev pub AreNames : ℕ → List Column → List (List ℕ) → Type 0
AreNames depth columns names = (name : List ℕ) → list_any (bytes_eq name) names ≡ is_name_among depth name columns
