-- Which lists of columns are those of a schema: each column is followed by the columns in it.
use Rattle.std.specs.Prelude.{◌≡◌, ◌≢◌, ℕ, suc, Bool, true, false, List, [], ◌∷◌, ◌++◌, ◌==◌, ◌&&◌, map, All, Option, Some, None}
use Rattle.std.specs.Bool.{⊤}
use Rattle.std.specs.List.{IsDistinct, filter_map, list_any}
use Rattle.std.specs.Str.{bytes_eq}
use Rattle.pol_meta.specs.declared.column.Column.{Column}
use Rattle.pol_meta.specs.declared.column.Kind.{Kind}
use Rattle.pol_meta.specs.declared.column.Kind.TheVariants as kind
use Rattle.pol_meta.specs.declared.column.Part.{Part}
use Rattle.pol_meta.specs.declared.column.Part.TheVariants.{Field, Element, Key, Value}

-- columns that stand beside each other: a column, the columns in it, and those after it
pub data Columns : Type 0 where
  none : Columns
  nest : Column → Columns → Columns → Columns

-- the list of them, each followed by those in it
abbrev pub listed : Columns → List Column
listed none = []
listed (nest first inner beside) = first ∷ listed inner ++ listed beside

-- what they are of that in which they stand, without those in them
abbrev pub parts : Columns → List Part
parts none = []
parts (nest first inner beside) = first.part ∷ parts beside

-- whether a part is a field
abbrev pub is_field : Part → Bool
is_field (Field name required doc) = true
is_field (Element required) = false
is_field Key = false
is_field (Value required) = false

-- the names of those that are fields
abbrev pub name_of : Part → Option (List ℕ)
name_of (Field name required doc) = Some name
name_of (Element required) = None
name_of Key = None
name_of (Value required) = None

-- the columns of a struct: fields, whose names differ and aren't empty
pub record AreFields (chosen : List Part) : Type 0 where
  pub fields : All (λ part. is_field part ≡ true) chosen
  pub named : All (λ name. name ≢ []) (filter_map name_of chosen)
  pub differ : IsDistinct bytes_eq (filter_map name_of chosen)

-- no columns
abbrev pub AreNone : List Part → Type 0
AreNone [] = ⊤
AreNone (first ∷ others) = ⊥

-- the columns in one: a struct has fields, a list its element, a map its key and its value, and any other none
abbrev pub AreIn : Kind → List Part → Type 0
AreIn kind.Struct chosen = AreFields chosen
AreIn kind.List (Element required ∷ []) = ⊤
AreIn kind.List chosen = ⊥
AreIn kind.Map (Key ∷ Value required ∷ []) = ⊤
AreIn kind.Map chosen = ⊥
AreIn kind.Boolean chosen = AreNone chosen
AreIn kind.Int chosen = AreNone chosen
AreIn kind.Long chosen = AreNone chosen
AreIn kind.Float chosen = AreNone chosen
AreIn kind.Double chosen = AreNone chosen
AreIn kind.Date chosen = AreNone chosen
AreIn kind.Time chosen = AreNone chosen
AreIn kind.Timestamp chosen = AreNone chosen
AreIn kind.Timestamptz chosen = AreNone chosen
AreIn kind.String chosen = AreNone chosen
AreIn kind.Uuid chosen = AreNone chosen
AreIn kind.Binary chosen = AreNone chosen
AreIn (kind.Decimal precision scale) chosen = AreNone chosen
AreIn (kind.Fixed length) chosen = AreNone chosen

-- each stands in as many columns as it says, and the columns in each are those that its type asks for
abbrev pub StandAt : ℕ → Columns → Type 0
StandAt depth none = ⊤
StandAt depth (nest first inner beside) =
    (first.depth ≡ depth) × AreIn first.kind (parts inner) × StandAt (suc depth) inner × StandAt depth beside

-- the columns of a schema: its fields, and in each those that its type asks for
pub record IsNested (columns : List Column) : Type 0 where
  pub nested : Columns
  pub list : columns ≡ listed nested
  pub fields : AreFields (parts nested)
  pub stand : StandAt 0 nested

-- whether a column has this id
abbrev pub has_column : List Column → ℕ → Bool
has_column columns id = list_any (λ column. column.id == id) columns

-- whether a column that is a field has it
abbrev pub has_field : List Column → ℕ → Bool
has_field columns id = list_any (λ column. column.id == id && is_field column.part) columns

abbrev pub column_ids : List Column → List ℕ
column_ids columns = map (λ column. column.id) columns
