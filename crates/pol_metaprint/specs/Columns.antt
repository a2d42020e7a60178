-- What the JSON of a schema holds (Iceberg table spec, Appendix C). Columns stand in preorder, so those in a column are
-- the ones behind it that are deeper.
use Rattle.std.specs.Prelude.{ℕ, Bool, false, true, nat_lt, List, [], ◌∷◌, Option, None, Some, if◌then◌else◌}
use Rattle.serde_json.specs.Data.{Data, Members, boolean, no_members, null, object, put, string}
use Rattle.pol_meta.specs.declared.column.Column.{Column}
use Rattle.pol_meta.specs.declared.column.Kind.{Kind}
use Rattle.pol_meta.specs.declared.column.Kind.TheVariants as kind
use Rattle.pol_meta.specs.declared.column.Part.{Part}
use Rattle.pol_meta.specs.declared.column.Part.TheVariants.{Field, Element, Key, Value}
use Rattle.pol_metakeys.specs.declared.keys.TheConstants.{DOC, ELEMENT, ELEMENT_ID, ELEMENT_REQUIRED, FIELDS, ID, KEY, KEY_ID, LIST, MAP, NAME, REQUIRED, STRUCT, TYPE, VALUE, VALUE_ID, VALUE_REQUIRED}
use Rattle.pol_metaprint.specs.Json.{list_json, number_json}
use Rattle.pol_metaprint.specs.Texts.{kind_text}

-- a column, and what its type is printed as
pub record Tree : Type 0 where
  pub column : Column
  pub json : Data

-- one more member, if it is there
abbrev pub put_text : List ℕ → Option (List ℕ) → Members → Members
put_text key None members = members
put_text key (Some text) members = put key (string text) members

-- a field of a struct; a part that is no field, and no struct holds one, is printed as null
abbrev pub part_json : Part → ℕ → Data → Data
part_json (Field name required doc) id json =
    object (put TYPE.now json (put REQUIRED.now (boolean required) (put NAME.now (string name)
    (put ID.now (number_json id) (put_text DOC.now doc no_members)))))
part_json (Element required) id json = null
part_json Key id json = null
part_json (Value required) id json = null

unfoldable pub field_json : Tree → Data
field_json tree = part_json tree.column.part tree.column.id tree.json

unfoldable pub struct_json : List Tree → Data
struct_json trees = object (put TYPE.now (string STRUCT.now) (put FIELDS.now (list_json field_json trees) no_members))

-- whether the part that is an element or a value is required
abbrev pub is_required : Part → Bool
is_required (Field name required doc) = required
is_required (Element required) = required
is_required Key = true
is_required (Value required) = required

abbrev pub element_json : Tree → Data
element_json element =
    object (put TYPE.now (string LIST.now) (put ELEMENT_REQUIRED.now (boolean (is_required element.column.part))
    (put ELEMENT_ID.now (number_json element.column.id) (put ELEMENT.now element.json no_members))))

abbrev pub pair_json : Tree → Tree → Data
pair_json key value =
    object (put TYPE.now (string MAP.now) (put VALUE_REQUIRED.now (boolean (is_required value.column.part))
    (put VALUE_ID.now (number_json value.column.id) (put VALUE.now value.json
    (put KEY_ID.now (number_json key.column.id) (put KEY.now key.json no_members))))))

-- a list has one column in it, and a map two
unfoldable pub list_of : List Tree → Data
list_of [] = null
list_of (element ∷ []) = element_json element
list_of (element ∷ next ∷ others) = null

unfoldable pub map_of : List Tree → Data
map_of [] = null
map_of (key ∷ []) = null
map_of (key ∷ value ∷ []) = pair_json key value
map_of (key ∷ value ∷ next ∷ others) = null

abbrev pub kind_json : Kind → List Tree → Data
kind_json kind.Struct trees = struct_json trees
kind_json kind.List trees = list_of trees
kind_json kind.Map trees = map_of trees
kind_json kind.Boolean trees = string (kind_text kind.Boolean)
kind_json kind.Int trees = string (kind_text kind.Int)
kind_json kind.Long trees = string (kind_text kind.Long)
kind_json kind.Float trees = string (kind_text kind.Float)
kind_json kind.Double trees = string (kind_text kind.Double)
kind_json kind.Date trees = string (kind_text kind.Date)
kind_json kind.Time trees = string (kind_text kind.Time)
kind_json kind.Timestamp trees = string (kind_text kind.Timestamp)
kind_json kind.Timestamptz trees = string (kind_text kind.Timestamptz)
kind_json kind.String trees = string (kind_text kind.String)
kind_json kind.Uuid trees = string (kind_text kind.Uuid)
kind_json kind.Binary trees = string (kind_text kind.Binary)
kind_json (kind.Decimal precision scale) trees = string (kind_text (kind.Decimal precision scale))
kind_json (kind.Fixed length) trees = string (kind_text (kind.Fixed length))

-- those at the head that are deeper, and the others
abbrev pub inner_of : ℕ → List Tree → List Tree
inner_of depth [] = []
inner_of depth (tree ∷ trees) = if nat_lt depth tree.column.depth then tree ∷ inner_of depth trees else []

abbrev pub beside_of : ℕ → List Tree → List Tree
beside_of depth [] = []
beside_of depth (tree ∷ trees) = if nat_lt depth tree.column.depth then beside_of depth trees else tree ∷ trees

-- whether the first is deeper
abbrev pub is_deeper : ℕ → List Tree → Bool
is_deeper depth [] = false
is_deeper depth (tree ∷ trees) = nat_lt depth tree.column.depth

-- a column before others takes those in that are deeper
unfoldable pub grown : Column → List Tree → List Tree
grown column trees =
    record { column = column; json = kind_json column.kind (inner_of column.depth trees) } ∷ beside_of column.depth trees

abbrev pub trees_of : List Column → List Tree
trees_of [] = []
trees_of (column ∷ columns) = grown column (trees_of columns)
