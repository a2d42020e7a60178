-- Schemas that are asked for (Iceberg table spec, Schemas and Data Types).
use Rattle.std.specs.Prelude.{ℕ, zero, suc, ◌+◌, ◌==◌, ◌&&◌, Bool, false, not, List, [], ◌∷◌, ◌++◌, length, unwrap_or, Option, option_map}
use Rattle.std.specs.List.{list_any}
use Rattle.std.specs.Str.{bytes_eq}
use Rattle.serde_json.specs.Data.{Data}
use Rattle.pol_readers.specs.Reading.{Reading}
use Rattle.pol_meta.specs.Columns.{column_ids, has_field}
use Rattle.pol_meta.specs.declared.column.Column.{Column}
use Rattle.pol_meta.specs.declared.column.Part.{Part}
use Rattle.pol_meta.specs.declared.column.Part.TheVariants.{Field, Element, Key, Value}
use Rattle.pol_meta.specs.declared.column.Kind.TheVariants as kind
use Rattle.pol_meta.specs.declared.schema.Schema.{Schema}
use Rattle.pol_readers.specs.Shape.{Shape, ◌>>=◌, an_object, done, field, fixed, holds_at, list, one_of, optional, text, text_of, text_or, truth}
use Rattle.pol_metajson.specs.Chain.{in_turn}
use Rattle.pol_metajson.specs.Ids.{column_id, id}
use Rattle.pol_metajson.specs.Kind.{kind_of}
use Rattle.pol_metajson.specs.Known.{known_at}
use Rattle.pol_metajson.specs.declared.columns.Inner.{Inner}
use Rattle.pol_metajson.specs.declared.columns.Nested.{Nested}
use Rattle.pol_metajson.specs.declared.columns.Nested.TheVariants as nested
use Rattle.pol_metajson.specs.declared.columns.Typed.{Typed}
use Rattle.pol_metakeys.specs.declared.keys.TheConstants.{DOC, ELEMENT, ELEMENT_ID, ELEMENT_REQUIRED, FIELDS, ID, IDENTIFIER_FIELD_IDS, KEY, KEY_ID, LIST, MAP, NAME, REQUIRED, SCHEMA_ID, STRUCT, TYPE, VALUE, VALUE_ID, VALUE_REQUIRED}

-- a type whose columns stand in as many columns as the first number says, after columns that have the ids
abbrev KindForm : Type 1
KindForm = ℕ → List ℕ → Shape Typed

-- an id that no column before it has
abbrev pub is_seen : List ℕ → ℕ → Bool
is_seen seen id = list_any (λ other. other == id) seen

unfoldable pub fresh_id : List ℕ → List ℕ → Shape ℕ
fresh_id key seen = do
  given ← field key column_id
  _ ← holds_at key (not (is_seen seen given))
  done given

-- a type in whose word no columns are
abbrev pub plain_typed : List ℕ → Option Typed
plain_typed word = option_map (λ found. record { kind = found; columns = [] }) (kind_of word)

unfoldable pub plain_form : Shape Typed
plain_form = text_of plain_typed

-- a name that isn't empty, and that none of the columns beside it has
abbrev pub is_named : List ℕ → Part → Bool
is_named name (Field other required doc) = bytes_eq other name
is_named name (Element required) = false
is_named name Key = false
is_named name (Value required) = false

abbrev pub has_name : ℕ → List ℕ → Column → Bool
has_name depth name column = column.depth == depth && is_named name column.part

abbrev pub is_name_among : ℕ → List ℕ → List Column → Bool
is_name_among depth name columns = list_any (has_name depth name) columns

abbrev pub is_new_name : ℕ → List ℕ → List Column → Bool
is_new_name depth name beside = not (length name == 0) && not (is_name_among depth name beside)

-- a field of a struct, and the columns in it, after those beside it
unfoldable pub struct_field : KindForm → ℕ → List ℕ → List Column → Shape (List Column)
struct_field form depth seen beside = do
  _ ← an_object
  given ← fresh_id ID.now seen
  named ← field NAME.now text
  _ ← holds_at NAME.now (is_new_name depth named beside)
  needed ← field REQUIRED.now truth
  typed ← field TYPE.now (form (depth + 1) (seen ++ given ∷ []))
  said ← optional DOC.now text
  done (record { depth = depth; id = given; part = Field named needed said; kind = typed.kind } ∷ typed.columns)

-- the same, where those beside it stand after columns that have the ids
abbrev pub next_field : KindForm → ℕ → List ℕ → List Column → Shape (List Column)
next_field form depth seen beside = struct_field form depth (seen ++ column_ids beside) beside

abbrev pub read_next : KindForm → ℕ → List ℕ → List Column → Data → Reading (List Column)
read_next form depth seen beside = (next_field form depth seen beside).read

unfoldable pub struct_fields : KindForm → ℕ → List ℕ → Shape (List Column)
struct_fields form depth seen = in_turn (next_field form depth seen)

unfoldable pub struct_form : KindForm → KindForm
struct_form form depth seen = do
  columns ← field FIELDS.now (struct_fields form depth seen)
  done (record { kind = kind.Struct; columns = columns })

-- the one column at a key, its id at another, and the columns in it
unfoldable pub inner_form : KindForm → List ℕ → List ℕ → ℕ → List ℕ → Shape Inner
inner_form form id_key key depth seen = do
  given ← fresh_id id_key seen
  typed ← field key (form (depth + 1) (seen ++ given ∷ []))
  done (record { id = given; kind = typed.kind; columns = typed.columns })

-- the columns that it makes, as a part of that in which it stands
abbrev pub inner_columns : ℕ → Part → Inner → List Column
inner_columns depth part inner = record { depth = depth; id = inner.id; part = part; kind = inner.kind } ∷ inner.columns

unfoldable pub list_form : KindForm → KindForm
list_form form depth seen = do
  inner ← inner_form form ELEMENT_ID.now ELEMENT.now depth seen
  needed ← field ELEMENT_REQUIRED.now truth
  done (record { kind = kind.List; columns = inner_columns depth (Element needed) inner })

abbrev pub map_columns : ℕ → Bool → Inner → Inner → List Column
map_columns depth needed keyed valued = inner_columns depth Key keyed ++ inner_columns depth (Value needed) valued

unfoldable pub map_form : KindForm → KindForm
map_form form depth seen = do
  keyed ← inner_form form KEY_ID.now KEY.now depth seen
  valued ← inner_form form VALUE_ID.now VALUE.now depth (seen ++ keyed.id ∷ column_ids keyed.columns)
  needed ← field VALUE_REQUIRED.now truth
  done (record { kind = kind.Map; columns = map_columns depth needed keyed valued })

abbrev pub nested_kinds : List (List ℕ × Nested)
nested_kinds = (STRUCT.now, nested.Struct) ∷ (LIST.now, nested.List) ∷ (MAP.now, nested.Map) ∷ []

unfoldable pub nested_kind : Shape Nested
nested_kind = one_of nested_kinds

abbrev pub form_of : KindForm → Nested → KindForm
form_of form nested.Struct = struct_form form
form_of form nested.List = list_form form
form_of form nested.Map = map_form form

unfoldable pub nested_form : KindForm → KindForm
nested_form form depth seen = do
  _ ← an_object
  found ← field TYPE.now nested_kind
  form_of form found depth seen

-- a type in which at most so many others stand in one another
unfoldable pub kind_form : ℕ → ℕ → List ℕ → Shape Typed
kind_form zero depth seen = plain_form
kind_form (suc left) depth seen = text_or plain_form (nested_form (kind_form left) depth seen)

-- the columns of a schema
unfoldable pub columns_form : Shape (List Column)
columns_form = struct_fields (kind_form 32) 0 []

-- an id that is given is read for its form alone
unfoldable pub schema : Shape Schema
schema = do
  _ ← an_object
  _ ← field TYPE.now (fixed STRUCT.now)
  _ ← optional SCHEMA_ID.now id
  identifiers ← optional IDENTIFIER_FIELD_IDS.now (list column_id)
  columns ← field FIELDS.now columns_form
  _ ← known_at IDENTIFIER_FIELD_IDS.now (has_field columns) (unwrap_or identifiers [])
  done (record { schema_id = 0; identifier_field_ids = unwrap_or identifiers []; fields = columns })
