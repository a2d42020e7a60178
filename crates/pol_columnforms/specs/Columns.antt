-- The form of the columns of a schema: the number of its fields, and each field with its type in it. The columns of a
-- type stand in the column that has it, and are behind it in the list.
use Rattle.std.specs.Prelude.{◌≡◌, ◌≤◌, ◌<◌, ◌^◌, ℕ, zero, suc, ◌+◌, Bool, true, false, nat_le, nat_lt, List, [], ◌∷◌, ◌++◌, All, Option, Some, None, length, if◌then◌else◌, refl}
use Rattle.std.specs.List.{AllByRecursion}
use Rattle.std.proofs.Common.{subst, flat_map, append-nil, arith}
use Rattle.std.proofs.lemmas.Bool.{le-leb, le-ltb, leb-true, lt-ltb}
use Rattle.pol_forms.specs.Enums.{Variant, Written, case_of, enum, enum_read, made_read_back, optional, truth, written_as}
use Rattle.pol_forms.specs.Form.{Form}
use Rattle.pol_forms.specs.Forms.{list, ruled, short_number, text, ◌&◌}
use Rattle.pol_meta.specs.Columns.{IsNested}
use Rattle.pol_meta.specs.Valid.{IsColumn}
use Rattle.pol_meta.specs.declared.column.Column.{Column}
use Rattle.pol_meta.specs.declared.column.Kind.{Kind}
use Rattle.pol_meta.specs.declared.column.Kind.TheVariants as kind
use Rattle.pol_meta.specs.declared.column.Part.{Part}
use Rattle.pol_meta.specs.declared.column.Part.TheVariants.{Field, Element, Key, Value}
use Rattle.pol_columnforms.specs.Named.{AreNamed, are_named, named-told, names_in, told-named}
use Rattle.pol_columnforms.specs.Shaped.{always, never, shaped}
use Rattle.pol_partcodec.specs.Numbers.{column_id, precision, size}

-- the columns at the head that are deeper, those behind them, and each other column with the deeper ones behind it
abbrev pub inner_of : ℕ → List Column → List Column
inner_of depth [] = []
inner_of depth (column ∷ columns) = if nat_lt depth column.depth then column ∷ inner_of depth columns else []

abbrev pub beside_of : ℕ → List Column → List Column
beside_of depth [] = []
beside_of depth (column ∷ columns) = if nat_lt depth column.depth then beside_of depth columns else column ∷ columns

abbrev pub chunks : ℕ → List Column → List (List Column)
chunks depth [] = []
chunks depth (column ∷ columns) =
    if nat_lt depth column.depth then chunks depth columns else (column ∷ inner_of depth columns) ∷ chunks depth columns

abbrev pub joined : List (List Column) → List Column
joined chunks = flat_map (λ chunk. chunk) chunks

-- what is written of a part
abbrev pub name_in : Part → List ℕ
name_in (Field name required doc) = name
name_in (Element required) = []
name_in Key = []
name_in (Value required) = []

abbrev pub required_in : Part → Bool
required_in (Field name required doc) = required
required_in (Element required) = required
required_in Key = true
required_in (Value required) = required

abbrev pub doc_in : Part → Option (List ℕ)
doc_in (Field name required doc) = doc
doc_in (Element required) = None
doc_in Key = None
doc_in (Value required) = None

-- a type, and the columns in it
abbrev pub Typed : Type 0
Typed = Kind × List Column

-- each column stands in so many others, or in more
abbrev pub AreDeep : ℕ → List Column → Type 0
AreDeep depth columns = AllByRecursion (λ column. depth ≤ column.depth) columns

-- a form of types whose columns stand in so many others
pub record TypeForm (depth : ℕ) : Type 1 where
  pub form : Form Typed
  pub deep : (typed : Typed) → form.holds typed → AreDeep depth typed.1

-- lists of columns that are deep, and what is behind them
pub deeper_inner : (depth : ℕ) (inner rest : List Column) → AreDeep (depth + 1) inner → inner_of depth (inner ++ rest) ≡ inner ++ inner_of depth rest
deeper_inner depth [] rest deep = refl
deeper_inner depth (column ∷ inner) rest deep = rw (lt-ltb depth column.depth (omega (arith, deep.0)), deeper_inner depth inner rest deep.1) refl

pub deeper_beside : (depth : ℕ) (inner rest : List Column) → AreDeep (depth + 1) inner → beside_of depth (inner ++ rest) ≡ beside_of depth rest
deeper_beside depth [] rest deep = refl
deeper_beside depth (column ∷ inner) rest deep = rw (lt-ltb depth column.depth (omega (arith, deep.0))) (deeper_beside depth inner rest deep.1)

deeper_chunks : (depth : ℕ) (inner rest : List Column) → AreDeep (depth + 1) inner → chunks depth (inner ++ rest) ≡ chunks depth rest
deeper_chunks depth [] rest deep = refl
deeper_chunks depth (column ∷ inner) rest deep = rw (lt-ltb depth column.depth (omega (arith, deep.0))) (deeper_chunks depth inner rest deep.1)

pub at_depth : (depth other : ℕ) → other ≡ depth → nat_lt depth other ≡ false
at_depth depth other is = le-ltb depth other (omega (arith, is))

-- a column at this depth, and deeper ones
abbrev pub IsChunk : ℕ → List Column → Type 0
IsChunk depth [] = ⊥
IsChunk depth (column ∷ inner) = (column.depth ≡ depth) × AreDeep (depth + 1) inner

none_inner : (depth : ℕ) (all : List (List Column)) → AllByRecursion (IsChunk depth) all → inner_of depth (joined all) ≡ []
none_inner depth [] each = refl
none_inner depth ([] ∷ all) each = absurd each.0
none_inner depth ((column ∷ inner) ∷ all) each = rw (at_depth depth column.depth each.0.0) refl

pub chunks_joined : (depth : ℕ) (all : List (List Column)) → AllByRecursion (IsChunk depth) all → chunks depth (joined all) ≡ all
chunks_joined depth [] each = refl
chunks_joined depth ([] ∷ all) each = absurd each.0
chunks_joined depth ((column ∷ inner) ∷ all) each =
    rw (
      at_depth depth column.depth each.0.0,
      deeper_inner depth inner (joined all) each.0.1,
      none_inner depth all each.1,
      deeper_chunks depth inner (joined all) each.0.1,
      chunks_joined depth all each.1,
      append-nil inner,
    ) refl

pub shallower : (depth : ℕ) (inner : List Column) → AreDeep (depth + 1) inner → AreDeep depth inner
shallower depth [] deep = tt
shallower depth (other ∷ inner) deep = (omega (arith, deep.0), shallower depth inner deep.1)

chunk_deep : (depth : ℕ) (chunk : List Column) → IsChunk depth chunk → AreDeep depth chunk
chunk_deep depth [] is = absurd is
chunk_deep depth (column ∷ inner) is = (omega (arith, is.0), shallower depth inner is.1)

pub deep_both : (depth : ℕ) (front rest : List Column) → AreDeep depth front → AreDeep depth rest → AreDeep depth (front ++ rest)
deep_both depth [] rest one two = two
deep_both depth (column ∷ front) rest one two = (one.0, deep_both depth front rest one.1 two)

joined_deep : (depth : ℕ) (all : List (List Column)) → AllByRecursion (IsChunk depth) all → AreDeep depth (joined all)
joined_deep depth [] each = tt
joined_deep depth (chunk ∷ all) each = deep_both depth chunk (joined all) (chunk_deep depth chunk each.0) (joined_deep depth all each.1)

module _ (depth : ℕ) (type : TypeForm (depth + 1)) where
  -- a field: id, name, whether it is required, type, text
  abbrev pub FieldParts : Type 0
  FieldParts = ℕ × ((List ℕ) × (Bool × (Typed × Option (List ℕ))))

  abbrev pub field_of : FieldParts → List Column
  field_of it = record { depth = depth; id = it.0; part = Field it.1.0 it.1.1.0 it.1.1.1.1; kind = it.1.1.1.0.0 } ∷ it.1.1.1.0.1

  abbrev pub field_to : List Column → FieldParts
  field_to [] = (0, ([], (true, ((kind.Boolean, []), None))))
  field_to (column ∷ inner) = (column.id, (name_in column.part, (required_in column.part, ((column.kind, inner), doc_in column.part))))

  unfoldable pub field : Form (List Column)
  field = shaped (column_id & text & truth & type.form & optional text) field_of field_to (λ it held. refl)

  field_chunk : (chunk : List Column) → field.holds chunk → IsChunk depth chunk
  unfolding field
  field_chunk chunk held = subst (IsChunk depth) held.1 (refl, type.deep (field_to chunk).1.1.1.0 held.0.1.1.1.0)

  each_chunk : (all : List (List Column)) → AllByRecursion field.holds all → AllByRecursion (IsChunk depth) all
  each_chunk [] each = tt
  each_chunk (chunk ∷ all) each = (field_chunk chunk each.0, each_chunk all each.1)

  pub fields_back : (all : List (List Column)) → (list field).holds all → chunks depth (joined all) ≡ all
  unfolding list
  fields_back all held = chunks_joined depth all (each_chunk all held.1)

  -- the fields of a struct: their number, and they; their names differ and aren't empty
  unfoldable pub listed_fields : Form (List Column)
  listed_fields = shaped (list field) joined (chunks depth) fields_back

  unfoldable pub fields : Form (List Column)
  fields = ruled listed_fields (λ columns. AreNamed (names_in depth columns)) (λ columns. are_named (names_in depth columns))
      (λ columns held passes. named-told (names_in depth columns) passes) (λ columns right. told-named (names_in depth columns) right)

  pub fields_deep : (columns : List Column) → fields.holds columns → AreDeep depth columns
  unfolding fields listed_fields list
  fields_deep columns held = subst (AreDeep depth) held.0.1 (joined_deep depth (chunks depth columns) (each_chunk (chunks depth columns) held.0.0.1))

  -- the element of a list: id, type, whether it is required
  abbrev pub ElementParts : Type 0
  ElementParts = ℕ × (Typed × Bool)

  abbrev pub element_of : ElementParts → List Column
  element_of it = record { depth = depth; id = it.0; part = Element it.1.1; kind = it.1.0.0 } ∷ it.1.0.1

  abbrev pub element_to : List Column → ElementParts
  element_to [] = (0, ((kind.Boolean, []), true))
  element_to (column ∷ inner) = (column.id, ((column.kind, inner), required_in column.part))

  unfoldable pub element : Form (List Column)
  element = shaped (column_id & type.form & truth) element_of element_to (λ it held. refl)

  pub element_deep : (columns : List Column) → element.holds columns → AreDeep depth columns
  unfolding element
  element_deep columns held =
      chunk_deep depth columns (subst (IsChunk depth) held.1 (refl, type.deep (element_to columns).1.0 held.0.1.0))

  -- the key and the value of a map: the key's id and type, those of the value, whether the value is required
  abbrev pub PairParts : Type 0
  PairParts = ℕ × (Typed × (ℕ × (Typed × Bool)))

  abbrev key_of : PairParts → List Column
  key_of it = record { depth = depth; id = it.0; part = Key; kind = it.1.0.0 } ∷ it.1.0.1

  abbrev value_of : PairParts → List Column
  value_of it = record { depth = depth; id = it.1.1.0; part = Value it.1.1.1.1; kind = it.1.1.1.0.0 } ∷ it.1.1.1.0.1

  abbrev pub pair_of : PairParts → List Column
  pair_of it = key_of it ++ value_of it

  abbrev pub value_to : Column → List Column → List Column → PairParts
  value_to key inner [] = (key.id, ((key.kind, inner), (0, ((kind.Boolean, []), true))))
  value_to key inner (column ∷ columns) = (key.id, ((key.kind, inner), (column.id, ((column.kind, columns), required_in column.part))))

  abbrev pub pair_to : List Column → PairParts
  pair_to [] = (0, ((kind.Boolean, []), (0, ((kind.Boolean, []), true))))
  pair_to (key ∷ columns) = value_to key (inner_of depth columns) (beside_of depth columns)

  abbrev pub pair_parts : Form PairParts
  pair_parts = column_id & type.form & column_id & type.form & truth

  pub pair_back : (it : PairParts) → pair_parts.holds it → pair_to (pair_of it) ≡ it
  pair_back it held =
      let deep = type.deep it.1.0 held.1.0 in
      rw (
        deeper_inner depth it.1.0.1 (value_of it) deep,
        deeper_beside depth it.1.0.1 (value_of it) deep,
        at_depth depth depth refl,
        append-nil it.1.0.1,
      ) refl

  unfoldable pub pair : Form (List Column)
  pair = shaped pair_parts pair_of pair_to pair_back

  pub pair_deep : (columns : List Column) → pair.holds columns → AreDeep depth columns
  unfolding pair
  pair_deep columns held =
      let it = pair_to columns in
      subst (AreDeep depth) held.1
      (deep_both depth (key_of it) (value_of it)
      (chunk_deep depth (key_of it) (refl, type.deep it.1.0 held.0.1.0))
      (chunk_deep depth (value_of it) (refl, type.deep it.1.1.1.0 held.0.1.1.1.0)))

-- digits in all, from 1 to 38, and those behind the point, not more
unfoldable pub decimal : Form (ℕ × ℕ)
decimal = ruled (precision & short_number) (λ digits. digits.1 ≤ digits.0) (λ digits. nat_le digits.1 digits.0)
    (λ digits held passes. leb-true digits.1 digits.0 passes) (λ digits right. le-leb digits.1 digits.0 right)

-- types, given the forms of the columns in a struct, a list and a map: the place of the type, its numbers, and the columns
module _ (fields element pair : Form (List Column)) where
  abbrev none_in : Form (List Column)
  none_in = always []

  abbrev kind_written : Kind → List Column → Written
  kind_written kind.Boolean columns = written_as 0 none_in columns
  kind_written kind.Int columns = written_as 1 none_in columns
  kind_written kind.Long columns = written_as 2 none_in columns
  kind_written kind.Float columns = written_as 3 none_in columns
  kind_written kind.Double columns = written_as 4 none_in columns
  kind_written kind.Date columns = written_as 5 none_in columns
  kind_written kind.Time columns = written_as 6 none_in columns
  kind_written kind.Timestamp columns = written_as 7 none_in columns
  kind_written kind.Timestamptz columns = written_as 8 none_in columns
  kind_written kind.String columns = written_as 9 none_in columns
  kind_written kind.Uuid columns = written_as 10 none_in columns
  kind_written kind.Binary columns = written_as 11 none_in columns
  kind_written (kind.Decimal digits scale) columns = written_as 12 (decimal & none_in) ((digits, scale), columns)
  kind_written (kind.Fixed length) columns = written_as 13 (size & none_in) (length, columns)
  kind_written kind.Struct columns = written_as 14 fields columns
  kind_written kind.List columns = written_as 15 element columns
  kind_written kind.Map columns = written_as 16 pair columns

  abbrev type_written : Typed → Written
  type_written typed = kind_written typed.0 typed.1

  abbrev with : Kind → List Column → Typed
  with kind columns = (kind, columns)

  abbrev decimal_with : (ℕ × ℕ) × List Column → Typed
  decimal_with it = (kind.Decimal it.0.0 it.0.1, it.1)

  abbrev fixed_with : ℕ × List Column → Typed
  fixed_with it = (kind.Fixed it.0, it.1)

  abbrev type_variants : List (Variant type_written)
  type_variants =
      case_of 0 (with kind.Boolean) none_in (λ columns. refl)
      ∷ case_of 1 (with kind.Int) none_in (λ columns. refl)
      ∷ case_of 2 (with kind.Long) none_in (λ columns. refl)
      ∷ case_of 3 (with kind.Float) none_in (λ columns. refl)
      ∷ case_of 4 (with kind.Double) none_in (λ columns. refl)
      ∷ case_of 5 (with kind.Date) none_in (λ columns. refl)
      ∷ case_of 6 (with kind.Time) none_in (λ columns. refl)
      ∷ case_of 7 (with kind.Timestamp) none_in (λ columns. refl)
      ∷ case_of 8 (with kind.Timestamptz) none_in (λ columns. refl)
      ∷ case_of 9 (with kind.String) none_in (λ columns. refl)
      ∷ case_of 10 (with kind.Uuid) none_in (λ columns. refl)
      ∷ case_of 11 (with kind.Binary) none_in (λ columns. refl)
      ∷ case_of 12 decimal_with (decimal & none_in) (λ it. refl)
      ∷ case_of 13 fixed_with (size & none_in) (λ it. refl)
      ∷ case_of 14 (with kind.Struct) fields (λ columns. refl)
      ∷ case_of 15 (with kind.List) element (λ columns. refl)
      ∷ case_of 16 (with kind.Map) pair (λ columns. refl)
      ∷ []

  pub kind_read_back : (found : Kind) (columns : List Column) (rest : List ℕ) → (kind_written found columns).holds
      → enum_read type_variants ((kind_written found columns).bytes ++ rest) ≡ Some ((found, columns), rest)
  kind_read_back kind.Boolean columns rest held = made_read_back (with kind.Boolean) none_in columns rest held
  kind_read_back kind.Int columns rest held = made_read_back (with kind.Int) none_in columns rest held
  kind_read_back kind.Long columns rest held = made_read_back (with kind.Long) none_in columns rest held
  kind_read_back kind.Float columns rest held = made_read_back (with kind.Float) none_in columns rest held
  kind_read_back kind.Double columns rest held = made_read_back (with kind.Double) none_in columns rest held
  kind_read_back kind.Date columns rest held = made_read_back (with kind.Date) none_in columns rest held
  kind_read_back kind.Time columns rest held = made_read_back (with kind.Time) none_in columns rest held
  kind_read_back kind.Timestamp columns rest held = made_read_back (with kind.Timestamp) none_in columns rest held
  kind_read_back kind.Timestamptz columns rest held = made_read_back (with kind.Timestamptz) none_in columns rest held
  kind_read_back kind.String columns rest held = made_read_back (with kind.String) none_in columns rest held
  kind_read_back kind.Uuid columns rest held = made_read_back (with kind.Uuid) none_in columns rest held
  kind_read_back kind.Binary columns rest held = made_read_back (with kind.Binary) none_in columns rest held
  kind_read_back (kind.Decimal digits scale) columns rest held = made_read_back decimal_with (decimal & none_in) ((digits, scale), columns) rest held
  kind_read_back (kind.Fixed length) columns rest held = made_read_back fixed_with (size & none_in) (length, columns) rest held
  kind_read_back kind.Struct columns rest held = made_read_back (with kind.Struct) fields columns rest held
  kind_read_back kind.List columns rest held = made_read_back (with kind.List) element columns rest held
  kind_read_back kind.Map columns rest held = made_read_back (with kind.Map) pair columns rest held

  unfoldable pub types : Form Typed
  types = enum type_written type_variants (λ typed. kind_read_back typed.0 typed.1)

  nothing_deep : (depth : ℕ) (columns : List Column) → none_in.holds columns → AreDeep depth columns
  nothing_deep depth columns held = subst (AreDeep depth) held.1 tt

  pub types_deep : (depth : ℕ) → ((columns : List Column) → fields.holds columns → AreDeep depth columns)
      → ((columns : List Column) → element.holds columns → AreDeep depth columns) → ((columns : List Column) → pair.holds columns → AreDeep depth columns)
      → (found : Kind) (columns : List Column) → types.holds (found, columns) → AreDeep depth columns
  unfolding types
  types_deep depth one two three kind.Boolean columns held = nothing_deep depth columns held
  types_deep depth one two three kind.Int columns held = nothing_deep depth columns held
  types_deep depth one two three kind.Long columns held = nothing_deep depth columns held
  types_deep depth one two three kind.Float columns held = nothing_deep depth columns held
  types_deep depth one two three kind.Double columns held = nothing_deep depth columns held
  types_deep depth one two three kind.Date columns held = nothing_deep depth columns held
  types_deep depth one two three kind.Time columns held = nothing_deep depth columns held
  types_deep depth one two three kind.Timestamp columns held = nothing_deep depth columns held
  types_deep depth one two three kind.Timestamptz columns held = nothing_deep depth columns held
  types_deep depth one two three kind.String columns held = nothing_deep depth columns held
  types_deep depth one two three kind.Uuid columns held = nothing_deep depth columns held
  types_deep depth one two three kind.Binary columns held = nothing_deep depth columns held
  types_deep depth one two three (kind.Decimal digits scale) columns held = nothing_deep depth columns held.1
  types_deep depth one two three (kind.Fixed length) columns held = nothing_deep depth columns held.1
  types_deep depth one two three kind.Struct columns held = one columns held
  types_deep depth one two three kind.List columns held = two columns held
  types_deep depth one two three kind.Map columns held = three columns held

pub nowhere_deep : (depth : ℕ) (columns : List Column) → ⊥ → AreDeep depth columns
nowhere_deep depth columns held = absurd held

-- the forms of the columns in a struct, a list and a map, where these columns stand in so many others
pub record InnerForms (depth : ℕ) : Type 1 where
  pub struct : Form (List Column)
  pub element : Form (List Column)
  pub pair : Form (List Column)
  pub struct_deep : (columns : List Column) → struct.holds columns → AreDeep depth columns
  pub element_deep : (columns : List Column) → element.holds columns → AreDeep depth columns
  pub pair_deep : (columns : List Column) → pair.holds columns → AreDeep depth columns

abbrev pub type_of : (depth : ℕ) → InnerForms depth → TypeForm depth
type_of depth inner = record {
  form = types inner.struct inner.element inner.pair;
  deep = λ typed. types_deep inner.struct inner.element inner.pair depth inner.struct_deep inner.element_deep inner.pair_deep typed.0 typed.1;
}

-- where at most so many types stand in one another
unfoldable pub inner_forms : ℕ → (depth : ℕ) → InnerForms depth
inner_forms zero depth = record {
  struct = never;
  element = never;
  pair = never;
  struct_deep = nowhere_deep depth;
  element_deep = nowhere_deep depth;
  pair_deep = nowhere_deep depth;
}
inner_forms (suc left) depth =
    let type : TypeForm (depth + 1) = type_of (depth + 1) (inner_forms left (depth + 1)) in record {
      struct = fields depth type;
      element = element depth type;
      pair = pair depth type;
      struct_deep = fields_deep depth type;
      element_deep = element_deep depth type;
      pair_deep = pair_deep depth type;
    }

abbrev pub type_form : ℕ → (depth : ℕ) → TypeForm depth
type_form left depth = type_of depth (inner_forms left depth)

-- the columns of a schema: fields, in whose types at most 32 stand in one another
unfoldable pub columns : Form (List Column)
columns = fields 0 (type_form 32 1)

-- the columns of a schema as the Iceberg table spec has them
pub record AreColumns (columns : List Column) : Type 0 where
  pub nested : IsNested columns
  pub each : All IsColumn columns

-- what is in memory keeps: the texts of a column are UTF-8, and they and the list are shorter than 2^64
pub record HasTexts (column : Column) : Type 0 where
  pub name : text.holds (name_in column.part)
  pub doc : (optional text).holds (doc_in column.part)

pub record AreStored (columns : List Column) : Type 0 where
  pub short : length columns < 2 ^ 64
  pub texts : AllByRecursion HasTexts columns
