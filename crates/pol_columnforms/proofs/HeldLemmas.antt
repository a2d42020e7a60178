-- Columns that are nested as their types ask have a form.
use Rattle.std.proofs.Common.{◌≡◌, ◌<◌, ◌≤◌, ◌+◌, ◌-◌, ◌^◌, ℕ, Bool, true, false, List, [], ◌∷◌, ◌++◌, length, refl, sym, ap, subst, ◌∙◌, append-nil, arith}
use Rattle.std.specs.Prelude.{⊤}
use Rattle.std.specs.List.{AllByRecursion}
use Rattle.std.proofs.lemmas.List.{length-append}
use Rattle.std.proofs.lemmas.List.Elements.{recursion_from_All}
use Rattle.pol_forms.specs.Enums.{truth}
use Rattle.pol_forms.specs.Form.{Form}
use Rattle.pol_forms.specs.Forms.{list, short_number}
use Rattle.pol_meta.specs.Columns.{Columns, AreFields, AreIn, AreNone, StandAt, is_field, listed, nest, none, parts}
use Rattle.pol_meta.specs.Valid.{IsColumn, IsColumnId, IsKind, IsSize, levels}
use Rattle.pol_meta.specs.declared.column.Column.{Column}
use Rattle.pol_meta.specs.declared.column.Kind.{Kind}
use Rattle.pol_meta.specs.declared.column.Kind.TheVariants as kind
use Rattle.pol_meta.specs.declared.column.Part.{Part}
use Rattle.pol_meta.specs.declared.column.Part.TheVariants.{Field, Element, Key, Value}
use Rattle.pol_partcodec.specs.Numbers.{column_id, short_between, size}
use Rattle.pol_columnforms.specs.Columns as spec
use Rattle.pol_columnforms.specs.Columns.{AreColumns, AreDeep, AreStored, HasTexts, PairParts, TypeForm, at_depth, decimal, deeper_beside, deeper_inner, doc_in, element, element_of, element_to, field, field_of, field_to, fields, inner_forms, joined, listed_fields, name_in, pair, pair_of, pair_parts, pair_to, required_in, type_form, types}
use Rattle.pol_columnforms.specs.Named.{AreNamed, names_in}
use Rattle.pol_columnforms.proofs.DepthLemmas.{list_in, map_in, struct_in}
use Rattle.pol_columnforms.proofs.TreeLemmas.{chunks_listed, chunks_of, few, joined_listed, key_and_value, names_listed, next_deep, next_stand, one_element, parted_all}

-- numbers and truth values
column_id_held : (id : ℕ) → IsColumnId id → column_id.holds id
unfolding short_between short_number
column_id_held id right = (omega (arith, right), record { above = omega arith; below = right })

size_held : (length : ℕ) → IsSize length → size.holds length
unfolding short_between short_number
size_held length right =
    let most : length ≤ 2147483647 = right.most in
    (omega (arith, most), record { above = right.least; below = most })

decimal_held : (digits scale : ℕ) → IsKind (kind.Decimal digits scale) → decimal.holds (digits, scale)
unfolding decimal short_between short_number
decimal_held digits scale right =
    let most : digits ≤ 38 = right.most in
    let scaled : scale ≤ digits = right.scaled in
    (((omega (arith, most), record { above = right.least; below = most }), omega (arith, most, scaled)), scaled)

truth_held : (value : Bool) → truth.holds value
unfolding truth
truth_held true = tt
truth_held false = tt

-- a column, whose texts are such as memory keeps
pub record IsWritable (column : Column) : Type 0 where
  pub valid : IsColumn column
  pub texts : HasTexts column

abbrev column_of : ℕ → ℕ → Part → Kind → Column
column_of depth id part kind = record { depth = depth; id = id; part = part; kind = kind }

same_column : (depth : ℕ) (column : Column) (part : Part) (inner : List Column) → column.depth ≡ depth → part ≡ column.part
    → column_of depth column.id part column.kind ∷ inner ≡ column ∷ inner
same_column depth column part inner at is =
    ap (λ (p : Part). column_of depth column.id p column.kind ∷ inner) is
    ∙ ap (λ (d : ℕ). column_of d column.id column.part column.kind ∷ inner) (sym at)

field_is : (part : Part) → is_field part ≡ true → Field (name_in part) (required_in part) (doc_in part) ≡ part
field_is (Field name required doc) is = refl
field_is (Element required) is = absurd (cc)
field_is Key is = absurd (cc)
field_is (Value required) is = absurd (cc)

element_is : (part : Part) (required : Bool) → part ≡ Element required → Element (required_in part) ≡ part
element_is part required is = rw is refl

value_is : (part : Part) (required : Bool) → part ≡ Value required → Value (required_in part) ≡ part
value_is part required is = rw is refl

module _ (depth : ℕ) (type : TypeForm (depth + 1)) where
  field_held : (first : Column) (inner : List Column) → first.depth ≡ depth → is_field first.part ≡ true → IsWritable first
      → type.form.holds (first.kind, inner) → (field depth type).holds (first ∷ inner)
  unfolding field
  field_held first inner at is right typed =
      let one : IsColumn first = right.valid in
      let texts : HasTexts first = right.texts in (
        (column_id_held first.id one.id, (texts.name, (truth_held (required_in first.part), (typed, texts.doc)))),
        same_column depth first (Field (name_in first.part) (required_in first.part) (doc_in first.part)) inner at (field_is first.part is),
      )

  element_held : (first : Column) (inner : List Column) (required : Bool) → first.depth ≡ depth → first.part ≡ Element required → IsColumnId first.id
      → type.form.holds (first.kind, inner) → (element depth type).holds (first ∷ inner)
  unfolding element
  element_held first inner required at is id typed = (
    (column_id_held first.id id, (typed, truth_held (required_in first.part))),
    same_column depth first (Element (required_in first.part)) inner at (element_is first.part required is),
  )

  pair_told : (key value : Column) (in_key in_value : List Column) → value.depth ≡ depth → AreDeep (depth + 1) in_key
      → pair_to depth type (key ∷ in_key ++ value ∷ in_value) ≡ (key.id, ((key.kind, in_key), (value.id, ((value.kind, in_value), required_in value.part))))
  pair_told key value in_key in_value at deep =
      rw (
        deeper_inner depth in_key (value ∷ in_value) deep,
        deeper_beside depth in_key (value ∷ in_value) deep,
        at_depth depth value.depth at,
        append-nil in_key,
      ) refl

  pair_held : (key value : Column) (in_key in_value : List Column) (required : Bool) → key.depth ≡ depth → key.part ≡ Key → value.depth ≡ depth → value.part ≡ Value required
      → AreDeep (depth + 1) in_key → IsColumnId key.id → IsColumnId value.id → type.form.holds (key.kind, in_key) → type.form.holds (value.kind, in_value)
      → (pair depth type).holds (key ∷ in_key ++ value ∷ in_value)
  unfolding pair
  pair_held key value in_key in_value required key_at key_part value_at value_part deep key_id value_id key_typed value_typed =
      subst (λ (it : PairParts depth type). (pair_parts depth type).holds it × (pair_of depth type it ≡ key ∷ in_key ++ value ∷ in_value))
      (sym (pair_told key value in_key in_value value_at deep)) (
        (column_id_held key.id key_id, (key_typed, (column_id_held value.id value_id, (value_typed, truth_held (required_in value.part))))),
        ap (λ (front : List Column). front ++ (column_of depth value.id (Value (required_in value.part)) value.kind ∷ in_value))
            (same_column depth key Key in_key key_at (sym key_part))
            ∙ ap (λ (back : List Column). (key ∷ in_key) ++ back)
            (same_column depth value (Value (required_in value.part)) in_value value_at (value_is value.part required value_part)),
      )

-- each column beside the others has a type that has a form, with the columns in it
abbrev HaveTypes : ℕ → ℕ → Columns → Type 0
HaveTypes left depth none = ⊤
HaveTypes left depth (nest first inner beside) = (type_form left (depth + 1)).form.holds (first.kind, listed inner) × HaveTypes left depth beside

abbrev AreWritable : Columns → Type 0
AreWritable tree = AllByRecursion IsWritable (listed tree)

each_field : (left depth : ℕ) (tree : Columns) → AllByRecursion (λ part. is_field part ≡ true) (parts tree) → StandAt depth tree → AreWritable tree
    → HaveTypes left depth tree → AllByRecursion (field depth (type_form left (depth + 1))).holds (chunks_of tree)
each_field left depth none are stand right typed = tt
each_field left depth (nest first inner beside) are stand right typed = (
  field_held depth (type_form left (depth + 1)) first (listed inner) stand.0 are.0 right.0 typed.0,
  each_field left depth beside are.1 stand.3 (parted_all IsWritable (listed inner) (listed beside) right.1).1 typed.1,
)

fields_held : (left depth : ℕ) (tree : Columns) → AreFields (parts tree) → StandAt depth tree → AreWritable tree → length (listed tree) < 2 ^ 64
    → HaveTypes left depth tree → (fields depth (type_form left (depth + 1))).holds (listed tree)
unfolding fields listed_fields list
fields_held left depth tree are stand right short typed =
    let held = each_field left depth tree (recursion_from_All (λ part. is_field part ≡ true) (parts tree) are.fields) stand right typed in
    let named : AreNamed (names_in depth (listed tree)) = subst AreNamed (sym (names_listed depth tree stand)) (record { named = are.named; differ = are.differ }) in (
      subst (λ (all : List (List Column)). ((length all < 2 ^ 64) × AllByRecursion (field depth (type_form left (depth + 1))).holds all) × (joined all ≡ listed tree))
          (sym (chunks_listed depth tree stand)) ((omega (arith, few tree, short), held), joined_listed tree),
      named,
    )

list_held : (left depth : ℕ) (tree : Columns) (required : Bool) → parts tree ≡ Element required ∷ [] → StandAt depth tree → AreWritable tree
    → HaveTypes left depth tree → (element depth (type_form left (depth + 1))).holds (listed tree)
list_held left depth none required is stand right typed = absurd (cc)
list_held left depth (nest first inner none) required is stand right typed =
    let own : first.part ≡ Element required = cc in
    let one : IsColumn first = right.0.valid in
    subst (λ (columns : List Column). (element depth (type_form left (depth + 1))).holds (first ∷ columns)) (sym (append-nil (listed inner)))
    (element_held depth (type_form left (depth + 1)) first (listed inner) required stand.0 own one.id typed.0)
list_held left depth (nest first inner (nest other within beside)) required is stand right typed = absurd (cc)

map_held : (left depth : ℕ) (tree : Columns) (required : Bool) → parts tree ≡ Key ∷ Value required ∷ [] → StandAt depth tree → AreWritable tree
    → HaveTypes left depth tree → (pair depth (type_form left (depth + 1))).holds (listed tree)
map_held left depth none required is stand right typed = absurd (cc)
map_held left depth (nest key in_key none) required is stand right typed = absurd (cc)
map_held left depth (nest key in_key (nest value in_value none)) required is stand right typed =
    let key_part : key.part ≡ Key = cc in
    let value_part : value.part ≡ Value required = cc in
    let one : IsColumn key = right.0.valid in
    let rest = (parted_all IsWritable (listed in_key) (value ∷ listed in_value ++ []) right.1).1 in
    let two : IsColumn value = rest.0.valid in
    subst (λ (columns : List Column). (pair depth (type_form left (depth + 1))).holds (key ∷ listed in_key ++ value ∷ columns)) (sym (append-nil (listed in_value)))
    (pair_held depth (type_form left (depth + 1)) key value (listed in_key) (listed in_value) required stand.0 key_part stand.3.0 value_part
    (next_deep depth in_key stand.2) one.id two.id typed.0 typed.1.0)
map_held left depth (nest key in_key (nest value in_value (nest other within beside))) required is stand right typed = absurd (cc)

nothing_in : (tree : Columns) → AreNone (parts tree) → ⊤ × ([] ≡ listed tree)
nothing_in none are = (tt, refl)
nothing_in (nest first inner beside) are = absurd are

-- a type, with the columns in it
typed_held : (left depth : ℕ) (found : Kind) (tree : Columns) → AreIn found (parts tree) → IsKind found → depth + levels found ≤ 32 → depth + left ≡ 32
    → StandAt (depth + 1) tree → AreWritable tree → length (listed tree) < 2 ^ 64 → (0 < left → HaveTypes (left - 1) (depth + 1) tree)
    → (type_form left (depth + 1)).form.holds (found, listed tree)
unfolding types
typed_held left depth kind.Boolean tree are right within all stand each short typed = nothing_in tree are
typed_held left depth kind.Int tree are right within all stand each short typed = nothing_in tree are
typed_held left depth kind.Long tree are right within all stand each short typed = nothing_in tree are
typed_held left depth kind.Float tree are right within all stand each short typed = nothing_in tree are
typed_held left depth kind.Double tree are right within all stand each short typed = nothing_in tree are
typed_held left depth kind.Date tree are right within all stand each short typed = nothing_in tree are
typed_held left depth kind.Time tree are right within all stand each short typed = nothing_in tree are
typed_held left depth kind.Timestamp tree are right within all stand each short typed = nothing_in tree are
typed_held left depth kind.Timestamptz tree are right within all stand each short typed = nothing_in tree are
typed_held left depth kind.String tree are right within all stand each short typed = nothing_in tree are
typed_held left depth kind.Uuid tree are right within all stand each short typed = nothing_in tree are
typed_held left depth kind.Binary tree are right within all stand each short typed = nothing_in tree are
typed_held left depth (kind.Decimal digits scale) tree are right within all stand each short typed = (decimal_held digits scale right, nothing_in tree are)
typed_held left depth (kind.Fixed long) tree are right within all stand each short typed = (size_held long right, nothing_in tree are)
typed_held left depth kind.Struct tree are right within all stand each short typed =
    let some : 0 < left = omega (arith, within, all) in
    subst (λ (form : Form (List Column)). form.holds (listed tree)) (sym (struct_in left (depth + 1) some))
    (fields_held (left - 1) (depth + 1) tree are stand each short (typed some))
typed_held left depth kind.List tree are right within all stand each short typed =
    let some : 0 < left = omega (arith, within, all) in
    let one = one_element (parts tree) are in
    subst (λ (form : Form (List Column)). form.holds (listed tree)) (sym (list_in left (depth + 1) some))
    (list_held (left - 1) (depth + 1) tree one.0 one.1 stand each (typed some))
typed_held left depth kind.Map tree are right within all stand each short typed =
    let some : 0 < left = omega (arith, within, all) in
    let two = key_and_value (parts tree) are in
    subst (λ (form : Form (List Column)). form.holds (listed tree)) (sym (map_in left (depth + 1) some))
    (map_held (left - 1) (depth + 1) tree two.0 two.1 stand each (typed some))

all_typed : (left depth : ℕ) (tree : Columns) → depth + left ≡ 32 → StandAt depth tree → AreWritable tree → length (listed tree) < 2 ^ 64 → HaveTypes left depth tree
all_typed left depth none all stand right short = tt
all_typed left depth (nest first inner beside) all stand right short =
    let both = parted_all IsWritable (listed inner) (listed beside) right.1 in
    let long = length-append (listed inner) (listed beside) in
    let one : IsColumn first = right.0.valid in
    let within : depth + levels first.kind ≤ 32 = subst (λ (n : ℕ). n + levels first.kind ≤ 32) stand.0 one.depth in
    let next : StandAt (depth + 1) inner = next_stand depth inner stand.2 in (
      typed_held left depth first.kind inner stand.1 one.kind within all next both.0 (omega (arith, short, long))
          (λ some. all_typed (left - 1) (depth + 1) inner (omega (arith, some, all)) next both.0 (omega (arith, short, long))),
      all_typed left depth beside all stand.3 both.1 (omega (arith, short, long)),
    )

each_writable : (columns : List Column) → AllByRecursion IsColumn columns → AllByRecursion HasTexts columns → AllByRecursion IsWritable columns
each_writable [] right texts = tt
each_writable (column ∷ columns) right texts = (record { valid = right.0; texts = texts.0 }, each_writable columns right.1 texts.1)

pub columns_held : (columns : List Column) → AreStored columns → AreColumns columns → spec.columns.holds columns
unfolding spec.columns
columns_held columns stored right =
    let nested = right.nested in
    let tree = nested.nested in
    let each : AreWritable tree = subst (AllByRecursion IsWritable) nested.list (each_writable columns (recursion_from_All IsColumn columns right.each) stored.texts) in
    let short : length (listed tree) < 2 ^ 64 = subst (λ (all : List Column). length all < 2 ^ 64) nested.list stored.short in
    subst (λ (all : List Column). (fields 0 (type_form 32 1)).holds all) (sym nested.list)
    (fields_held 32 0 tree nested.fields nested.stand each short (all_typed 32 0 tree refl nested.stand each short))
