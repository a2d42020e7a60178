-- Columns that have a form are nested as their types ask.
use Rattle.std.proofs.Common.{◌≡◌, ◌≤◌, ◌+◌, ℕ, zero, suc, true, List, [], ◌∷◌, ◌++◌, refl, sym, ap, subst, ◌∙◌, append-nil, arith}
use Rattle.std.specs.List.{AllByRecursion, filter_map}
use Rattle.std.proofs.lemmas.List.Elements.{All-from_recursion}
use Rattle.pol_forms.specs.Forms.{list}
use Rattle.pol_meta.specs.Columns.{Columns, AreFields, AreIn, StandAt, is_field, listed, name_of, nest, none, parts}
use Rattle.pol_meta.specs.Valid.{IsColumn, IsColumnId, IsDecimal, IsKind, IsSize, levels}
use Rattle.pol_meta.specs.declared.column.Column.{Column}
use Rattle.pol_meta.specs.declared.column.Kind.{Kind}
use Rattle.pol_meta.specs.declared.column.Kind.TheVariants as kind
use Rattle.pol_meta.specs.declared.column.Part.{Part}
use Rattle.pol_meta.specs.declared.column.Part.TheVariants.{Field, Element, Key, Value}
use Rattle.pol_partcodec.specs.Numbers.{column_id, short_between, size}
use Rattle.pol_columnforms.specs.Columns as spec
use Rattle.pol_columnforms.specs.Columns.{AreColumns, ElementParts, FieldParts, InnerForms, PairParts, TypeForm, chunks, decimal, element, element_of, element_to, field, field_of, field_to, fields, inner_forms, joined, listed_fields, pair, pair_of, pair_to, type_form, types}
use Rattle.pol_columnforms.specs.Named.{AreNamed, names_in}
use Rattle.pol_columnforms.proofs.TreeLemmas.{joined_all, names_listed, stand_next}

-- numbers
column_id_told : (id : ℕ) → column_id.holds id → IsColumnId id
unfolding short_between
column_id_told id held = held.1.below

size_told : (length : ℕ) → size.holds length → IsSize length
unfolding short_between
size_told length held = record { least = held.1.above; most = held.1.below }

decimal_told : (digits scale : ℕ) → decimal.holds (digits, scale) → IsDecimal digits scale
unfolding decimal short_between
decimal_told digits scale held = record { least = held.0.0.1.above; most = held.0.0.1.below; scaled = held.1 }

-- columns beside each other that stand in so many others, and what they are
record Group (Are : List Part → Type 0) (depth : ℕ) (columns : List Column) : Type 0 where
  tree : Columns
  same : columns ≡ listed tree
  are : Are (parts tree)
  stand : StandAt depth tree
  each : AllByRecursion IsColumn columns

-- the columns in a type, and the type
record Inside (depth : ℕ) (found : Kind) (columns : List Column) : Type 0 where
  group : Group (AreIn found) (depth + 1) columns
  right : IsKind found
  within : depth + levels found ≤ 32

abbrev AreOnlyFields : List Part → Type 0
AreOnlyFields these = AllByRecursion (λ part. is_field part ≡ true) these

abbrev column_of : ℕ → ℕ → Part → Kind → Column
column_of depth id part kind = record { depth = depth; id = id; part = part; kind = kind }

column_told : (depth id : ℕ) (part : Part) (found : Kind) (inner : List Column) → column_id.holds id → Inside depth found inner → IsColumn (column_of depth id part found)
column_told depth id part found inner held inside = record { depth = inside.within; id = column_id_told id held; kind = inside.right }

module _ (depth : ℕ) (type : TypeForm (depth + 1)) (tells : (found : Kind) (columns : List Column) → type.form.holds (found, columns) → Inside depth found columns) where
  one_field : (it : FieldParts depth type) (rest : List Column) → column_id.holds it.0 → type.form.holds it.1.1.1.0 → Group AreOnlyFields depth rest
      → Group AreOnlyFields depth (field_of depth type it ++ rest)
  one_field it rest id typed beside =
      let found : Kind = it.1.1.1.0.0 in
      let inner : List Column = it.1.1.1.0.1 in
      let part : Part = Field it.1.0 it.1.1.0 it.1.1.1.1 in
      let first : Column = column_of depth it.0 part found in
      let inside : Inside depth found inner = tells found inner typed in
      let group = inside.group in record {
        tree = nest first group.tree beside.tree;
        same = ap (λ (columns : List Column). first ∷ (columns ++ rest)) group.same
            ∙ ap (λ (columns : List Column). first ∷ (listed group.tree ++ columns)) beside.same;
        are = (refl, beside.are);
        stand = (refl, group.are, stand_next depth group.tree group.stand, beside.stand);
        each = (column_told depth it.0 part found inner id inside, joined_all IsColumn inner rest group.each beside.each);
      }

  field_more : (chunk : List Column) (rest : List Column) → (field depth type).holds chunk → Group AreOnlyFields depth rest → Group AreOnlyFields depth (chunk ++ rest)
  unfolding field
  field_more chunk rest held beside =
      subst (λ (front : List Column). Group AreOnlyFields depth (front ++ rest)) held.1
      (one_field (field_to depth type chunk) rest held.0.0 held.0.1.1.1.0 beside)

  chunks_told : (all : List (List Column)) → AllByRecursion (field depth type).holds all → Group AreOnlyFields depth (joined all)
  chunks_told [] held = record { tree = none; same = refl; are = tt; stand = tt; each = tt }
  chunks_told (chunk ∷ all) held = field_more chunk (joined all) held.0 (chunks_told all held.1)

  fields_told : (columns : List Column) → (fields depth type).holds columns → Group AreFields depth columns
  unfolding fields listed_fields list
  fields_told columns held =
      let only : Group AreOnlyFields depth columns = subst (Group AreOnlyFields depth) held.0.1 (chunks_told (chunks depth columns) held.0.0.1) in
      let named : AreNamed (filter_map name_of (parts only.tree)) = subst AreNamed (ap (names_in depth) only.same ∙ names_listed depth only.tree only.stand) held.1 in record {
        tree = only.tree;
        same = only.same;
        are = record { fields = All-from_recursion (λ part. is_field part ≡ true) (parts only.tree) only.are; named = named.named; differ = named.differ };
        stand = only.stand;
        each = only.each;
      }

  one_element : (it : ElementParts depth type) → column_id.holds it.0 → type.form.holds it.1.0 → Group (AreIn kind.List) depth (element_of depth type it)
  one_element it id typed =
      let found : Kind = it.1.0.0 in
      let inner : List Column = it.1.0.1 in
      let first : Column = column_of depth it.0 (Element it.1.1) found in
      let inside : Inside depth found inner = tells found inner typed in
      let group = inside.group in record {
        tree = nest first group.tree none;
        same = ap (λ (columns : List Column). first ∷ columns) (group.same ∙ sym (append-nil (listed group.tree)));
        are = tt;
        stand = (refl, group.are, stand_next depth group.tree group.stand, tt);
        each = (column_told depth it.0 (Element it.1.1) found inner id inside, group.each);
      }

  element_told : (columns : List Column) → (element depth type).holds columns → Group (AreIn kind.List) depth columns
  unfolding element
  element_told columns held =
      subst (Group (AreIn kind.List) depth) held.1 (one_element (element_to depth type columns) held.0.0 held.0.1.0)

  one_pair : (it : PairParts depth type) → column_id.holds it.0 → type.form.holds it.1.0 → column_id.holds it.1.1.0 → type.form.holds it.1.1.1.0
      → Group (AreIn kind.Map) depth (pair_of depth type it)
  one_pair it key_id key_typed value_id value_typed =
      let in_key : List Column = it.1.0.1 in
      let in_value : List Column = it.1.1.1.0.1 in
      let key : Column = column_of depth it.0 Key it.1.0.0 in
      let value : Column = column_of depth it.1.1.0 (Value it.1.1.1.1) it.1.1.1.0.0 in
      let one : Inside depth it.1.0.0 in_key = tells it.1.0.0 in_key key_typed in
      let two : Inside depth it.1.1.1.0.0 in_value = tells it.1.1.1.0.0 in_value value_typed in
      let first = one.group in
      let second = two.group in record {
        tree = nest key first.tree (nest value second.tree none);
        same = ap (λ (columns : List Column). key ∷ (columns ++ value ∷ in_value)) first.same
            ∙ ap (λ (columns : List Column). key ∷ (listed first.tree ++ value ∷ columns)) (second.same ∙ sym (append-nil (listed second.tree)));
        are = tt;
        stand = (refl, first.are, stand_next depth first.tree first.stand, (refl, second.are, stand_next depth second.tree second.stand, tt));
        each = (
          column_told depth it.0 Key it.1.0.0 in_key key_id one,
          joined_all IsColumn in_key (value ∷ in_value) first.each (column_told depth it.1.1.0 (Value it.1.1.1.1) it.1.1.1.0.0 in_value value_id two, second.each),
        );
      }

  pair_told : (columns : List Column) → (pair depth type).holds columns → Group (AreIn kind.Map) depth columns
  unfolding pair
  pair_told columns held =
      subst (Group (AreIn kind.Map) depth) held.1
      (one_pair (pair_to depth type columns) held.0.0 held.0.1.0 held.0.1.1.0 held.0.1.1.1.0)

-- a type without columns
none_told : (depth : ℕ) (found : Kind) (columns : List Column) → AreIn found [] → IsKind found → depth + levels found ≤ 32 → [] ≡ columns → Inside depth found columns
none_told depth found columns are right within is = record {
  group = record { tree = none; same = sym is; are = are; stand = tt; each = subst (AllByRecursion IsColumn) is tt };
  right = right;
  within = within;
}

-- a type, where so much is known of the columns in it
kind_told : (depth : ℕ) (inner : InnerForms (depth + 1)) → depth ≤ 32
    → ((columns : List Column) → inner.struct.holds columns → (depth + 1 ≤ 32) × Group AreFields (depth + 1) columns)
    → ((columns : List Column) → inner.element.holds columns → (depth + 1 ≤ 32) × Group (AreIn kind.List) (depth + 1) columns)
    → ((columns : List Column) → inner.pair.holds columns → (depth + 1 ≤ 32) × Group (AreIn kind.Map) (depth + 1) columns)
    → (found : Kind) (columns : List Column) → (types inner.struct inner.element inner.pair).holds (found, columns) → Inside depth found columns
unfolding types
kind_told depth inner most one two three kind.Boolean columns held = none_told depth kind.Boolean columns tt tt (omega (arith, most)) held.1
kind_told depth inner most one two three kind.Int columns held = none_told depth kind.Int columns tt tt (omega (arith, most)) held.1
kind_told depth inner most one two three kind.Long columns held = none_told depth kind.Long columns tt tt (omega (arith, most)) held.1
kind_told depth inner most one two three kind.Float columns held = none_told depth kind.Float columns tt tt (omega (arith, most)) held.1
kind_told depth inner most one two three kind.Double columns held = none_told depth kind.Double columns tt tt (omega (arith, most)) held.1
kind_told depth inner most one two three kind.Date columns held = none_told depth kind.Date columns tt tt (omega (arith, most)) held.1
kind_told depth inner most one two three kind.Time columns held = none_told depth kind.Time columns tt tt (omega (arith, most)) held.1
kind_told depth inner most one two three kind.Timestamp columns held = none_told depth kind.Timestamp columns tt tt (omega (arith, most)) held.1
kind_told depth inner most one two three kind.Timestamptz columns held = none_told depth kind.Timestamptz columns tt tt (omega (arith, most)) held.1
kind_told depth inner most one two three kind.String columns held = none_told depth kind.String columns tt tt (omega (arith, most)) held.1
kind_told depth inner most one two three kind.Uuid columns held = none_told depth kind.Uuid columns tt tt (omega (arith, most)) held.1
kind_told depth inner most one two three kind.Binary columns held = none_told depth kind.Binary columns tt tt (omega (arith, most)) held.1
kind_told depth inner most one two three (kind.Decimal digits scale) columns held =
    none_told depth (kind.Decimal digits scale) columns tt (decimal_told digits scale held.0) (omega (arith, most)) held.1.1
kind_told depth inner most one two three (kind.Fixed length) columns held =
    none_told depth (kind.Fixed length) columns tt (size_told length held.0) (omega (arith, most)) held.1.1
kind_told depth inner most one two three kind.Struct columns held =
    let so = one columns held in record { group = so.1; right = tt; within = so.0 }
kind_told depth inner most one two three kind.List columns held =
    let so = two columns held in record { group = so.1; right = tt; within = so.0 }
kind_told depth inner most one two three kind.Map columns held =
    let so = three columns held in record { group = so.1; right = tt; within = so.0 }

typed_told : (left depth : ℕ) → depth + left ≡ 32 → (found : Kind) (columns : List Column) → (type_form left (depth + 1)).form.holds (found, columns) → Inside depth found columns
unfolding inner_forms
typed_told zero depth all found columns held =
    kind_told depth (inner_forms zero (depth + 1)) (omega (arith, all)) (λ these nothing. absurd nothing) (λ these nothing. absurd nothing) (λ these nothing. absurd nothing) found columns held
typed_told (suc left) depth all found columns held =
    let type : TypeForm (depth + 1 + 1) = type_form left (depth + 1 + 1) in
    let more : depth + 1 ≤ 32 = omega (arith, all) in
    let next : depth + 1 + left ≡ 32 = omega (arith, all) in
    kind_told depth (inner_forms (suc left) (depth + 1)) (omega (arith, all))
    (λ these one. (more, fields_told (depth + 1) type (typed_told left (depth + 1) next) these one))
    (λ these one. (more, element_told (depth + 1) type (typed_told left (depth + 1) next) these one))
    (λ these one. (more, pair_told (depth + 1) type (typed_told left (depth + 1) next) these one))
    found columns held

pub columns_told : (columns : List Column) → spec.columns.holds columns → AreColumns columns
unfolding spec.columns
columns_told columns held =
    let group = fields_told 0 (type_form 32 1) (typed_told 32 0 refl) columns held in record {
      nested = record { nested = group.tree; list = group.same; fields = group.are; stand = group.stand };
      each = All-from_recursion IsColumn columns group.each;
    }
