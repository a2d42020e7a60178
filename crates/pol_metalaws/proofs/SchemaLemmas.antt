-- Printed schemas are read as the same.
use Rattle.std.proofs.Common.{◌≡◌, ◌==◌, ◌&&◌, ◌||◌, ℕ, Bool, true, false, length, nat_eq, List, [], ◌∷◌, All, Option, None, Some, option_map, unwrap_or, refl, sym, subst, arith, inl}
use Rattle.std.specs.List.{AllByRecursion, IsDistinct, list_all}
use Rattle.std.proofs.lemmas.Bool.Decides.{nat_tests}
use Rattle.std.proofs.lemmas.List.Sums.{list_all-from_AllPass}
use Rattle.serde_json.specs.Data.{Data, Members, object, string}
use Rattle.serde_json.specs.Find.{get}
use Rattle.pol_readers.specs.Forms.{fixed, one_of, text}
use Rattle.pol_readers.specs.Grammar.{MayHold}
use Rattle.pol_readers.specs.Shape.{list}
use Rattle.pol_meta.specs.Columns.{column_ids, has_field, is_field}
use Rattle.pol_meta.specs.Valid.{IsColumn, IsColumnId, IsSchema}
use Rattle.pol_meta.specs.declared.column.Column.{Column}
use Rattle.pol_meta.specs.declared.schema.Schema.{Schema}
use Rattle.pol_metajson.specs.Ids.{column_id}
use Rattle.pol_metaread.specs.Numbered.{numbered_schema}
use Rattle.pol_metajson.specs.Schema.{columns_form, schema}
use Rattle.pol_metakeys.specs.declared.keys.TheConstants as key
use Rattle.pol_metaprint.specs.Columns.{field_json, trees_of}
use Rattle.pol_metaprint.specs.Json.{list_json, number_json}
use Rattle.pol_metaprint.specs.Metadata.{schema_json}
use Rattle.pol_metalaws.proofs.ColumnLemmas.{by_recursion, fields_of_struct, kind_read}
use Rattle.pol_metalaws.proofs.ObjectLemmas as objects
use Rattle.pol_metalaws.proofs.TreeLemmas.{trees_are}

-- the ids of the fields that tell rows apart, where there are any
ids_given : List ℕ → Option (List ℕ)
ids_given [] = None
ids_given (first ∷ ids) = Some (first ∷ ids)

ids_taken : (ids : List ℕ) → unwrap_or (ids_given ids) [] ≡ ids
unfolding ids_given
ids_taken [] = refl
ids_taken (first ∷ ids) = refl

SchemaGets : Schema → Type 0
SchemaGets s =
    (get key.TYPE.now (schema_json s) ≡ Some (string key.STRUCT.now))
    × (get key.SCHEMA_ID.now (schema_json s) ≡ Some (number_json s.schema_id))
    × (get key.IDENTIFIER_FIELD_IDS.now (schema_json s) ≡ option_map (list_json number_json)
    (ids_given s.identifier_field_ids))
    × (get key.FIELDS.now (schema_json s) ≡ Some (list_json field_json (trees_of s.fields)))

schema_gets : (s : Schema) (ids : List ℕ) → s.identifier_field_ids ≡ ids → SchemaGets s
unfolding SchemaGets schema_json ids_given
schema_gets s [] is = rw is (refl, refl, refl, refl)
schema_gets s (first ∷ ids) is =
    let some : (length (first ∷ ids) == 0) ≡ false = grind (arith, nat_tests) in
    rw (is, some) (refl, refl, refl, refl)

an_object : (s : Schema) → (ms : Members) × (schema_json s ≡ object ms)
unfolding schema_json
an_object s = (_, refl)

-- the id of a field is within its bounds
bound_at : (here field rest : Bool) (given one : ℕ) → (here ≡ true → given ≡ one) → IsColumnId given
    → (rest ≡ true → IsColumnId one)
    → ((here && field) || rest) ≡ true → IsColumnId one
bound_at true true rest given one same bound onward is = subst IsColumnId (same refl) bound
bound_at true false rest given one same bound onward is = onward is
bound_at false field rest given one same bound onward is = onward is

known_bound : (columns : List Column) (one : ℕ) → AllByRecursion IsColumn columns → has_field columns one ≡ true
    → IsColumnId one
known_bound [] one good is = absurd (cc)
known_bound (column ∷ columns) one good is =
    bound_at (column.id == one) (is_field column.part) (has_field columns one) column.id one
    (λ same. grind (arith, nat_tests)) good.0.id
    (known_bound columns one good.1) is

good_columns : (s : Schema) → IsSchema s → AllByRecursion IsColumn s.fields
good_columns s valid = by_recursion IsColumn s.fields valid.columns

columns_read : (s : Schema) → IsSchema s → columns_form.stands (list_json field_json (trees_of s.fields)) s.fields
unfolding columns_form
columns_read s valid =
    let nested = valid.nested in
    let good = subst (AllByRecursion IsColumn) nested.list (good_columns s valid) in
    let differ = subst (λ columns. IsDistinct nat_eq (column_ids columns)) nested.list valid.differ in
    let read = fields_of_struct 32 0 (λ seen found xs fits. kind_read 32 1 seen found xs refl fits) [] nested.nested
    nested.fields nested.stand good differ in
    subst (λ columns. columns_form.stands (list_json field_json (trees_of columns)) columns) (sym nested.list)
    (rw (trees_are 0 nested.nested nested.stand) read)

ids_hold : (ids : List ℕ) (held : Option Data) → held ≡ option_map (list_json number_json) (ids_given ids)
    → (P : ℕ → Type 0)
    → ((one : ℕ) → P one → IsColumnId one) → All P ids → MayHold (list column_id).stands held (ids_given ids)
unfolding ids_given
ids_hold [] held is P each all = inl is
ids_hold (first ∷ ids) held is P each all = (
  list_json number_json (first ∷ ids),
  is,
  (λ e. cc),
  objects.list_read column_id.stands number_json P (λ one so. objects.up_to 2147483447 one (each one so))
      (first ∷ ids) all,
)

pub schema_read : (s : Schema) → IsSchema s → numbered_schema.stands (schema_json s) s
unfolding numbered_schema schema SchemaGets fixed one_of text
schema_read s valid =
    let ids = s.identifier_field_ids in
    let gets = schema_gets s ids refl in
    let numbered = objects.up_to 2147483647 s.schema_id valid.id in
    let known : list_all (has_field s.fields) (unwrap_or (ids_given ids) []) ≡ true =
    rw (ids_taken ids) (list_all-from_AllPass (has_field s.fields) ids valid.identified) in (
      record { schema_id = 0; identifier_field_ids = unwrap_or (ids_given ids) []; fields = s.fields },
      (
        tt,
        an_object s,
        (
          tt,
          (_, gets.0, refl),
          (
            Some s.schema_id,
            (number_json s.schema_id, gets.1, (λ e. cc), numbered),
            (
              ids_given ids,
              ids_hold ids _ gets.2 (λ one. has_field s.fields one ≡ true)
                  (λ one so. known_bound s.fields one (good_columns s valid) so) valid.identified,
              (
                s.fields,
                (_, gets.3, columns_read s valid),
                (tt, known, refl),
              ),
            ),
          ),
        ),
      ),
      (s.schema_id, (_, gets.1, numbered), rw (ids_taken ids) refl),
    )
