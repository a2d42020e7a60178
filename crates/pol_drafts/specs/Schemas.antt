-- How an update adds a schema and names the current one.
use Rattle.std.specs.Prelude.{◌&&◌, ◌++◌, ◌∷◌, [], ℕ, Bool, not, filter, nat_eq, List, Option, None, Some, Result, Ok, Err, if◌then◌else◌}
use Rattle.std.specs.Cmp.Lexicographic.{pointwise}
use Rattle.std.specs.List.{find}
use Rattle.std.specs.Option.{option_map}
use Rattle.pol_meta.specs.Columns.{column_ids}
use Rattle.pol_meta.specs.Creation.{highest}
use Rattle.pol_meta.specs.Valid.{schema_ids}
use Rattle.pol_meta.specs.contracts.column.ColumnPartialEq.TheImpl as columns_compared
use Rattle.pol_meta.specs.declared.schema.Schema.{Schema}
use Rattle.pol_meta.specs.declared.why.Why.{Why}
use Rattle.pol_meta.specs.declared.why.Why.TheVariants.{InUse}
use Rattle.pol_drafts.specs.Drafts.{and_then}
use Rattle.pol_drafts.specs.Ids.{chosen, given, has_id, next_id, still_last}
use Rattle.pol_drafts.specs.declared.draft.Draft.{Draft}
use Rattle.pol_drafts.specs.declared.member.MemberId.{MemberId}

-- whether two schemas have equal columns and identifier ids
abbrev pub is_same_schema : Schema → Schema → Bool
is_same_schema left right =
    pointwise (columns_compared.ghosts).eq left.fields right.fields
    && pointwise nat_eq left.identifier_field_ids right.identifier_field_ids

-- the id of the first schema that is the same
abbrev pub same_schema_id : Schema → List Schema → Option ℕ
same_schema_id schema schemas = option_map (λ other. other.schema_id) (find (λ other. is_same_schema other schema) schemas)

-- a schema of this id is the last added, and the highest column id is no less than its own
abbrev pub noted_schema : ℕ → Schema → Draft → Draft
noted_schema id schema d = record d {
  meta = record d.meta { last_column_id = highest d.meta.last_column_id (column_ids schema.fields) };
  last_schema = Some id;
}

-- a schema stands after the others under a new id
abbrev pub with_schema : ℕ → Schema → Draft → Draft
with_schema id schema d = noted_schema id schema (record d {
  meta = record d.meta { schemas = d.meta.schemas ++ record schema { schema_id = id } ∷ [] };
})

-- a schema is added where there is none that is the same
abbrev pub added_schema : Option ℕ → Schema → Draft → Result Draft Why
added_schema (Some id) schema d = Ok (noted_schema id schema d)
added_schema None schema d = and_then (given (next_id (schema_ids d.meta.schemas))) (λ id. Ok (with_schema id schema d))

unfoldable pub add_schema : Schema → Draft → Result Draft Why
add_schema schema d = added_schema (same_schema_id schema d.meta.schemas) schema d

-- the schema that is named becomes the current one
abbrev pub with_current_schema : ℕ → Draft → Draft
with_current_schema id d = record d { meta = record d.meta { current_schema_id = id } }

unfoldable pub set_current_schema : MemberId → Draft → Result Draft Why
set_current_schema member d =
    and_then (chosen member d.last_schema (schema_ids d.meta.schemas)) (λ id. Ok (with_current_schema id d))

-- schemas of these ids are gone
abbrev pub without_schemas : List ℕ → Draft → Draft
without_schemas ids d = record d {
  meta = record d.meta { schemas = filter (λ schema. not (has_id schema.schema_id ids)) d.meta.schemas };
  last_schema = still_last ids d.last_schema;
}

unfoldable pub remove_schemas : List ℕ → Draft → Result Draft Why
remove_schemas ids d = if has_id d.meta.current_schema_id ids then Err InUse else Ok (without_schemas ids d)
