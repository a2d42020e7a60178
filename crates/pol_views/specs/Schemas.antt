-- How an update adds a schema to a view.
use Rattle.std.specs.Prelude.{◌++◌, ◌∷◌, [], ℕ, Option, None, Some, Result, Ok}
use Rattle.pol_meta.specs.Valid.{schema_ids}
use Rattle.pol_meta.specs.declared.schema.Schema.{Schema}
use Rattle.pol_meta.specs.declared.why.Why.{Why}
use Rattle.pol_drafts.specs.Drafts.{and_then}
use Rattle.pol_drafts.specs.Ids.{given, next_id}
use Rattle.pol_drafts.specs.Schemas.{same_schema_id}
use Rattle.pol_views.specs.declared.draft.ViewDraft.{ViewDraft}

-- a schema of this id is the last added
abbrev pub noted_schema : ℕ → ViewDraft → ViewDraft
noted_schema id d = record d { last_schema = Some id }

-- a schema stands after the others under a new id
abbrev pub with_schema : ℕ → Schema → ViewDraft → ViewDraft
with_schema id schema d = noted_schema id (record d {
  meta = record d.meta { schemas = d.meta.schemas ++ record schema { schema_id = id } ∷ [] };
})

-- a schema is added where there is none that is the same
abbrev pub added_schema : Option ℕ → Schema → ViewDraft → Result ViewDraft Why
added_schema (Some id) schema d = Ok (noted_schema id d)
added_schema None schema d = and_then (given (next_id (schema_ids d.meta.schemas))) (λ id. Ok (with_schema id schema d))

unfoldable pub add_schema : Schema → ViewDraft → Result ViewDraft Why
add_schema schema d = added_schema (same_schema_id schema d.meta.schemas) schema d
