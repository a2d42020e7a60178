-- What updates of schemas keep.
use Rattle.std.proofs.Common.{◌≡◌, ◌≤◌, ℕ, false, List, [], ◌∷◌, ◌++◌, filter, not, Option, None, Some, Result, Ok, refl, subst, nat_eq}
use Rattle.std.specs.List.{Contains, list_any}
use Rattle.std.proofs.lemmas.List.Elements.{All-map, All-weaker}
use Rattle.pol_meta.specs.Columns.{column_ids}
use Rattle.pol_meta.specs.Creation.{highest}
use Rattle.pol_meta.specs.Valid.{IsColumn, IsColumnId, IsId, IsSchema, schema_ids}
use Rattle.pol_meta.specs.declared.schema.Schema.{Schema}
use Rattle.pol_meta.specs.declared.why.Why.{Why}
use Rattle.pol_meta.specs.declared.why.Why.TheVariants.{InUse}
use Rattle.pol_drafts.specs.Ids.{chosen, given, has_id, next_id, still_last}
use Rattle.pol_drafts.specs.Schemas.{add_schema, added_schema, is_same_schema, noted_schema, remove_schemas, same_schema_id, set_current_schema, with_current_schema, with_schema, without_schemas}
use Rattle.pol_drafts.specs.declared.draft.Draft.{Draft}
use Rattle.pol_drafts.specs.declared.member.MemberId.{MemberId}
use Rattle.pol_updatelaws.proofs.ChainLemmas.{goes_on, passes_rule}
use Rattle.pol_updatelaws.proofs.MemberLemmas.{MembersAre, found_id, given_is, highest_within, members_left, members_named, members_noted, members_pushed, named_there, next_is_new}

pub record SchemasAre (schemas : List Schema) (now top : ℕ) (last : Option ℕ) : Type 0 where
  pub members : MembersAre IsSchema (λ schema. schema.schema_id) schemas now last
  pub column : IsColumnId top

-- a schema that is added is one that is there, or a new one
added_cases : (P : Draft → Type 0) (found : Option ℕ) (schema : Schema) (d next : Draft)
    → same_schema_id schema d.meta.schemas ≡ found → added_schema found schema d ≡ Ok next
    → ((id : ℕ) → Contains (schema_ids d.meta.schemas) id → P (noted_schema id schema d))
    → ((id : ℕ) → next_id (schema_ids d.meta.schemas) ≡ id → IsId id → P (with_schema id schema d)) → P next
added_cases P (Some id) schema d next is told there new =
    let same : noted_schema id schema d ≡ next = cc in
    subst P same (there id
    (found_id (λ other. other.schema_id) (λ other. is_same_schema other schema) d.meta.schemas id is))
added_cases P None schema d next is told there new =
    let step = goes_on (given (next_id (schema_ids d.meta.schemas))) (λ id. Ok (with_schema id schema d)) next told in
    let id = given_is (next_id (schema_ids d.meta.schemas)) step.0 step.1 in
    let made : ◌≡◌ {A = Result Draft Why} (Ok (with_schema step.0 schema d)) (Ok next) = step.2 in
    let same : with_schema step.0 schema d ≡ next = cc in
    subst P same (new step.0 id.0 id.1)

pub add_schema_cases : (P : Draft → Type 0) (schema : Schema) (d next : Draft) → add_schema schema d ≡ Ok next
    → ((id : ℕ) → Contains (schema_ids d.meta.schemas) id → P (noted_schema id schema d))
    → ((id : ℕ) → next_id (schema_ids d.meta.schemas) ≡ id → IsId id → P (with_schema id schema d)) → P next
unfolding add_schema
add_schema_cases P schema d next told there new =
    added_cases P (same_schema_id schema d.meta.schemas) schema d next refl told there new

pub set_current_schema_cases : (P : Draft → Type 0) (member : MemberId) (d next : Draft)
    → set_current_schema member d ≡ Ok next
    → ((id : ℕ) → chosen member d.last_schema (schema_ids d.meta.schemas) ≡ Ok id → P (with_current_schema id d)) → P next
unfolding set_current_schema
set_current_schema_cases P member d next told named =
    let step = goes_on (chosen member d.last_schema (schema_ids d.meta.schemas)) (λ id. Ok (with_current_schema id d)) next told in
    let made : ◌≡◌ {A = Result Draft Why} (Ok (with_current_schema step.0 d)) (Ok next) = step.2 in
    let same : with_current_schema step.0 d ≡ next = cc in
    subst P same (named step.0 step.1)

pub remove_schemas_cases : (P : Draft → Type 0) (ids : List ℕ) (d next : Draft) → remove_schemas ids d ≡ Ok next
    → (has_id d.meta.current_schema_id ids ≡ false → P (without_schemas ids d)) → P next
unfolding remove_schemas
remove_schemas_cases P ids d next told left =
    let step = passes_rule (has_id d.meta.current_schema_id ids) InUse (Ok (without_schemas ids d)) next told in
    let made : ◌≡◌ {A = Result Draft Why} (Ok (without_schemas ids d)) (Ok next) = step.1 in
    let same : without_schemas ids d ≡ next = cc in
    subst P same (left step.0)

-- the highest column id stays one
column_kept : (top : ℕ) (schema : Schema) → IsColumnId top → IsSchema schema
    → IsColumnId (highest top (column_ids schema.fields))
column_kept top schema low form =
    highest_within 2147483447 top (column_ids schema.fields) low
    (All-map (λ id. id ≤ 2147483447) (λ column. column.id) schema.fields
    (All-weaker IsColumn (λ column. column.id ≤ 2147483447) (λ column column_form. column_form.id) schema.fields form.columns))

numbered : (id : ℕ) (schema : Schema) → IsSchema schema → IsId id → IsSchema (record schema { schema_id = id })
numbered id schema form within = record {
  id = within;
  columns = form.columns;
  nested = form.nested;
  differ = form.differ;
  identified = form.identified;
}

pub schemas_noted : (schemas : List Schema) (now top : ℕ) (last : Option ℕ) (id : ℕ) (schema : Schema)
    → SchemasAre schemas now top last → IsSchema schema → Contains (schema_ids schemas) id
    → SchemasAre schemas now (highest top (column_ids schema.fields)) (Some id)
schemas_noted schemas now top last id schema are form there = record {
  members = members_noted IsSchema (λ other. other.schema_id) schemas now last id are.members there;
  column = column_kept top schema are.column form;
}

pub schemas_pushed : (schemas : List Schema) (now top : ℕ) (last : Option ℕ) (id : ℕ) (schema : Schema)
    → SchemasAre schemas now top last → IsSchema schema → next_id (schema_ids schemas) ≡ id → IsId id
    → SchemasAre (schemas ++ record schema { schema_id = id } ∷ []) now (highest top (column_ids schema.fields)) (Some id)
schemas_pushed schemas now top last id schema are form is within = record {
  members = members_pushed IsSchema (λ other. other.schema_id) schemas now last (record schema { schema_id = id }) are.members
      (numbered id schema form within)
      (subst (λ x. list_any (nat_eq x) (schema_ids schemas) ≡ false) is (next_is_new (schema_ids schemas)));
  column = column_kept top schema are.column form;
}

pub schemas_named : (member : MemberId) (schemas : List Schema) (now top : ℕ) (last : Option ℕ) (id : ℕ)
    → SchemasAre schemas now top last → chosen member last (schema_ids schemas) ≡ Ok id → SchemasAre schemas id top last
schemas_named member schemas now top last id are named = record {
  members = members_named IsSchema (λ other. other.schema_id) schemas now last id are.members
      (named_there member last (schema_ids schemas) id are.members.added named);
  column = are.column;
}

pub schemas_left : (schemas : List Schema) (now top : ℕ) (last : Option ℕ) (gone : List ℕ)
    → SchemasAre schemas now top last → has_id now gone ≡ false
    → SchemasAre (filter (λ schema. not (has_id schema.schema_id gone)) schemas) now top (still_last gone last)
schemas_left schemas now top last gone are stays = record {
  members = members_left IsSchema (λ other. other.schema_id) schemas now last gone are.members stays;
  column = are.column;
}
