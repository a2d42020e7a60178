-- What an update of schemas or versions leads to.
use Rattle.std.proofs.Common.{◌≡◌, ℕ, Option, None, Some, Ok, refl}
use Rattle.std.specs.List.{Contains}
use Rattle.pol_meta.specs.Valid.{IsId, schema_ids}
use Rattle.pol_meta.specs.declared.schema.Schema.{Schema}
use Rattle.pol_drafts.specs.Ids.{chosen, given, next_id}
use Rattle.pol_drafts.specs.Schemas.{is_same_schema, same_schema_id}
use Rattle.pol_drafts.specs.declared.member.MemberId.{MemberId}
use Rattle.pol_updatelaws.proofs.ChainLemmas.{goes_on, made_kept}
use Rattle.pol_updatelaws.proofs.MemberLemmas.{found_id, given_is}
use Rattle.pol_views.specs.Schemas.{add_schema, added_schema, noted_schema, with_schema}
use Rattle.pol_views.specs.Valid.{version_ids}
use Rattle.pol_views.specs.Versions.{add_version, added_version, is_version_of, noted_version, same_version_id, set_current_version, with_current_version, with_version}
use Rattle.pol_views.specs.declared.draft.ViewDraft.{ViewDraft}
use Rattle.pol_views.specs.declared.version.UnboundVersion.{UnboundVersion}
use Rattle.pol_views.specs.declared.version.ViewVersion.{ViewVersion}

-- a schema that is added is one that is there, or a new one
pub add_schema_cases : (P : ViewDraft → Type 0) (schema : Schema) (d next : ViewDraft) → add_schema schema d ≡ Ok next
    → ((id : ℕ) → Contains (schema_ids d.meta.schemas) id → P (noted_schema id d))
    → ((id : ℕ) → next_id (schema_ids d.meta.schemas) ≡ id → IsId id → P (with_schema id schema d)) → P next
unfolding add_schema
add_schema_cases P schema d next told there new = by_found (same_schema_id schema d.meta.schemas) refl told
  where
    by_found : (found : Option ℕ) → same_schema_id schema d.meta.schemas ≡ found → added_schema found schema d ≡ Ok next
        → P next
    by_found (Some id) is told =
        made_kept P (noted_schema id d) next
        (there id (found_id (λ (other : Schema). other.schema_id) (λ other. is_same_schema other schema) d.meta.schemas id is))
        told
    by_found None is told =
        let step = goes_on (given (next_id (schema_ids d.meta.schemas))) (λ id. Ok (with_schema id schema d)) next told in
        let id = given_is (next_id (schema_ids d.meta.schemas)) step.0 step.1 in
        made_kept P (with_schema step.0 schema d) next (new step.0 id.0 id.1) step.2

-- a version that is added is one that is there, or a new one of a schema that is named
pub add_version_cases : (P : ViewDraft → Type 0) (version : UnboundVersion) (d next : ViewDraft)
    → add_version version d ≡ Ok next
    → ((id : ℕ) → Contains (version_ids d.meta.versions) id → P (noted_version id d))
    → ((id schema : ℕ) → chosen version.schema_id d.last_schema (schema_ids d.meta.schemas) ≡ Ok schema
    → next_id (version_ids d.meta.versions) ≡ id → IsId id → P (with_version id schema version d)) → P next
unfolding add_version
add_version_cases P version d next told there new =
    let named = goes_on (chosen version.schema_id d.last_schema (schema_ids d.meta.schemas))
    (λ schema. added_version (same_version_id schema version d.meta.versions) schema version d) next told in
    by_found named.0 named.1 (same_version_id named.0 version d.meta.versions) refl named.2
  where
    by_found : (schema : ℕ) → chosen version.schema_id d.last_schema (schema_ids d.meta.schemas) ≡ Ok schema
        → (found : Option ℕ) → same_version_id schema version d.meta.versions ≡ found
        → added_version found schema version d ≡ Ok next → P next
    by_found schema named (Some id) is told =
        made_kept P (noted_version id d) next
        (there id (found_id (λ (one : ViewVersion). one.version_id) (is_version_of schema version) d.meta.versions id is)) told
    by_found schema named None is told =
        let step = goes_on (given (next_id (version_ids d.meta.versions))) (λ id. Ok (with_version id schema version d)) next told in
        let id = given_is (next_id (version_ids d.meta.versions)) step.0 step.1 in
        made_kept P (with_version step.0 schema version d) next (new step.0 schema named id.0 id.1) step.2

-- the version that is named becomes the current one
pub set_current_cases : (P : ViewDraft → Type 0) (moment : ℕ) (member : MemberId) (d next : ViewDraft)
    → set_current_version moment member d ≡ Ok next
    → ((id : ℕ) → chosen member d.last_version (version_ids d.meta.versions) ≡ Ok id → P (with_current_version moment id d))
    → P next
unfolding set_current_version
set_current_cases P moment member d next told named =
    let step = goes_on (chosen member d.last_version (version_ids d.meta.versions))
    (λ id. Ok (with_current_version moment id d)) next told in
    made_kept P (with_current_version moment step.0 d) next (named step.0 step.1) step.2
