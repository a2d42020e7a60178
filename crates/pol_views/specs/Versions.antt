-- How an update adds a version and names the current one.
use Rattle.std.specs.Prelude.{◌==◌, ◌&&◌, ◌++◌, ◌∷◌, [], ℕ, Bool, nat_eq, List, Option, None, Some, Result, Ok}
use Rattle.std.specs.Cmp.Lexicographic.{pointwise}
use Rattle.std.specs.List.{find}
use Rattle.std.specs.Option.{option_eq, option_map}
use Rattle.pol_properties.specs.Properties.{same_pair}
use Rattle.pol_meta.specs.Valid.{schema_ids}
use Rattle.pol_meta.specs.declared.why.Why.{Why}
use Rattle.pol_drafts.specs.Drafts.{and_then}
use Rattle.pol_drafts.specs.Ids.{chosen, given, next_id}
use Rattle.pol_drafts.specs.declared.member.MemberId.{MemberId}
use Rattle.pol_views.specs.Valid.{version_ids}
use Rattle.pol_views.specs.contracts.version.RepresentationPartialEq.TheImpl as representations_compared
use Rattle.pol_views.specs.declared.draft.ViewDraft.{ViewDraft}
use Rattle.pol_views.specs.declared.version.UnboundVersion.{UnboundVersion}
use Rattle.pol_views.specs.declared.version.ViewVersion.{ViewVersion}

-- a version with its id and that of its schema
abbrev pub bound_version : ℕ → ℕ → UnboundVersion → ViewVersion
bound_version id schema version = record {
  version_id = id;
  timestamp_ms = version.timestamp_ms;
  schema_id = schema;
  summary = version.summary;
  representations = version.representations;
  default_catalog = version.default_catalog;
  default_namespace = version.default_namespace;
}

-- whether a version of this schema is equal but for id and time
abbrev pub is_version_of : ℕ → UnboundVersion → ViewVersion → Bool
is_version_of schema version other =
    other.schema_id == schema
    && pointwise same_pair other.summary version.summary
    && pointwise (representations_compared.ghosts).eq other.representations version.representations
    && option_eq (pointwise nat_eq) other.default_catalog version.default_catalog
    && pointwise (pointwise nat_eq) other.default_namespace version.default_namespace

-- the id of the first such version
abbrev pub same_version_id : ℕ → UnboundVersion → List ViewVersion → Option ℕ
same_version_id schema version versions =
    option_map (λ other. other.version_id) (find (is_version_of schema version) versions)

-- a version of this id is the last added
abbrev pub noted_version : ℕ → ViewDraft → ViewDraft
noted_version id d = record d { last_version = Some id }

-- a version stands after the others under a new id
abbrev pub with_version : ℕ → ℕ → UnboundVersion → ViewDraft → ViewDraft
with_version id schema version d = noted_version id (record d {
  meta = record d.meta { versions = d.meta.versions ++ bound_version id schema version ∷ [] };
})

-- a version is added where there is none that is equal but for id and time
abbrev pub added_version : Option ℕ → ℕ → UnboundVersion → ViewDraft → Result ViewDraft Why
added_version (Some id) schema version d = Ok (noted_version id d)
added_version None schema version d =
    and_then (given (next_id (version_ids d.meta.versions))) (λ id. Ok (with_version id schema version d))

-- its schema is the one that is named
unfoldable pub add_version : UnboundVersion → ViewDraft → Result ViewDraft Why
add_version version d =
    and_then (chosen version.schema_id d.last_schema (schema_ids d.meta.schemas))
    (λ schema. added_version (same_version_id schema version d.meta.versions) schema version d)

-- the version that is named becomes the current one at a moment
abbrev pub with_current_version : ℕ → ℕ → ViewDraft → ViewDraft
with_current_version moment id d = record d {
  meta = record d.meta {
    current_version_id = id;
    version_log = d.meta.version_log ++ record { timestamp_ms = moment; version_id = id } ∷ [];
  };
}

unfoldable pub set_current_version : ℕ → MemberId → ViewDraft → Result ViewDraft Why
set_current_version moment member d =
    and_then (chosen member d.last_version (version_ids d.meta.versions)) (λ id. Ok (with_current_version moment id d))
