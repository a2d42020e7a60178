-- That a list of updates keeps a valid metadata of a view valid, and where a list is refused.
use Rattle.std.proofs.Common.{◌≡◌, ◌≤◌, ◌==◌, ℕ, Bool, true, false, not, List, [], ◌∷◌, ◌++◌, ◌-◌, length, Option, Some, Ok, IfSome, refl, sym, subst, nat_eq}
use Rattle.std.specs.List.{All, Contains, IsDistinct, list_any}
use Rattle.std.specs.Str.{bytes_eq}
use Rattle.std.proofs.lemmas.Bool.{eq-eqb}
use Rattle.std.proofs.lemmas.List.{map-append}
use Rattle.std.proofs.lemmas.List.Elements.{All-contains, All-drop, All-filter, All-map, All-push, All-weaker, Contains-push}
use Rattle.pol_meta.specs.Valid.{IsId, IsLong, IsSchema, schema_ids}
use Rattle.pol_meta.specs.declared.schema.Schema.{Schema}
use Rattle.pol_meta.specs.declared.why.Why.TheVariants.{FormatVersion, UuidDiffers}
use Rattle.pol_drafts.specs.Ids.{next_id}
use Rattle.pol_updatelaws.proofs.ChainLemmas.{made_kept, same_kept}
use Rattle.pol_updatelaws.proofs.ListLemmas.{each_keeps, made_cases, refused_there}
use Rattle.pol_updatelaws.proofs.MemberLemmas.{MembersAre, contains_left, contains_pushed, distinct_left, distinct_pushed, members_named, members_noted, members_pushed, named_there, next_is_new}
use Rattle.pol_views.specs.Forms.{HasViewForm}
use Rattle.pol_views.specs.Laws.{FirstRefusedIsTold, KeepsAtMostHundred, ViewStaysValid}
use Rattle.pol_views.specs.Left.{goes, other_ids}
use Rattle.pol_views.specs.Schemas.{noted_schema, with_schema}
use Rattle.pol_views.specs.Texts.{with_location, with_values, without_keys}
use Rattle.pol_views.specs.Updates.{after_each, after_one, begun, finished, view_after}
use Rattle.pol_views.specs.Valid.{IsValidView, IsVersionLogEntry, IsViewVersion, version_ids}
use Rattle.pol_views.specs.Versions.{bound_version, noted_version, with_current_version, with_version}
use Rattle.pol_views.specs.declared.draft.ViewDraft.{ViewDraft}
use Rattle.pol_views.specs.declared.metadata.ViewMetadata.{ViewMetadata}
use Rattle.pol_views.specs.declared.update.ViewUpdate.{ViewUpdate}
use Rattle.pol_views.specs.declared.update.ViewUpdate.TheVariants.{AssignUuid, UpgradeFormatVersion, AddSchema, SetLocation, SetProperties, RemoveProperties, AddViewVersion, SetCurrentViewVersion, Unsupported}
use Rattle.pol_views.specs.declared.version.UnboundVersion.{UnboundVersion}
use Rattle.pol_views.specs.declared.version.ViewVersion.{ViewVersion}
use Rattle.pol_views.proofs.CaseLemmas.{add_schema_cases, add_version_cases, set_current_cases}
use Rattle.pol_views.proofs.LeftLemmas.{hundred_left}

-- schemas under ids that differ, of which one is the last added
record SchemasAre (schemas : List Schema) (last : Option ℕ) : Type 0 where
  forms : All IsSchema schemas
  differ : IsDistinct nat_eq (schema_ids schemas)
  added : IfSome last (Contains (schema_ids schemas))

-- the schema of a version is there
abbrev IsOf : List Schema → ViewVersion → Type 0
IsOf schemas version = Contains (schema_ids schemas) version.schema_id

-- versions under ids that differ, whose schemas are there; the current one and the last added are among them
record VersionsAre (schemas : List Schema) (versions : List ViewVersion) (now : ℕ) (last : Option ℕ) : Type 0 where
  members : MembersAre IsViewVersion (λ version. version.version_id) versions now last
  there : All (IsOf schemas) versions

-- a metadata amid a list whose parts are those of a valid one
record IsSound (d : ViewDraft) : Type 0 where
  schemas : SchemasAre d.meta.schemas d.last_schema
  versions : VersionsAre d.meta.schemas d.meta.versions d.meta.current_version_id d.last_version
  log : All IsVersionLogEntry d.meta.version_log
  format : d.meta.format_version ≡ 1

-- an id that names a schema is an id
schema_id_form : (schemas : List Schema) (id : ℕ) → All IsSchema schemas → Contains (schema_ids schemas) id → IsId id
schema_id_form schemas id forms there =
    All-contains IsId (schema_ids schemas) id
    (All-map IsId (λ schema. schema.schema_id) schemas
    (All-weaker IsSchema (λ schema. IsId schema.schema_id) (λ schema form. form.id) schemas forms)) there

version_id_form : (versions : List ViewVersion) (id : ℕ) → All IsViewVersion versions → Contains (version_ids versions) id
    → IsId id
version_id_form versions id forms there =
    All-contains IsId (version_ids versions) id
    (All-map IsId (λ version. version.version_id) versions
    (All-weaker IsViewVersion (λ version. IsId version.version_id) (λ version form. form.id) versions forms)) there

-- one more schema
schema_form : (id : ℕ) (schema : Schema) → IsSchema schema → IsId id → IsSchema (record schema { schema_id = id })
schema_form id schema form within = record {
  id = within;
  columns = form.columns;
  nested = form.nested;
  differ = form.differ;
  identified = form.identified;
}

schemas_pushed : (schemas : List Schema) (last : Option ℕ) (id : ℕ) (schema : Schema) → SchemasAre schemas last → IsSchema schema
    → next_id (schema_ids schemas) ≡ id → IsId id
    → SchemasAre (schemas ++ record schema { schema_id = id } ∷ []) (Some id)
schemas_pushed schemas last id schema are form is within =
    let numbered : Schema = record schema { schema_id = id } in
    record {
      forms = All-push IsSchema schemas numbered are.forms (schema_form id schema form within);
      differ = distinct_pushed (λ (other : Schema). other.schema_id) schemas numbered are.differ
          (subst (λ x. list_any (nat_eq x) (schema_ids schemas) ≡ false) is (next_is_new (schema_ids schemas)));
      added = subst (λ ids. Contains ids id) (sym (map-append (λ (other : Schema). other.schema_id) schemas (numbered ∷ [])))
          (Contains-push (schema_ids schemas) id);
    }

of_more : (schemas : List Schema) (schema : Schema) (versions : List ViewVersion) → All (IsOf schemas) versions
    → All (IsOf (schemas ++ schema ∷ [])) versions
of_more schemas schema versions there =
    All-weaker (IsOf schemas) (IsOf (schemas ++ schema ∷ []))
    (λ version one. contains_pushed (λ (other : Schema). other.schema_id) schemas schema version.schema_id one) versions there

schema_noted : (id : ℕ) (d : ViewDraft) → IsSound d → Contains (schema_ids d.meta.schemas) id → IsSound (noted_schema id d)
schema_noted id d sound there = record {
  schemas = record { forms = sound.schemas.forms; differ = sound.schemas.differ; added = there };
  versions = sound.versions;
  log = sound.log;
  format = sound.format;
}

schema_added : (id : ℕ) (schema : Schema) (d : ViewDraft) → IsSound d → IsSchema schema
    → next_id (schema_ids d.meta.schemas) ≡ id → IsId id → IsSound (with_schema id schema d)
schema_added id schema d sound form is within = record {
  schemas = schemas_pushed d.meta.schemas d.last_schema id schema sound.schemas form is within;
  versions = record {
    members = sound.versions.members;
    there = of_more d.meta.schemas (record schema { schema_id = id }) d.meta.versions sound.versions.there;
  };
  log = sound.log;
  format = sound.format;
}

-- one more version
version_noted : (id : ℕ) (d : ViewDraft) → IsSound d → Contains (version_ids d.meta.versions) id → IsSound (noted_version id d)
version_noted id d sound there = record {
  schemas = sound.schemas;
  versions = record {
    members = members_noted IsViewVersion (λ (version : ViewVersion). version.version_id) d.meta.versions
        d.meta.current_version_id d.last_version id sound.versions.members there;
    there = sound.versions.there;
  };
  log = sound.log;
  format = sound.format;
}

version_added : (id schema : ℕ) (version : UnboundVersion) (d : ViewDraft) → IsSound d → IsLong version.timestamp_ms
    → Contains (schema_ids d.meta.schemas) schema → next_id (version_ids d.meta.versions) ≡ id → IsId id
    → IsSound (with_version id schema version d)
version_added id schema version d sound time there is within = record {
  schemas = sound.schemas;
  versions = record {
    members = members_pushed IsViewVersion (λ (one : ViewVersion). one.version_id) d.meta.versions d.meta.current_version_id
        d.last_version (bound_version id schema version) sound.versions.members
        (record { id = within; time = time; schema = schema_id_form d.meta.schemas schema sound.schemas.forms there })
        (subst (λ x. list_any (nat_eq x) (version_ids d.meta.versions) ≡ false) is (next_is_new (version_ids d.meta.versions)));
    there = All-push (IsOf d.meta.schemas) d.meta.versions (bound_version id schema version) sound.versions.there there;
  };
  log = sound.log;
  format = sound.format;
}

-- the version that is named becomes the current one
current_set : (moment id : ℕ) (d : ViewDraft) → IsLong moment → IsSound d → Contains (version_ids d.meta.versions) id
    → IsSound (with_current_version moment id d)
current_set moment id d within sound there = record {
  schemas = sound.schemas;
  versions = record {
    members = members_named IsViewVersion (λ (version : ViewVersion). version.version_id) d.meta.versions
        d.meta.current_version_id d.last_version id sound.versions.members there;
    there = sound.versions.there;
  };
  log = All-push IsVersionLogEntry d.meta.version_log (record { timestamp_ms = moment; version_id = id }) sound.log
      (record { time = within; version = version_id_form d.meta.versions id sound.versions.members.forms there });
  format = sound.format;
}

-- each update keeps them
one_keeps : (moment : ℕ) → IsLong moment → (update : ViewUpdate) (d next : ViewDraft) → HasViewForm update → IsSound d
    → after_one moment update d ≡ Ok next → IsSound next
one_keeps moment within (AssignUuid uuid) d next form sound told =
    same_kept IsSound (bytes_eq d.meta.view_uuid uuid) UuidDiffers d next sound told
one_keeps moment within (UpgradeFormatVersion version) d next form sound told =
    same_kept IsSound (version == 1) FormatVersion d next sound told
one_keeps moment within (AddSchema schema) d next form sound told =
    add_schema_cases IsSound schema d next told (λ id there. schema_noted id d sound there)
    (λ id is fits. schema_added id schema d sound form is fits)
one_keeps moment within (SetLocation location) d next form sound told =
    made_kept IsSound (with_location location d) next
    (record { schemas = sound.schemas; versions = sound.versions; log = sound.log; format = sound.format }) told
one_keeps moment within (SetProperties updates) d next form sound told =
    made_kept IsSound (with_values updates d) next
    (record { schemas = sound.schemas; versions = sound.versions; log = sound.log; format = sound.format }) told
one_keeps moment within (RemoveProperties removals) d next form sound told =
    made_kept IsSound (without_keys removals d) next
    (record { schemas = sound.schemas; versions = sound.versions; log = sound.log; format = sound.format }) told
one_keeps moment within (AddViewVersion version) d next form sound told =
    add_version_cases IsSound version d next told (λ id there. version_noted id d sound there)
    (λ id schema named is fits. version_added id schema version d sound form
    (named_there version.schema_id d.last_schema (schema_ids d.meta.schemas) schema sound.schemas.added named) is fits)
one_keeps moment within (SetCurrentViewVersion member) d next form sound told =
    set_current_cases IsSound moment member d next told (λ id named. current_set moment id d within sound
    (named_there member d.last_version (version_ids d.meta.versions) id sound.versions.members.added named))
one_keeps moment within (Unsupported action) d next form sound told = made_kept IsSound d next sound told

-- a valid metadata before a list
begun_sound : (meta : ViewMetadata) → IsValidView meta → IsSound (begun meta)
begun_sound meta valid = record {
  schemas = record { forms = valid.forms.schemas; differ = valid.ids.schemas; added = tt };
  versions = record {
    members = record { forms = valid.forms.versions; differ = valid.ids.versions; current = valid.members.current; added = tt };
    there = valid.members.schemas;
  };
  log = valid.forms.log;
  format = valid.forms.version;
}

-- the current version doesn't go
current_stays : (current : ℕ) (others : List ℕ) (surplus : ℕ) → not (goes current others surplus current) ≡ true
current_stays current others surplus =
    let same : (current == current) ≡ true = eq-eqb current current refl in
    rw same refl

-- what is finished is valid
finished_valid : (d : ViewDraft) → IsSound d → IsValidView (finished d.meta)
unfolding finished
finished_valid d sound =
    let current = d.meta.current_version_id in
    let versions = d.meta.versions in
    let others = other_ids current versions in
    let surplus = length versions - 100 in
    let keep : ℕ → Bool = λ id. not (goes current others surplus id) in
    let members = sound.versions.members in
    record {
      forms = record {
        current = version_id_form versions current members.forms members.current;
        version = sound.format;
        schemas = sound.schemas.forms;
        log = All-drop IsVersionLogEntry _ d.meta.version_log sound.log;
        versions = All-filter (λ version. keep version.version_id) IsViewVersion versions members.forms;
      };
      ids = record {
        schemas = sound.schemas.differ;
        versions = distinct_left (λ (version : ViewVersion). version.version_id) keep versions members.differ;
      };
      members = record {
        current = contains_left (λ (version : ViewVersion). version.version_id) keep versions current members.current
            (current_stays current others surplus);
        schemas = All-filter (λ version. keep version.version_id) (IsOf d.meta.schemas) versions sound.versions.there;
      };
    }

pub stays_valid : ViewStaysValid
unfolding view_after after_each
stays_valid meta updates moment made valid forms within told =
    made_cases (after_one moment) (λ d. finished d.meta) meta (begun meta) updates IsValidView made told valid (λ d done.
    finished_valid d
    (each_keeps (after_one moment) IsSound HasViewForm (one_keeps moment within) 0 updates (begun meta) d forms
    (begun_sound meta valid) done))

pub first_refused : FirstRefusedIsTold
unfolding view_after after_each
first_refused meta updates moment place told =
    refused_there (after_one moment) (λ d. finished d.meta) meta (begun meta) updates place told

pub keeps_at_most_hundred : KeepsAtMostHundred
unfolding view_after after_each finished
keeps_at_most_hundred meta updates moment made valid few forms within told =
    made_cases (after_one moment) (λ d. finished d.meta) meta (begun meta) updates (λ (whole : ViewMetadata). length whole.versions ≤ 100) made told
    few (λ d done.
    let sound = each_keeps (after_one moment) IsSound HasViewForm (one_keeps moment within) 0 updates (begun meta) d forms
    (begun_sound meta valid) done in
    hundred_left d.meta.current_version_id d.meta.versions sound.versions.members.differ)
