-- A printed metadata of a view is read as the same.
use Rattle.std.proofs.Common.{◌≡◌, ◌≤◌, ℕ, List, All, Option, None, Some, Ok, option_map, IsUtf8, refl, ap, ◌∙◌, arith, inl}
use Rattle.std.specs.Bool.{⊤}
use Rattle.serde_json.specs.Data.{Data, Members, depth, object, string}
use Rattle.serde_json.specs.Find.{get}
use Rattle.serde_json.specs.Read.{max_depth, read}
use Rattle.uuid.specs.Text.{hyphenated_text, lower}
use Rattle.pol_commitjson.specs.Identifiers.{levels}
use Rattle.pol_meta.specs.Valid.{IsSchema}
use Rattle.pol_metakeys.specs.declared.keys.TheConstants as meta_key
use Rattle.pol_metalaws.proofs.MetadataLemmas.{uuid_read}
use Rattle.pol_metalaws.proofs.ObjectLemmas as objects
use Rattle.pol_metalaws.proofs.SchemaLemmas.{schema_read}
use Rattle.pol_metaprint.specs.Json.{list_json, number_json, pairs_json}
use Rattle.pol_metaprint.specs.Metadata.{schema_json}
use Rattle.pol_metaread.specs.Numbered.{numbered_schema}
use Rattle.pol_names.proofs.Levels.{namespace_refusal-IsNamespace}
use Rattle.pol_names.specs.Namespace.{IsNamespace}
use Rattle.pol_readers.specs.Exactness.{bodies_exact}
use Rattle.pol_readers.specs.Forms.{body}
use Rattle.pol_readers.specs.Grammar.{IsText, MayHold}
use Rattle.pol_views.specs.Valid.{HasViewForms, IsVersionLogEntry, IsViewVersion}
use Rattle.pol_views.specs.declared.log.VersionLogEntry.{VersionLogEntry}
use Rattle.pol_views.specs.declared.metadata.ViewMetadata.{ViewMetadata}
use Rattle.pol_views.specs.declared.version.Representation.{Representation}
use Rattle.pol_views.specs.declared.version.ViewVersion.{ViewVersion}
use Rattle.pol_viewjson.specs.Json.{levels_json, put_versions, put_view, representation_json, version_log_entry_json, view_json, view_version_json}
use Rattle.pol_viewjson.specs.Laws.{IsHeldVersion, IsHeldView}
use Rattle.pol_viewjson.specs.Metadata.{view_metadata}
use Rattle.pol_viewjson.specs.Versions.{representation, told, version_log_entry, view_version}
use Rattle.pol_viewjson.specs.declared.keys.TheConstants as key

representation_read : (found : Representation) → representation.stands (representation_json found) found
unfolding representation representation_json
representation_read found = (
  tt,
  (_, refl),
  (
    tt,
    (string key.SQL.now, refl, refl),
    (found.sql, (string found.sql, refl, refl), (found.dialect, (string found.dialect, refl, refl), refl)),
  ),
)

levels_read : (found : List (List ℕ)) → IsNamespace found → levels.stands (levels_json found) found
unfolding levels
levels_read found named = (
  found,
  objects.list_read IsText string (λ (level : List ℕ). ⊤) (λ level so. refl) found (λ k d inside. tt),
  (tt, rw (namespace_refusal-IsNamespace found named) refl, refl),
)

-- a text that may be absent
text_may_hold : (held : Option Data) (given : Option (List ℕ)) → held ≡ option_map string given → MayHold IsText held given
text_may_hold held None is = inl is
text_may_hold held (Some text) is = (string text, is, (λ e. cc), refl)

-- the members of a version, whether it has a default catalogue or not
record Gets (v : ViewVersion) : Type 0 where
  id : get key.VERSION_ID.now (view_version_json v) ≡ Some (number_json v.version_id)
  moment : get meta_key.TIMESTAMP_MS.now (view_version_json v) ≡ Some (number_json v.timestamp_ms)
  schema : get meta_key.SCHEMA_ID.now (view_version_json v) ≡ Some (number_json v.schema_id)
  summary : get meta_key.SUMMARY.now (view_version_json v) ≡ Some (pairs_json v.summary)
  written : get key.REPRESENTATIONS.now (view_version_json v) ≡ Some (list_json representation_json v.representations)
  catalog : get key.DEFAULT_CATALOG.now (view_version_json v) ≡ option_map string v.default_catalog
  namespace : get key.DEFAULT_NAMESPACE.now (view_version_json v) ≡ Some (levels_json v.default_namespace)

version_gets : (v : ViewVersion) (catalog : Option (List ℕ)) → v.default_catalog ≡ catalog → Gets v
unfolding view_version_json
version_gets v None is = record {
  id = rw is refl;
  moment = rw is refl;
  schema = rw is refl;
  summary = rw is refl;
  written = rw is refl;
  catalog = rw is refl;
  namespace = rw is refl;
}
version_gets v (Some text) is = record {
  id = rw is refl;
  moment = rw is refl;
  schema = rw is refl;
  summary = rw is refl;
  written = rw is refl;
  catalog = rw is refl;
  namespace = rw is refl;
}

version_is_object : (v : ViewVersion) → (ms : Members) × (view_version_json v ≡ object ms)
unfolding view_version_json
version_is_object v = (_, refl)

told_read : (v : ViewVersion) → IsHeldVersion v
    → told.stands (view_version_json v) (record {
      summary = v.summary;
      representations = v.representations;
      default_catalog = v.default_catalog;
      default_namespace = v.default_namespace;
    })
unfolding told
told_read v held =
    let gets = version_gets v v.default_catalog refl in (
      v.summary,
      (_, gets.summary, objects.pairs_read v.summary held.summary),
      (
        v.representations,
        (
          _,
          gets.written,
          objects.list_read representation.stands representation_json (λ (found : Representation). ⊤)
              (λ found so. representation_read found) v.representations (λ k d inside. tt),
        ),
        (
          v.default_catalog,
          text_may_hold _ v.default_catalog gets.catalog,
          (v.default_namespace, (_, gets.namespace, levels_read v.default_namespace held.namespace), refl),
        ),
      ),
    )

-- a version with what its type keeps
record IsKeptVersion (v : ViewVersion) : Type 0 where
  form : IsViewVersion v
  held : IsHeldVersion v

version_read : (v : ViewVersion) → IsKeptVersion v → view_version.stands (view_version_json v) v
unfolding view_version
version_read v valid =
    let form = valid.form in
    let gets = version_gets v v.default_catalog refl in (
      tt,
      version_is_object v,
      (
        v.version_id,
        (_, gets.id, objects.up_to 2147483647 v.version_id form.id),
        (
          v.timestamp_ms,
          (_, gets.moment, objects.long v.timestamp_ms form.time),
          (
            v.schema_id,
            (_, gets.schema, objects.up_to 2147483647 v.schema_id form.schema),
            (_, told_read v valid.held, refl),
          ),
        ),
      ),
    )

log_entry_read : (entry : VersionLogEntry) → IsVersionLogEntry entry
    → version_log_entry.stands (version_log_entry_json entry) entry
unfolding version_log_entry version_log_entry_json
log_entry_read entry valid = (
  tt,
  (_, refl),
  (
    entry.timestamp_ms,
    (_, refl, objects.long entry.timestamp_ms valid.time),
    (entry.version_id, (_, refl, objects.up_to 2147483647 entry.version_id valid.version), refl),
  ),
)

-- the members of a metadata
record ViewGets (m : ViewMetadata) : Type 0 where
  current : get key.CURRENT_VERSION_ID.now (view_json m) ≡ Some (number_json m.current_version_id)
  format : get meta_key.FORMAT_VERSION.now (view_json m) ≡ Some (number_json m.format_version)
  location : get meta_key.LOCATION.now (view_json m) ≡ Some (string m.location)
  properties : get meta_key.PROPERTIES.now (view_json m) ≡ Some (pairs_json m.properties)
  schemas : get meta_key.SCHEMAS.now (view_json m) ≡ Some (list_json schema_json m.schemas)
  log : get key.VERSION_LOG.now (view_json m) ≡ Some (list_json version_log_entry_json m.version_log)
  versions : get key.VERSIONS.now (view_json m) ≡ Some (list_json view_version_json m.versions)
  uuid : get key.VIEW_UUID.now (view_json m) ≡ Some (string (hyphenated_text lower m.view_uuid))

view_gets : (m : ViewMetadata) → ViewGets m
unfolding view_json put_versions put_view
view_gets m = record {
  current = refl;
  format = refl;
  location = refl;
  properties = refl;
  schemas = refl;
  log = refl;
  versions = refl;
  uuid = refl;
}

view_is_object : (m : ViewMetadata) → (ms : Members) × (view_json m ≡ object ms)
unfolding view_json
view_is_object m = (_, refl)

view_stands : (m : ViewMetadata) → HasViewForms m → IsHeldView m → view_metadata.stands (view_json m) m
unfolding view_metadata
view_stands m forms held =
    let gets = view_gets m in
    let least : 1 ≤ m.format_version = omega (arith, forms.version) in
    let most : m.format_version ≤ 1 = omega (arith, forms.version) in
    let kept : All IsKeptVersion m.versions = λ k d inside. record
    { form = forms.versions k d inside; held = held.versions k d inside } in (
      tt,
      view_is_object m,
      (
        m.current_version_id,
        (_, gets.current, objects.up_to 2147483647 m.current_version_id forms.current),
        (
          m.format_version,
          (_, gets.format, objects.within 1 1 m.format_version least most),
          (
            m.location,
            (_, gets.location, refl),
            (
              m.properties,
              (_, gets.properties, objects.pairs_read m.properties held.properties),
              (
                m.schemas,
                (_, gets.schemas, objects.list_read numbered_schema.stands schema_json IsSchema schema_read m.schemas forms.schemas),
                (
                  m.version_log,
                  (
                    _,
                    gets.log,
                    objects.list_read version_log_entry.stands version_log_entry_json IsVersionLogEntry log_entry_read
                        m.version_log forms.log,
                  ),
                  (
                    m.versions,
                    (
                      _,
                      gets.versions,
                      objects.list_read view_version.stands view_version_json IsKeptVersion version_read m.versions kept,
                    ),
                    (m.view_uuid, (_, gets.uuid, uuid_read m.view_uuid held.uuid), refl),
                  ),
                ),
              ),
            ),
          ),
        ),
      ),
    )

pub printed_is_read : (m : ViewMetadata) → HasViewForms m → IsHeldView m → view_metadata.read (view_json m) ≡ Ok m
printed_is_read m forms held = view_metadata.exact.complete (view_json m) m (view_stands m forms held)

-- so is a text that is read as what is printed
pub text_is_read : (m : ViewMetadata) (d : Data) (text : List ℕ) → HasViewForms m → IsHeldView m → d ≡ view_json m
    → depth d ≤ max_depth → IsUtf8 text → (depth d ≤ max_depth → read text ≡ Some d)
    → body view_metadata.read text ≡ Ok m
text_is_read m d text forms held is nests utf8 back =
    (bodies_exact view_metadata.exact).complete text m
    (view_json m, utf8, back nests ∙ ap Some is, view_is_object m, view_stands m forms held)
