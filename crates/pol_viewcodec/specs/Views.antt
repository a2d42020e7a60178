-- The forms of the metadata of views: each is its fields, in the order in which its JSON has them, and a rule that ties
-- the parts of a whole one.
use Rattle.std.specs.Prelude.{◌≡◌, ℕ, Bool, true, ◌&&◌, nat_eq, List, [], ◌∷◌, Contains, refl}
use Rattle.std.specs.Cmp.{nat_eq_equiv}
use Rattle.std.specs.List.{AllByRecursion, list_all}
use Rattle.std.proofs.lemmas.Bool.{and_from, and_parts}
use Rattle.std.proofs.lemmas.List.Elements.{All-from_recursion, recursion_from_All}
use Rattle.pol_forms.specs.Enums.{optional}
use Rattle.pol_forms.specs.Form.{Form}
use Rattle.pol_forms.specs.Forms.{bytes_of, list, mapped, ruled, text, ◌&◌}
use Rattle.pol_forms.specs.Names.{namespace, properties}
use Rattle.pol_properties.specs.declared.property.Property.{Property}
use Rattle.pol_meta.specs.Valid.{schema_ids}
use Rattle.pol_meta.specs.declared.schema.Schema.{Schema}
use Rattle.pol_views.specs.Valid.{HasOwnViewIds, NamesViewMembers, version_ids}
use Rattle.pol_views.specs.declared.log.VersionLogEntry.{VersionLogEntry}
use Rattle.pol_views.specs.declared.metadata.ViewMetadata.{ViewMetadata}
use Rattle.pol_views.specs.declared.version.Representation.{Representation}
use Rattle.pol_views.specs.declared.version.ViewVersion.{ViewVersion}
use Rattle.pol_partcodec.specs.Numbers.{id, long, short_between}
use Rattle.pol_columnforms.specs.Distinct.{are_distinct, distinct-told, told-distinct}
use Rattle.pol_metacodec.specs.Metadata.{schema}
use Rattle.pol_metacodec.specs.Whole.{all-told, among-told, is_among, told-all, told-among}

-- a query: its text, its dialect
unfoldable pub representation : Form Representation
representation = mapped (text & text)
    (λ fields. record { sql = fields.0; dialect = fields.1 })
    (λ one. (one.sql, one.dialect))
    (λ one. refl) (λ fields. refl)

-- a version: id, time, the schema's id, summary, queries, default catalogue, default namespace
unfoldable pub view_version : Form ViewVersion
view_version = mapped (id & long & id & properties & list representation & optional text & namespace)
    (λ fields. record {
      version_id = fields.0;
      timestamp_ms = fields.1.0;
      schema_id = fields.1.1.0;
      summary = fields.1.1.1.0;
      representations = fields.1.1.1.1.0;
      default_catalog = fields.1.1.1.1.1.0;
      default_namespace = fields.1.1.1.1.1.1;
    })
    (λ one. (one.version_id, (one.timestamp_ms, (one.schema_id, (one.summary, (one.representations, (one.default_catalog, one.default_namespace)))))))
    (λ one. refl) (λ fields. refl)

-- an entry of the log: the time, the version's id
unfoldable pub version_log_entry : Form VersionLogEntry
version_log_entry = mapped (long & id)
    (λ fields. record { timestamp_ms = fields.0; version_id = fields.1 })
    (λ entry. (entry.timestamp_ms, entry.version_id))
    (λ entry. refl) (λ fields. refl)

-- the version of the format: there is one
abbrev pub view_format : Form ℕ
view_format = short_between 1 1

-- whether each version's schema is there
abbrev pub has_schema : ViewMetadata → ViewVersion → Bool
has_schema meta version = is_among (schema_ids meta.schemas) version.schema_id

-- ids differ, and what is named is there
pub record IsWholeView (meta : ViewMetadata) : Type 0 where
  pub ids : HasOwnViewIds meta
  pub members : NamesViewMembers meta

abbrev pub is_whole_view : ViewMetadata → Bool
is_whole_view meta =
    are_distinct nat_eq (schema_ids meta.schemas)
    && (are_distinct nat_eq (version_ids meta.versions)
    && (is_among (version_ids meta.versions) meta.current_version_id && list_all (has_schema meta) meta.versions))

each_schema : (meta : ViewMetadata) (versions : List ViewVersion) → AllByRecursion (λ version. has_schema meta version ≡ true) versions
    → AllByRecursion (λ version. Contains (schema_ids meta.schemas) version.schema_id) versions
each_schema meta [] all = tt
each_schema meta (version ∷ versions) all =
    (among-told (schema_ids meta.schemas) version.schema_id all.0, each_schema meta versions all.1)

schema_each : (meta : ViewMetadata) (versions : List ViewVersion) → AllByRecursion (λ version. Contains (schema_ids meta.schemas) version.schema_id) versions
    → AllByRecursion (λ version. has_schema meta version ≡ true) versions
schema_each meta [] all = tt
schema_each meta (version ∷ versions) all =
    (told-among (schema_ids meta.schemas) version.schema_id all.0, schema_each meta versions all.1)

pub whole-told : (meta : ViewMetadata) → is_whole_view meta ≡ true → IsWholeView meta
whole-told meta passes =
    let one = and_parts (are_distinct nat_eq (schema_ids meta.schemas)) _ passes in
    let two = and_parts (are_distinct nat_eq (version_ids meta.versions)) _ one.1 in
    let three = and_parts (is_among (version_ids meta.versions) meta.current_version_id) _ two.1 in
    let each = recursion_from_All (λ version. has_schema meta version ≡ true) meta.versions (all-told (has_schema meta) meta.versions three.1) in record {
      ids = record {
        schemas = distinct-told nat_eq_equiv (schema_ids meta.schemas) one.0;
        versions = distinct-told nat_eq_equiv (version_ids meta.versions) two.0;
      };
      members = record {
        current = among-told (version_ids meta.versions) meta.current_version_id three.0;
        schemas = All-from_recursion (λ version. Contains (schema_ids meta.schemas) version.schema_id) meta.versions (each_schema meta meta.versions each);
      };
    }

pub told-whole : (meta : ViewMetadata) → IsWholeView meta → is_whole_view meta ≡ true
told-whole meta right =
    let each = recursion_from_All (λ version. Contains (schema_ids meta.schemas) version.schema_id) meta.versions right.members.schemas in
    and_from _ _ (told-distinct nat_eq_equiv (schema_ids meta.schemas) right.ids.schemas)
    (and_from _ _ (told-distinct nat_eq_equiv (version_ids meta.versions) right.ids.versions)
    (and_from _ _ (told-among (version_ids meta.versions) meta.current_version_id right.members.current)
    (told-all (has_schema meta) meta.versions (All-from_recursion (λ version. has_schema meta version ≡ true) meta.versions (schema_each meta meta.versions each)))))

-- the fields of a metadata in two groups: up to the properties, and behind them
abbrev pub Heads : Type 0
Heads = ℕ × (ℕ × ((List ℕ) × List Property))

abbrev pub Members : Type 0
Members = (List Schema) × ((List VersionLogEntry) × ((List ViewVersion) × List ℕ))

unfoldable pub heads : Form Heads
heads = id & view_format & text & properties

unfoldable pub members : Form Members
members = list schema & list version_log_entry & list view_version & bytes_of 16

abbrev pub heads_in : ViewMetadata → Heads
heads_in meta = (meta.current_version_id, (meta.format_version, (meta.location, meta.properties)))

abbrev pub members_in : ViewMetadata → Members
members_in meta = (meta.schemas, (meta.version_log, (meta.versions, meta.view_uuid)))

abbrev pub view_of : Heads → Members → ViewMetadata
view_of first second = record {
  current_version_id = first.0;
  format_version = first.1.0;
  location = first.1.1.0;
  properties = first.1.1.1;
  schemas = second.0;
  version_log = second.1.0;
  versions = second.1.1.0;
  view_uuid = second.1.1.1;
}

unfoldable pub view_fields : Form ViewMetadata
view_fields = mapped (heads & members) (λ groups. view_of groups.0 groups.1) (λ meta. (heads_in meta, members_in meta)) (λ meta. refl) (λ groups. refl)

unfoldable pub view : Form ViewMetadata
view = ruled view_fields IsWholeView is_whole_view (λ meta held passes. whole-told meta passes) told-whole
