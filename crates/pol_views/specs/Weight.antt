-- What a view's metadata weighs, and what a view is asked for with: the lengths of all its texts, and 64 for each field
-- of a schema, entry of the log and property.
use Rattle.std.specs.Prelude.{ℕ, ◌+◌, ◌*◌, List, Option, length, sum_by}
use Rattle.std.specs.Option.{option_map_or}
use Rattle.pol_properties.specs.declared.property.Property.{Property}
use Rattle.pol_meta.specs.Weight.{pairs_weight, properties_weight, schema_weight}
use Rattle.pol_meta.specs.declared.schema.Schema.{Schema}
use Rattle.pol_views.specs.declared.metadata.ViewMetadata.{ViewMetadata}
use Rattle.pol_views.specs.declared.version.Representation.{Representation}
use Rattle.pol_views.specs.declared.version.UnboundVersion.{UnboundVersion}
use Rattle.pol_views.specs.declared.version.ViewVersion.{ViewVersion}

abbrev pub representation_weight : Representation → ℕ
representation_weight representation = length representation.sql + length representation.dialect

-- the texts of a version: its summary, representations, default catalogue and default namespace
abbrev pub texts_weight : List Property → List Representation → Option (List ℕ) → List (List ℕ) → ℕ
texts_weight summary representations catalog namespace =
    pairs_weight summary
    + sum_by representation_weight representations
    + option_map_or length catalog 0
    + sum_by length namespace

abbrev pub version_weight : ViewVersion → ℕ
version_weight version =
    texts_weight version.summary version.representations version.default_catalog version.default_namespace

-- the weight of a metadata
abbrev pub view_weight : ViewMetadata → ℕ
view_weight meta =
    length meta.location
    + properties_weight meta.properties
    + sum_by schema_weight meta.schemas
    + 64 * length meta.version_log
    + sum_by version_weight meta.versions

-- what a view is asked for with, and the entry of its log
abbrev pub unbound_version_weight : UnboundVersion → ℕ
unbound_version_weight version =
    texts_weight version.summary version.representations version.default_catalog version.default_namespace

abbrev pub asked_view_weight : List ℕ → Schema → UnboundVersion → List Property → ℕ
asked_view_weight location schema version properties =
    length location
    + properties_weight properties
    + schema_weight schema
    + 64
    + unbound_version_weight version
