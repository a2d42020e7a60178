-- That the metadata of a new view is valid.
use Rattle.std.proofs.Common.{ℕ, List, [], ◌∷◌, refl, lit<, lit≤}
use Rattle.std.specs.List.{Contains}
use Rattle.pol_properties.specs.declared.property.Property.{Property}
use Rattle.pol_meta.proofs.ValidLemmas.{alone, holds_alone, schema_form}
use Rattle.pol_meta.specs.Creation.{first_schema}
use Rattle.pol_meta.specs.Valid.{IsSchema, schema_ids}
use Rattle.pol_meta.specs.declared.schema.Schema.{Schema}
use Rattle.pol_views.specs.Creation.{IsViewAskedFor, created_view, first_version}
use Rattle.pol_views.specs.Valid.{IsValidView, IsVersionLogEntry, IsViewVersion}
use Rattle.pol_views.specs.declared.version.UnboundVersion.{UnboundVersion}
use Rattle.pol_views.specs.declared.version.ViewVersion.{ViewVersion}

pub created_valid : (uuid location : List ℕ) (schema : Schema) (version : UnboundVersion) (properties : List Property) (moment : ℕ)
    → IsViewAskedFor schema version moment → IsValidView (created_view uuid location schema version properties moment)
unfolding created_view
created_valid uuid location schema version properties moment asked = record {
  forms = record {
    current = lit≤ tt;
    version = refl;
    schemas = holds_alone IsSchema (first_schema schema) (schema_form schema asked.schema_form);
    log = holds_alone IsVersionLogEntry (record { timestamp_ms = moment; version_id = 1 })
        (record { time = asked.time; version = lit≤ tt });
    versions = holds_alone IsViewVersion (first_version version)
        (record { id = lit≤ tt; time = asked.version_time; schema = lit≤ tt });
  };
  ids = record { schemas = alone 0; versions = alone 1 };
  members = record {
    current = (0, lit< tt, refl);
    schemas = holds_alone (λ (one : ViewVersion). Contains (schema_ids (first_schema schema ∷ [])) one.schema_id)
        (first_version version) (0, lit< tt, refl);
  };
}
