-- That the metadata of a new view weighs as much as what the view is asked for with, and the entry of its log.
use Rattle.std.proofs.Common.{◌≡◌, ℕ, List, arith}
use Rattle.pol_properties.specs.declared.property.Property.{Property}
use Rattle.pol_meta.specs.declared.schema.Schema.{Schema}
use Rattle.pol_views.specs.Creation.{created_view}
use Rattle.pol_views.specs.Weight.{asked_view_weight, view_weight}
use Rattle.pol_views.specs.declared.version.UnboundVersion.{UnboundVersion}

pub created_weight : (uuid location : List ℕ) (schema : Schema) (version : UnboundVersion) (properties : List Property) (moment : ℕ)
    → view_weight (created_view uuid location schema version properties moment)
    ≡ asked_view_weight location schema version properties
unfolding created_view
created_weight uuid location schema version properties moment = omega arith
