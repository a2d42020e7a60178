-- When a requirement of a commit holds of a view's metadata (Iceberg REST OpenAPI, ViewRequirement).
use Rattle.std.specs.Prelude.{Bool}
use Rattle.std.specs.Str.{bytes_eq}
use Rattle.pol_views.specs.declared.metadata.ViewMetadata.{ViewMetadata}
use Rattle.pol_views.specs.declared.requirement.ViewRequirement.{ViewRequirement}
use Rattle.pol_views.specs.declared.requirement.ViewRequirement.TheVariants.{AssertViewUuid}

abbrev pub is_met : ViewMetadata → ViewRequirement → Bool
is_met meta (AssertViewUuid uuid) = bytes_eq meta.view_uuid uuid
