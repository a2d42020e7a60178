-- What a view is asked for with has the forms of its parts.
use Rattle.pol_meta.specs.Valid.{IsLong, IsSchema}
use Rattle.pol_meta.specs.declared.schema.Schema.{Schema}
use Rattle.pol_views.specs.declared.version.UnboundVersion.{UnboundVersion}

abbrev pub HaveViewForms : Schema → UnboundVersion → Type 0
HaveViewForms schema version = IsSchema schema × IsLong version.timestamp_ms
