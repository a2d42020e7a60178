-- What updates of views weigh: the lengths of all their texts, and 64 for each update and for each field and property in
-- it. One that isn't served weighs 64, whatever its name.
use Rattle.std.specs.Prelude.{ℕ, ◌+◌, List, length, sum_by}
use Rattle.pol_meta.specs.Weight.{properties_weight, schema_weight}
use Rattle.pol_views.specs.Weight.{unbound_version_weight}
use Rattle.pol_views.specs.declared.update.ViewUpdate.{ViewUpdate}
use Rattle.pol_views.specs.declared.update.ViewUpdate.TheVariants.{AssignUuid, UpgradeFormatVersion, AddSchema, SetLocation, SetProperties, RemoveProperties, AddViewVersion, SetCurrentViewVersion, Unsupported}

abbrev pub view_content_weight : ViewUpdate → ℕ
view_content_weight (AssignUuid uuid) = 0
view_content_weight (UpgradeFormatVersion version) = 0
view_content_weight (AddSchema schema) = schema_weight schema
view_content_weight (SetLocation location) = length location
view_content_weight (SetProperties updates) = properties_weight updates
view_content_weight (RemoveProperties removals) = sum_by length removals
view_content_weight (AddViewVersion version) = unbound_version_weight version
view_content_weight (SetCurrentViewVersion member) = 0
view_content_weight (Unsupported action) = 0

abbrev pub view_update_weight : ViewUpdate → ℕ
view_update_weight update = 64 + view_content_weight update

abbrev pub view_updates_weight : List ViewUpdate → ℕ
view_updates_weight updates = sum_by view_update_weight updates
