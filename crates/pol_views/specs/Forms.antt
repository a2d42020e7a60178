-- What reading a commit of a view promises of its updates: each part has its form.
use Rattle.std.specs.Bool.{⊤}
use Rattle.pol_meta.specs.Valid.{IsLong, IsSchema}
use Rattle.pol_views.specs.declared.update.ViewUpdate.{ViewUpdate}
use Rattle.pol_views.specs.declared.update.ViewUpdate.TheVariants.{AssignUuid, UpgradeFormatVersion, AddSchema, SetLocation, SetProperties, RemoveProperties, AddViewVersion, SetCurrentViewVersion, Unsupported}

abbrev pub HasViewForm : ViewUpdate → Type 0
HasViewForm (AssignUuid uuid) = ⊤
HasViewForm (UpgradeFormatVersion version) = ⊤
HasViewForm (AddSchema schema) = IsSchema schema
HasViewForm (SetLocation location) = ⊤
HasViewForm (SetProperties updates) = ⊤
HasViewForm (RemoveProperties removals) = ⊤
HasViewForm (AddViewVersion version) = IsLong version.timestamp_ms
HasViewForm (SetCurrentViewVersion member) = ⊤
HasViewForm (Unsupported action) = ⊤
