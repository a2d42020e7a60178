-- How an update names the uuid and the format version of a view, and sets its location and its properties.
use Rattle.std.specs.Prelude.{◌==◌, ℕ, List, Result, Ok, Err, if◌then◌else◌}
use Rattle.std.specs.Str.{bytes_eq}
use Rattle.pol_meta.specs.declared.why.Why.{Why}
use Rattle.pol_meta.specs.declared.why.Why.TheVariants.{FormatVersion, UuidDiffers}
use Rattle.pol_properties.specs.declared.property.Property.{Property}
use Rattle.pol_updates.specs.Texts.{all_removed, all_set}
use Rattle.pol_views.specs.declared.draft.ViewDraft.{ViewDraft}

-- the view has this uuid already
abbrev pub assign_uuid : List ℕ → ViewDraft → Result ViewDraft Why
assign_uuid uuid d = if bytes_eq d.meta.view_uuid uuid then Ok d else Err UuidDiffers

-- the one format version that is served
abbrev pub upgrade_format_version : ℕ → ViewDraft → Result ViewDraft Why
upgrade_format_version version d = if version == 1 then Ok d else Err FormatVersion

abbrev pub with_location : List ℕ → ViewDraft → ViewDraft
with_location location d = record d { meta = record d.meta { location = location } }

-- the pairs are set, and the keys are taken away, as of a table
abbrev pub with_values : List Property → ViewDraft → ViewDraft
with_values updates d = record d {
  meta = record d.meta { properties = all_set updates d.meta.properties };
}

abbrev pub without_keys : List (List ℕ) → ViewDraft → ViewDraft
without_keys removals d = record d {
  meta = record d.meta { properties = all_removed removals d.meta.properties };
}
