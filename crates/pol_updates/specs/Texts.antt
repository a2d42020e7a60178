-- How an update names the uuid and the format version, and sets the location and the properties.
use Rattle.std.specs.Prelude.{◌==◌, ℕ, List, Result, Ok, Err, if◌then◌else◌}
use Rattle.std.specs.List.{fold}
use Rattle.std.specs.Str.{bytes_eq}
use Rattle.pol_meta.specs.declared.why.Why.{Why}
use Rattle.pol_meta.specs.declared.why.Why.TheVariants.{FormatVersion, UuidDiffers}
use Rattle.pol_properties.specs.Properties.{with_value, without_key}
use Rattle.pol_properties.specs.declared.property.Property.{Property}
use Rattle.pol_drafts.specs.declared.draft.Draft.{Draft}

-- the table has this uuid already
abbrev pub assign_uuid : List ℕ → Draft → Result Draft Why
assign_uuid uuid d = if bytes_eq d.meta.table_uuid uuid then Ok d else Err UuidDiffers

-- the one format version that is served
abbrev pub upgrade_format_version : ℕ → Draft → Result Draft Why
upgrade_format_version version d = if version == 2 then Ok d else Err FormatVersion

abbrev pub with_location : List ℕ → Draft → Draft
with_location location d = record d { meta = record d.meta { location = location } }

-- the pairs once each of these is set, and once each of these keys is taken away
abbrev pub all_set : List Property → List Property → List Property
all_set updates pairs = fold (λ made pair. with_value pair made) pairs updates

abbrev pub all_removed : List (List ℕ) → List Property → List Property
all_removed removals pairs = fold (λ made key. without_key key made) pairs removals

abbrev pub with_values : List Property → Draft → Draft
with_values updates d = record d {
  meta = record d.meta { properties = all_set updates d.meta.properties };
}

abbrev pub without_keys : List (List ℕ) → Draft → Draft
without_keys removals d = record d {
  meta = record d.meta { properties = all_removed removals d.meta.properties };
}
