-- Rules on tables.
use Rattle.std.specs.Prelude.{ℕ, Bool, false, not, ◌||◌, List, [], ◌∷◌, ◌++◌, Option, Some, None, is_none, codes}
use Rattle.std.specs.List.{list_any}
use Rattle.std.specs.Option.{option_map}
use Rattle.std.specs.Str.{bytes_eq}
use Rattle.pol_commands.specs.declared.create_table.CreateTable.{CreateTable}
use Rattle.pol_commands.specs.declared.reply.OptionName.TheVariants as option
use Rattle.pol_commands.specs.declared.reply.Refusal.{Refusal}
use Rattle.pol_commands.specs.declared.reply.Refusal.TheVariants.{BadLocation, LocationOutside, LocationOverlap, NoTable, Unsupported, UpdateRefused}
use Rattle.pol_content.specs.Chain.{table_at}
use Rattle.pol_content.specs.declared.rows.CatalogRow.{CatalogRow}
use Rattle.pol_locations.specs.Location.{is_cover, location_refusal, segments_of}
use Rattle.pol_meta.specs.Creation.{create_refusal}
use Rattle.pol_names.specs.declared.identifier.Identifier.{Identifier}
use Rattle.pol_properties.specs.Properties.{value_of}
use Rattle.pol_properties.specs.declared.property.Property.{Property}
use Rattle.pol_table_rows.specs.Tables.{overlapping}
use Rattle.pol_state.specs.Bounds.{refuse_if}
use Rattle.pol_state.specs.Rows.{Rows}
use Rattle.pol_rules.specs.Rules.{bad_text}

-- no table of the catalogue has this namespace and name
unfoldable pub no_table : Rows → Identifier → CatalogRow → Option Refusal
no_table s identifier catalog =
    refuse_if (is_none (table_at catalog.id identifier.namespace identifier.name s.content)) (NoTable identifier)

-- what a new table is to be made of is refused
unfoldable pub bad_creation : CreateTable → Option Refusal
bad_creation request =
    option_map (UpdateRefused 0 0) (create_refusal request.schema request.partition_spec request.write_order)

-- the default location of a table or a view: the catalogue's base, and below it the levels and the name
abbrev pub default_location : CatalogRow → List (List ℕ) → List ℕ → List (List ℕ)
default_location catalog levels name = catalog.base ++ (levels ++ name ∷ [])

-- the location of a new table or view: that of the text that is given, or else the default one
abbrev pub location_by : Option (List ℕ) → List (List ℕ) → List (List ℕ)
location_by None usual = usual
location_by (Some text) usual = segments_of text

abbrev pub location_asked : List (List ℕ) → Option (List ℕ) → List ℕ → CatalogRow → List (List ℕ)
location_asked levels given name catalog = location_by given (default_location catalog levels name)

-- the text that is given is no location, or else the default location is none
abbrev pub bad_location_by : Option (List ℕ) → List (List ℕ) → Option Refusal
bad_location_by None usual = option_map (BadLocation 0) (location_refusal usual)
bad_location_by (Some text) usual = bad_text text

unfoldable pub bad_location : List (List ℕ) → Option (List ℕ) → List ℕ → CatalogRow → Option Refusal
bad_location levels given name catalog = bad_location_by given (default_location catalog levels name)

-- neither the catalogue's base nor a location that is allowed beside it covers the location
abbrev pub is_allowed : List (List ℕ) → CatalogRow → Bool
is_allowed location catalog = is_cover catalog.base location || list_any (λ allowed. is_cover allowed location) catalog.allowed

unfoldable pub location_outside : List (List ℕ) → CatalogRow → Option Refusal
location_outside location catalog = refuse_if (not (is_allowed location catalog)) (LocationOutside location)

-- the location of a table and that of another one, in whatever catalogue, overlap; of several the one of the least id
-- is told
unfoldable pub location_overlap : Rows → List (List ℕ) → Option Refusal
location_overlap s location =
    option_map (λ row. LocationOverlap location row.location) (overlapping location [] s.content.tables)

-- a table is only to be staged
unfoldable pub staged : Bool → Option Refusal
staged stage_create = refuse_if stage_create (Unsupported option.StageCreate)

-- the key by which properties ask for a format version, and one that isn't 2
abbrev pub format_key : List ℕ
format_key = codes "format-version"

abbrev pub is_other_format : Option (List ℕ) → Bool
is_other_format None = false
is_other_format (Some version) = not (bytes_eq version (codes "2"))

unfoldable pub other_format : List Property → Option Refusal
other_format properties = refuse_if (is_other_format (value_of format_key properties)) (Unsupported option.FormatVersion)
