-- A metadata of a view that keeps the rules of the Iceberg view spec has a form: each of its parts has one.
use Rattle.std.proofs.Common.{◌≡◌, ℕ, List, [], ◌∷◌, Option, Some, None, sym, subst, arith}
use Rattle.std.specs.Prelude.{⊤}
use Rattle.std.specs.List.{AllByRecursion}
use Rattle.pol_forms.specs.Enums.{IfPresent, optional}
use Rattle.pol_forms.specs.Forms.{bytes_of, list, text}
use Rattle.pol_forms.specs.Names.{namespace, properties}
use Rattle.pol_meta.specs.Valid.{IsSchema}
use Rattle.pol_metacodec.specs.Metadata.{schema}
use Rattle.pol_partcodec.proofs.HeldLemmas.{each, id_between, long_between}
use Rattle.pol_partcodec.specs.Numbers.{IsBetween, id, long}
use Rattle.pol_views.specs.Valid.{HasViewForms, IsValidView, IsVersionLogEntry, IsViewVersion}
use Rattle.pol_views.specs.declared.log.VersionLogEntry.{VersionLogEntry}
use Rattle.pol_views.specs.declared.metadata.ViewMetadata.{ViewMetadata}
use Rattle.pol_views.specs.declared.version.Representation.{Representation}
use Rattle.pol_views.specs.declared.version.ViewVersion.{ViewVersion}
use Rattle.pol_viewcodec.specs.Views.{heads, heads_in, members, members_in, representation, version_log_entry, view, view_fields, view_format, view_version}

pub version_log_entry_held : (entry : VersionLogEntry) → (IsBetween 0 9223372036854775807 entry.timestamp_ms → long.holds entry.timestamp_ms)
    → (IsBetween 0 2147483647 entry.version_id → id.holds entry.version_id)
    → IsVersionLogEntry entry → version_log_entry.holds entry
unfolding version_log_entry
version_log_entry_held entry time own right =
    (time (long_between entry.timestamp_ms right.time), own (id_between entry.version_id right.version))

any_representations : (these : List Representation) → AllByRecursion (λ one. ⊤) these
any_representations [] = tt
any_representations (one ∷ these) = (tt, any_representations these)

any_text : (given : Option (List ℕ)) → IfPresent (λ one. ⊤) given
any_text None = tt
any_text (Some one) = tt

pub view_version_held : (one : ViewVersion) → (IsBetween 0 2147483647 one.version_id → id.holds one.version_id)
    → (IsBetween 0 9223372036854775807 one.timestamp_ms → long.holds one.timestamp_ms)
    → (IsBetween 0 2147483647 one.schema_id → id.holds one.schema_id)
    → (⊤ → properties.holds one.summary)
    → (AllByRecursion (λ query. ⊤) one.representations → (list representation).holds one.representations)
    → (IfPresent (λ name. ⊤) one.default_catalog → (optional text).holds one.default_catalog)
    → (⊤ → namespace.holds one.default_namespace)
    → IsViewVersion one → view_version.holds one
unfolding view_version
view_version_held one own time schema summary queries catalog levels right = (
  own (id_between one.version_id right.id),
  (
    time (long_between one.timestamp_ms right.time),
    (
      schema (id_between one.schema_id right.schema),
      (
        summary tt,
        (queries (any_representations one.representations), (catalog (any_text one.default_catalog), levels tt)),
      ),
    ),
  ),
)

first_between : (n : ℕ) → n ≡ 1 → IsBetween 1 1 n
first_between n is = subst (λ (m : ℕ). IsBetween 1 1 m) (sym is) (record { above = omega arith; below = omega arith })

pub heads_held : (meta : ViewMetadata) → (IsBetween 0 2147483647 meta.current_version_id → id.holds meta.current_version_id)
    → (IsBetween 1 1 meta.format_version → view_format.holds meta.format_version)
    → (⊤ → text.holds meta.location) → (⊤ → properties.holds meta.properties)
    → HasViewForms meta → heads.holds (heads_in meta)
unfolding heads
heads_held meta one two three four right =
    (one (id_between meta.current_version_id right.current), (two (first_between meta.format_version right.version), (three tt, four tt)))

pub members_held : (meta : ViewMetadata) → (AllByRecursion IsSchema meta.schemas → (list schema).holds meta.schemas)
    → (AllByRecursion IsVersionLogEntry meta.version_log → (list version_log_entry).holds meta.version_log)
    → (AllByRecursion IsViewVersion meta.versions → (list view_version).holds meta.versions)
    → (⊤ → (bytes_of 16).holds meta.view_uuid)
    → HasViewForms meta → members.holds (members_in meta)
unfolding members
members_held meta one two three four right = (
  one (each IsSchema meta.schemas right.schemas),
  (
    two (each IsVersionLogEntry meta.version_log right.log),
    (three (each IsViewVersion meta.versions right.versions), four tt),
  ),
)

pub view_held : (meta : ViewMetadata) → (HasViewForms meta → heads.holds (heads_in meta)) → (HasViewForms meta → members.holds (members_in meta))
    → IsValidView meta → view.holds meta
unfolding view view_fields
view_held meta one two right = ((one right.forms, two right.forms), record { ids = right.ids; members = right.members })
