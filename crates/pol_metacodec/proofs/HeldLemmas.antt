-- A schema and a metadata that keep the rules of the Iceberg table spec have a form: each of their fields has one.
use Rattle.std.proofs.Common.{◌≡◌, ℕ, List, [], ◌∷◌, sym, subst, arith}
use Rattle.std.specs.Prelude.{⊤}
use Rattle.std.specs.List.{AllByRecursion}
use Rattle.pol_forms.specs.Enums.{IfPresent, optional}
use Rattle.pol_forms.specs.Forms.{bytes_of, list, short_number, text}
use Rattle.pol_forms.specs.Names.{properties}
use Rattle.pol_meta.specs.Valid.{HasForms, IsLong, IsMetadataLogEntry, IsNamedRef, IsPartitionSpec, IsSchema, IsSnapshot, IsSnapshotLogEntry, IsSortOrder, IsValid}
use Rattle.pol_meta.specs.declared.metadata.TableMetadata.{TableMetadata}
use Rattle.pol_meta.specs.declared.schema.Schema.{Schema}
use Rattle.pol_columnforms.specs.Columns.{AreColumns, columns}
use Rattle.pol_partcodec.proofs.HeldLemmas.{column_id_between, each, id_between, if_present, long_between}
use Rattle.pol_partcodec.specs.Numbers.{IsBetween, column_id, id, last_field_id, long, version}
use Rattle.pol_partcodec.specs.Parts as parts
use Rattle.pol_metacodec.specs.Metadata.{chosen, chosen_in, lasts, lasts_in, listings, listings_in, metadata, metadata_fields, others, others_in, schema, schema_fields}

any_numbers : (numbers : List ℕ) → AllByRecursion (λ number. ⊤) numbers
any_numbers [] = tt
any_numbers (number ∷ numbers) = (tt, any_numbers numbers)

pub schema_held : (one : Schema) → (IsBetween 0 2147483647 one.schema_id → id.holds one.schema_id)
    → (AllByRecursion (λ number. ⊤) one.identifier_field_ids → (list short_number).holds one.identifier_field_ids)
    → (AreColumns one.fields → columns.holds one.fields)
    → IsSchema one → schema.holds one
unfolding schema schema_fields
schema_held one own identifiers fields right = (
  (
    own (id_between one.schema_id right.id),
    (
      identifiers (any_numbers one.identifier_field_ids),
      fields (record { nested = right.nested; each = right.columns }),
    ),
  ),
  record { differ = right.differ; identified = right.identified },
)

version_between : (n : ℕ) → n ≡ 2 → IsBetween 2 2 n
version_between n is = subst (λ (m : ℕ). IsBetween 2 2 m) (sym is) (record { above = omega arith; below = omega arith })

pub chosen_held : (meta : TableMetadata) → (IsBetween 0 2147483647 meta.current_schema_id → id.holds meta.current_schema_id)
    → (IfPresent (IsBetween 0 9223372036854775807) meta.current_snapshot_id → (optional long).holds meta.current_snapshot_id)
    → (IsBetween 0 2147483647 meta.default_sort_order_id → id.holds meta.default_sort_order_id)
    → (IsBetween 0 2147483647 meta.default_spec_id → id.holds meta.default_spec_id)
    → (IsBetween 2 2 meta.format_version → version.holds meta.format_version)
    → HasForms meta → chosen.holds (chosen_in meta)
unfolding chosen
chosen_held meta one two three four five right = (
  one (id_between meta.current_schema_id right.current_schema),
  (
    two (if_present IsLong (IsBetween 0 9223372036854775807) long_between meta.current_snapshot_id right.current_snapshot),
    (
      three (id_between meta.default_sort_order_id right.default_order),
      (
        four (id_between meta.default_spec_id right.default_spec),
        five (version_between meta.format_version right.version),
      ),
    ),
  ),
)

pub lasts_held : (meta : TableMetadata) → (IsBetween 0 2147483447 meta.last_column_id → column_id.holds meta.last_column_id)
    → (IsBetween 999 2147483647 meta.last_partition_id → last_field_id.holds meta.last_partition_id)
    → (IsBetween 0 9223372036854775807 meta.last_sequence_number → long.holds meta.last_sequence_number)
    → (IsBetween 0 9223372036854775807 meta.last_updated_ms → long.holds meta.last_updated_ms)
    → (⊤ → text.holds meta.location)
    → HasForms meta → lasts.holds (lasts_in meta)
unfolding lasts
lasts_held meta one two three four five right = (
  one (column_id_between meta.last_column_id right.column),
  (
    two (record { above = right.partition_least; below = right.partition_most }),
    (
      three (long_between meta.last_sequence_number right.sequence),
      (four (long_between meta.last_updated_ms right.updated), five tt),
    ),
  ),
)

pub listings_held : (meta : TableMetadata) → (AllByRecursion IsMetadataLogEntry meta.metadata_log → (list parts.metadata_log_entry).holds meta.metadata_log)
    → (AllByRecursion IsPartitionSpec meta.partition_specs → (list parts.partition_spec).holds meta.partition_specs)
    → (⊤ → properties.holds meta.properties)
    → (AllByRecursion IsNamedRef meta.refs → (list parts.named_ref).holds meta.refs)
    → (AllByRecursion IsSchema meta.schemas → (list schema).holds meta.schemas)
    → HasForms meta → listings.holds (listings_in meta)
unfolding listings
listings_held meta one two three four five right = (
  one (each IsMetadataLogEntry meta.metadata_log right.metadata_log),
  (
    two (each IsPartitionSpec meta.partition_specs right.specs),
    (
      three tt,
      (four (each IsNamedRef meta.refs right.refs), five (each IsSchema meta.schemas right.schemas)),
    ),
  ),
)

pub others_held : (meta : TableMetadata) → (AllByRecursion IsSnapshotLogEntry meta.snapshot_log → (list parts.snapshot_log_entry).holds meta.snapshot_log)
    → (AllByRecursion IsSnapshot meta.snapshots → (list parts.snapshot).holds meta.snapshots)
    → (AllByRecursion IsSortOrder meta.sort_orders → (list parts.sort_order).holds meta.sort_orders)
    → (⊤ → (bytes_of 16).holds meta.table_uuid)
    → HasForms meta → others.holds (others_in meta)
unfolding others
others_held meta one two three four right = (
  one (each IsSnapshotLogEntry meta.snapshot_log right.snapshot_log),
  (
    two (each IsSnapshot meta.snapshots right.snapshots),
    (three (each IsSortOrder meta.sort_orders right.orders), four tt),
  ),
)

pub metadata_held : (meta : TableMetadata) → (HasForms meta → chosen.holds (chosen_in meta)) → (HasForms meta → lasts.holds (lasts_in meta))
    → (HasForms meta → listings.holds (listings_in meta)) → (HasForms meta → others.holds (others_in meta))
    → IsValid meta → metadata.holds meta
unfolding metadata metadata_fields
metadata_held meta one two three four right = (
  (one right.forms, (two right.forms, (three right.forms, four right.forms))),
  let forms : HasForms meta = right.forms in
      record { ordered = forms.ordered; ids = right.ids; members = right.members },
)
