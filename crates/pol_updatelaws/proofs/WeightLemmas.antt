-- That a list of updates keeps the bound on the weight of a metadata.
use Rattle.std.proofs.Common.{◌≡◌, ◌≤◌, ◌<◌, ◌+◌, ◌-◌, ◌*◌, ◌^◌, ◌==◌, ◌++◌, ◌∷◌, [], ℕ, Bool, true, false, List, codes, length, min, not, Option, None, Some, Ok, if◌then◌else◌, nat_eq, nat_lt, refl, subst, arith, lit<}
use Rattle.std.specs.Fmt.{decimal}
use Rattle.std.specs.List.{starts_with, suffix_len, sum_by}
use Rattle.std.specs.Ordering.{is_gt, is_lt}
use Rattle.std.specs.Str.{bytes_eq}
use Rattle.std.specs.declared.cmp.Ordering.{Ordering}
use Rattle.std.specs.declared.cmp.Ordering.TheVariants.{Less, Equal, Greater}
use Rattle.std.proofs.lemmas.Bool.{ltb-false}
use Rattle.std.proofs.lemmas.Fmt.{length-decimal-le}
use Rattle.std.proofs.lemmas.List.{length-append, length-drop}
use Rattle.std.proofs.lemmas.List.Sums.{sum_by-cons, sum_by_push}
use Rattle.uuid.specs.Text.{hyphenated_text, lower}
use Rattle.uuid.proofs.TextLemmas.{by_index_length}
use Rattle.pol_properties.specs.Properties as properties
use Rattle.pol_properties.specs.Properties.{with_value, without_key}
use Rattle.pol_properties.specs.declared.property.Property.{Property}
use Rattle.pol_locations.specs.Location.{location_refusal, location_text, parse_refusal, scheme, segments_of, segments_refusal}
use Rattle.pol_locations.specs.declared.refused.LocationRefused.{LocationRefused}
use Rattle.pol_locations.specs.declared.refused.LocationRefused.TheVariants.{BadScheme, EmptySegment, TooLong}
use Rattle.pol_drafts.specs.Drafts.{begun}
use Rattle.pol_drafts.specs.Ids.{has_id}
use Rattle.pol_drafts.specs.Partitions.{asked_fields, bound_fields, ids_of}
use Rattle.pol_drafts.specs.declared.draft.Draft.{Draft}
use Rattle.pol_meta.specs.Creation.{bound}
use Rattle.pol_meta.specs.FileNames.{file_text, metadata_file, zeros_before}
use Rattle.pol_meta.specs.Weight.{log_entry_weight, metadata_weight, named_ref_weight, pair_weight, pairs_weight, partition_field_weight, partition_spec_weight, schema_weight, snapshot_weight, sort_order_weight, unbound_field_weight}
use Rattle.pol_meta.specs.declared.log.MetadataLogEntry.{MetadataLogEntry}
use Rattle.pol_meta.specs.declared.metadata.TableMetadata.{TableMetadata}
use Rattle.pol_meta.specs.declared.partition.PartitionField.{PartitionField}
use Rattle.pol_meta.specs.declared.partition.UnboundField.{UnboundField}
use Rattle.pol_meta.specs.declared.partition.UnboundSpec.{UnboundSpec}
use Rattle.pol_meta.specs.declared.reference.SnapshotRef.{SnapshotRef}
use Rattle.pol_meta.specs.declared.why.Why.TheVariants.{FormatVersion, UuidDiffers}
use Rattle.pol_updates.specs.Snapshots.{compared, main, with_current_snapshot, with_named_ref, with_ref, with_snapshot_ref, without_ref, without_snapshots}
use Rattle.pol_updates.specs.Texts.{all_removed, all_set, with_location, with_values, without_keys}
use Rattle.pol_updates.specs.Updates.{after_one, finished, is_there, settled, settled_by}
use Rattle.pol_updates.specs.declared.update.Update.{Update}
use Rattle.pol_updates.specs.declared.update.Update.TheVariants.{AssignUuid, UpgradeFormatVersion, AddSchema, SetCurrentSchema, AddSpec, SetDefaultSpec, AddSortOrder, SetDefaultSortOrder, AddSnapshot, SetSnapshotRef, RemoveSnapshots, RemoveSnapshotRef, SetLocation, SetProperties, RemoveProperties, RemovePartitionSpecs, RemoveSchemas, Unsupported}
use Rattle.pol_updatelaws.specs.Laws.{WeightKeepsBound}
use Rattle.pol_updatelaws.specs.Weights.{update_weight, updates_weight}
use Rattle.pol_updatelaws.proofs.ChainLemmas.{made_kept, same_kept}
use Rattle.pol_updatelaws.proofs.ListLemmas.{after_cases, each_sums}
use Rattle.pol_updatelaws.proofs.OrderLemmas.{add_order_cases, set_default_order_cases}
use Rattle.pol_updatelaws.proofs.SchemaLemmas.{add_schema_cases, remove_schemas_cases, set_current_schema_cases}
use Rattle.pol_updatelaws.proofs.SnapshotLemmas.{add_snapshot_cases, set_snapshot_ref_cases}
use Rattle.pol_updatelaws.proofs.SpecLemmas.{add_spec_cases, asked_are, remove_specs_cases, set_default_spec_cases}
use Rattle.pol_updatelaws.proofs.SumLemmas.{sum_drop, sum_filter, sum_of_each, sum_placed}

-- an order is not two
below_only : (order : Ordering) → is_lt order ≡ true → is_gt order ≡ false
below_only Less is = refl
below_only Equal is = refl
below_only Greater is = absurd (cc)

-- properties that are set and taken away
abbrev pub property_weight : Property → ℕ
property_weight pair = 64 + pair_weight pair

value_weighs : (pair : Property) (pairs : List Property)
    → sum_by property_weight (with_value pair pairs) ≤ sum_by property_weight pairs + property_weight pair
unfolding with_value
value_weighs pair pairs =
    sum_placed property_weight (λ kept. is_lt (properties.compared pair.key kept)) (λ kept. is_gt (properties.compared pair.key kept))
    pairs pair (λ kept. below_only (properties.compared pair.key kept))

pub all_set_weighs : (updates pairs : List Property)
    → sum_by property_weight (all_set updates pairs) ≤ sum_by property_weight pairs + sum_by property_weight updates
all_set_weighs [] pairs = omega arith
all_set_weighs (pair ∷ updates) pairs =
    omega (arith, value_weighs pair pairs, all_set_weighs updates (with_value pair pairs), sum_by-cons property_weight pair updates)

key_weighs : (key : List ℕ) (pairs : List Property)
    → sum_by property_weight (without_key key pairs) ≤ sum_by property_weight pairs
unfolding without_key
key_weighs key pairs = sum_filter property_weight (λ kept. not (properties.has_key key kept)) pairs

pub all_removed_weighs : (removals : List (List ℕ)) (pairs : List Property)
    → sum_by property_weight (all_removed removals pairs) ≤ sum_by property_weight pairs
all_removed_weighs [] pairs = omega arith
all_removed_weighs (key ∷ removals) pairs =
    omega (arith, key_weighs key pairs, all_removed_weighs removals (without_key key pairs))

-- fields that are bound weigh no more than those that are asked for
bound_weighs : (ids : List ℕ) (fields : List UnboundField)
    → sum_by partition_field_weight (bound_fields ids fields) ≤ sum_by unbound_field_weight fields
bound_weighs [] fields = omega arith
bound_weighs (id ∷ ids) [] = omega arith
bound_weighs (id ∷ ids) (field ∷ fields) =
    omega (
      arith,
      bound_weighs ids fields,
      sum_by-cons partition_field_weight (bound id field) (bound_fields ids fields),
      sum_by-cons unbound_field_weight field fields,
    )

asked_weigh : (spec : UnboundSpec) (d : Draft) (fields : List PartitionField) → asked_fields spec d ≡ Ok fields
    → sum_by partition_field_weight fields ≤ sum_by unbound_field_weight spec.fields
asked_weigh spec d fields asked =
    let ids = ids_of d.meta.partition_specs (d.meta.last_partition_id + 1) spec.fields in
    subst (λ made. sum_by partition_field_weight made ≤ sum_by unbound_field_weight spec.fields) (asked_are spec d fields asked)
    (bound_weighs ids spec.fields)

-- a draft that an update leads to weighs no more than that and the update
abbrev Grows : Draft → ℕ → Draft → Type 0
Grows d more next = metadata_weight next.meta ≤ metadata_weight d.meta + more

snapshots_removed : (ids : List ℕ) (d : Draft) → Grows d 64 (without_snapshots ids d)
unfolding without_snapshots
snapshots_removed ids d =
    omega (
      arith,
      sum_filter snapshot_weight (λ snapshot. not (has_id snapshot.snapshot_id ids)) d.meta.snapshots,
      sum_filter named_ref_weight (λ named. not (has_id named.reference.snapshot_id ids)) d.meta.refs,
    )

ref_removed : (name : List ℕ) (d : Draft) → Grows d (64 + length name) (without_ref name d)
unfolding without_ref
ref_removed name d =
    omega (arith, sum_filter named_ref_weight (λ named. not (bytes_eq named.name name)) d.meta.refs)

ref_set : (moment : ℕ) (name : List ℕ) (reference : SnapshotRef) (d : Draft)
    → Grows d (64 + (64 + length name)) (with_snapshot_ref moment name reference d)
ref_set moment name reference d = by_name (bytes_eq name main)
  where
    set : sum_by named_ref_weight (with_ref name reference d.meta.refs)
        ≤ sum_by named_ref_weight d.meta.refs + (64 + length name)
    set = sum_placed named_ref_weight (λ named. is_lt (compared name named)) (λ named. is_gt (compared name named)) d.meta.refs
        (record { name = name; reference = reference }) (λ named. below_only (compared name named))

    by_name : (is_main : Bool) → Grows d (64 + (64 + length name)) (if is_main
        then with_current_snapshot moment reference.snapshot_id (with_named_ref name reference d) else with_named_ref name reference d)
    by_name true =
        omega (
          arith,
          set,
          length-append d.meta.snapshot_log (record { snapshot_id = reference.snapshot_id; timestamp_ms = moment } ∷ []),
        )
    by_name false = omega (arith, set)

one_grows : (moment : ℕ) (update : Update) (d next : Draft) → after_one moment update d ≡ Ok next
    → Grows d (update_weight update) next
one_grows moment (AssignUuid uuid) d next told =
    same_kept (Grows d 64) (bytes_eq d.meta.table_uuid uuid) UuidDiffers d next (omega arith) told
one_grows moment (UpgradeFormatVersion version) d next told =
    same_kept (Grows d 64) (version == 2) FormatVersion d next (omega arith) told
one_grows moment (AddSchema schema) d next told =
    add_schema_cases (Grows d (64 + schema_weight schema)) schema d next told (λ id there. omega arith)
    (λ id is fits. omega (arith, sum_by_push schema_weight d.meta.schemas (record schema { schema_id = id })))
one_grows moment (SetCurrentSchema member) d next told =
    set_current_schema_cases (Grows d 64) member d next told (λ id named. omega arith)
one_grows moment (AddSpec spec) d next told =
    add_spec_cases (Grows d (64 + sum_by unbound_field_weight spec.fields)) spec d next told (λ fields id asked there. omega arith)
    (λ fields id asked is fits. omega (
      arith,
      asked_weigh spec d fields asked,
      sum_by_push partition_spec_weight d.meta.partition_specs (record { spec_id = id; fields = fields }),
    ))
one_grows moment (SetDefaultSpec member) d next told =
    set_default_spec_cases (Grows d 64) member d next told (λ id named. omega arith)
one_grows moment (AddSortOrder order) d next told =
    add_order_cases (Grows d (64 + 64 * length order.fields)) order d next told (λ id there. omega arith)
    (λ id none is fits. omega (arith, sum_by_push sort_order_weight d.meta.sort_orders (record { order_id = id; fields = order.fields })))
one_grows moment (SetDefaultSortOrder member) d next told =
    set_default_order_cases (Grows d 64) member d next told (λ id named. omega arith)
one_grows moment (AddSnapshot snapshot) d next told =
    add_snapshot_cases (Grows d (64 + snapshot_weight snapshot)) snapshot d next told
    (λ apart above. omega (arith, sum_by_push snapshot_weight d.meta.snapshots snapshot))
one_grows moment (SetSnapshotRef name reference) d next told =
    set_snapshot_ref_cases (Grows d (64 + (64 + length name))) moment name reference d next told
    (λ has. ref_set moment name reference d)
one_grows moment (RemoveSnapshots ids) d next told =
    made_kept (Grows d 64) (without_snapshots ids d) next (snapshots_removed ids d) told
one_grows moment (RemoveSnapshotRef name) d next told =
    made_kept (Grows d (64 + length name)) (without_ref name d) next (ref_removed name d) told
one_grows moment (SetLocation location) d next told =
    made_kept (Grows d (64 + length location)) (with_location location d) next (omega arith) told
one_grows moment (SetProperties updates) d next told =
    made_kept (Grows d (64 + (64 * length updates + pairs_weight updates))) (with_values updates d) next
    (omega (
      arith,
      all_set_weighs updates d.meta.properties,
      sum_of_each pair_weight updates,
      sum_of_each pair_weight d.meta.properties,
      sum_of_each pair_weight (all_set updates d.meta.properties),
    )) told
one_grows moment (RemoveProperties removals) d next told =
    made_kept (Grows d (64 + sum_by length removals)) (without_keys removals d) next
    (omega (
      arith,
      all_removed_weighs removals d.meta.properties,
      sum_of_each pair_weight d.meta.properties,
      sum_of_each pair_weight (all_removed removals d.meta.properties),
    )) told
one_grows moment (RemovePartitionSpecs ids) d next told =
    remove_specs_cases (Grows d 64) ids d next told
    (λ stays. omega (arith, sum_filter partition_spec_weight (λ spec. not (has_id spec.spec_id ids)) d.meta.partition_specs))
one_grows moment (RemoveSchemas ids) d next told =
    remove_schemas_cases (Grows d 64) ids d next told
    (λ stays. omega (arith, sum_filter schema_weight (λ schema. not (has_id schema.schema_id ids)) d.meta.schemas))
one_grows moment (Unsupported action) d next told = made_kept (Grows d 64) d next (omega arith) told

-- the text of a location that is printed has at most 1,024 bytes
refusal_none : (long none : Bool) (rest : Option LocationRefused)
    → (if long then Some TooLong else if none then Some EmptySegment else rest) ≡ None → long ≡ false
refusal_none true none rest told = absurd (cc)
refusal_none false none rest told = refl

location_bounded : (segments : List (List ℕ)) → location_refusal segments ≡ None → length (location_text segments) ≤ 1024
unfolding location_refusal
location_bounded segments told = ltb-false 1024 (length (location_text segments)) (refusal_none
    (nat_lt 1024 (length (location_text segments))) (length segments == 0) (segments_refusal segments) told)

parse_none : (starts long : Bool) (refusal : Option LocationRefused)
    → (if starts then refusal else if long then Some TooLong else Some BadScheme) ≡ None → refusal ≡ None
parse_none true long refusal told = told
parse_none false true refusal told = absurd (cc)
parse_none false false refusal told = absurd (cc)

parsed_bounded : (text : List ℕ) → parse_refusal text ≡ None → length (location_text (segments_of text)) ≤ 1024
unfolding parse_refusal
parsed_bounded text told = location_bounded (segments_of text)
    (parse_none (starts_with nat_eq text scheme) (nat_lt 1024 (length text)) (location_refusal (segments_of text)) told)

pub settled_weighs : (text : List ℕ) → length (settled text) ≤ length text + 1024
settled_weighs text = by_refusal (parse_refusal text) refl
  where
    by_refusal : (refusal : Option LocationRefused) → parse_refusal text ≡ refusal
        → length (settled_by refusal text) ≤ length text + 1024
    by_refusal None is = omega (arith, parsed_bounded text is)
    by_refusal (Some why) is = omega arith

-- where a metadata stands has at most 100 bytes beside its location
file_weighs : (location : List ℕ) (version : ℕ) (uuid : List ℕ) → version < 2 ^ 64
    → length (metadata_file location version uuid) ≤ length location + 100
unfolding metadata_file file_text
file_weighs location version uuid within =
    let digits : length (decimal version) ≤ 20 = length-decimal-le 20 version (lit< tt) (omega arith) within in
    let zeros : length (zeros_before version) ≤ 5 = omega (arith, length-drop (length (decimal version)) (codes "00000")) in
    let text : length (hyphenated_text lower uuid) ≡ 36 = by_index_length 36 _ in
    let end = hyphenated_text lower uuid ++ codes ".metadata.json" in
    omega (
      arith,
      digits,
      zeros,
      text,
      length-append location (codes "/metadata/" ++ (zeros_before version ++ (decimal version ++ (codes "-" ++ end)))),
      length-append (codes "/metadata/") (zeros_before version ++ (decimal version ++ (codes "-" ++ end))),
      length-append (zeros_before version) (decimal version ++ (codes "-" ++ end)),
      length-append (decimal version) (codes "-" ++ end),
      length-append (codes "-") end,
      length-append (hyphenated_text lower uuid) (codes ".metadata.json"),
    )

finished_weighs : (meta : TableMetadata) (version moment : ℕ) (d : Draft) → version < 2 ^ 64
    → metadata_weight (finished meta version moment d.meta) ≤ metadata_weight d.meta + metadata_weight meta + 2000
unfolding finished
finished_weighs meta version moment d within =
    let entry : MetadataLogEntry = record { metadata_file = metadata_file meta.location version meta.table_uuid; timestamp_ms = meta.last_updated_ms } in
    omega (
      arith,
      settled_weighs d.meta.location,
      file_weighs meta.location version meta.table_uuid within,
      sum_drop log_entry_weight (length (d.meta.metadata_log ++ entry ∷ []) - 100) (d.meta.metadata_log ++ entry ∷ []),
      sum_by_push log_entry_weight d.meta.metadata_log entry,
      length-drop (length d.meta.snapshot_log - min 10000 (suffix_len (is_there d.meta.snapshots) d.meta.snapshot_log)) d.meta.snapshot_log,
    )

pub weight_keeps_bound : WeightKeepsBound
weight_keeps_bound meta version moment updates made light some within told =
    after_cases (λ made. metadata_weight made ≤ 2 ^ 40) meta version moment updates made told (omega (arith, light)) (λ d done.
    let grown : metadata_weight d.meta ≤ metadata_weight meta + updates_weight updates =
    each_sums (after_one moment) (λ d. metadata_weight d.meta) update_weight (one_grows moment) 0 updates (begun meta) d done in
    omega (arith, grown, light, some, finished_weighs meta version moment d within))
