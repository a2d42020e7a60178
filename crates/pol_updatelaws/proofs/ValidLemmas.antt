-- That a list of updates keeps a valid metadata valid.
use Rattle.std.proofs.Common.{◌≡◌, ℕ, Bool, true, false, List, map, not, Option, Ok, IfSome, if◌then◌else◌, ◌==◌, refl, sym, subst}
use Rattle.std.specs.List.{All}
use Rattle.std.specs.Str.{bytes_eq}
use Rattle.std.proofs.lemmas.List.Elements.{All-contains, All-drop, All-map, All-push, All-weaker}
use Rattle.pol_drafts.specs.Drafts.{begun}
use Rattle.pol_drafts.specs.declared.draft.Draft.{Draft}
use Rattle.pol_meta.specs.Valid.{IsId, IsLong, IsMetadataLogEntry, IsNamedRef, IsPartitionSpec, IsSchema, IsSnapshotLogEntry, IsSortOrder, IsValid, snapshot_named}
use Rattle.pol_meta.specs.declared.log.MetadataLogEntry.{MetadataLogEntry}
use Rattle.pol_meta.specs.declared.metadata.TableMetadata.{TableMetadata}
use Rattle.pol_meta.specs.declared.reference.NamedRef.{NamedRef}
use Rattle.pol_meta.specs.declared.reference.SnapshotRef.{SnapshotRef}
use Rattle.pol_meta.specs.declared.why.Why.TheVariants.{FormatVersion, UuidDiffers}
use Rattle.pol_updates.specs.Forms.{HasForm}
use Rattle.pol_updates.specs.Snapshots.{has_snapshot, main, with_current_snapshot, with_named_ref, with_snapshot_ref, without_ref, without_snapshots}
use Rattle.pol_updates.specs.Texts.{with_location, with_values, without_keys}
use Rattle.pol_updates.specs.Updates.{after_one, finished}
use Rattle.pol_updates.specs.declared.update.Update.{Update}
use Rattle.pol_updates.specs.declared.update.Update.TheVariants.{AssignUuid, UpgradeFormatVersion, AddSchema, SetCurrentSchema, AddSpec, SetDefaultSpec, AddSortOrder, SetDefaultSortOrder, AddSnapshot, SetSnapshotRef, RemoveSnapshots, RemoveSnapshotRef, SetLocation, SetProperties, RemoveProperties, RemovePartitionSpecs, RemoveSchemas, Unsupported}
use Rattle.pol_updatelaws.specs.Laws.{StaysValid}
use Rattle.pol_updatelaws.proofs.ChainLemmas.{made_kept, same_kept}
use Rattle.pol_updatelaws.proofs.ListLemmas.{after_cases, each_keeps}
use Rattle.pol_updatelaws.proofs.MemberLemmas.{MembersAre, found_part}
use Rattle.pol_updatelaws.proofs.OrderLemmas as orders
use Rattle.pol_updatelaws.proofs.SchemaLemmas as schemas
use Rattle.pol_updatelaws.proofs.SnapshotLemmas as snapshots
use Rattle.pol_updatelaws.proofs.SpecLemmas as specs

-- what no update changes before a list is done
pub record RestIs (version : ℕ) (log : List MetadataLogEntry) (updated : ℕ) : Type 0 where
  pub version_two : version ≡ 2
  pub entries : All IsMetadataLogEntry log
  pub time : IsLong updated

-- a metadata amid a list whose parts are those of a valid one
pub record IsSound (d : Draft) : Type 0 where
  pub schemas : schemas.SchemasAre d.meta.schemas d.meta.current_schema_id d.meta.last_column_id d.last_schema
  pub specs : specs.SpecsAre d.meta.partition_specs d.meta.default_spec_id d.meta.last_partition_id d.last_spec
  pub orders : orders.OrdersAre d.meta.sort_orders d.meta.default_sort_order_id d.last_order
  pub snapshots : snapshots.SnapshotsAre d.meta.snapshots d.meta.refs d.meta.current_snapshot_id d.meta.last_sequence_number d.meta.snapshot_log
  pub rest : RestIs d.meta.format_version d.meta.metadata_log d.meta.last_updated_ms

ref_kept : (moment : ℕ) (name : List ℕ) (reference : SnapshotRef) (d : Draft) → IsLong moment
    → IsNamedRef (record { name = name; reference = reference }) → IsSound d
    → has_snapshot d.meta.snapshots reference.snapshot_id ≡ true → IsSound (with_snapshot_ref moment name reference d)
ref_kept moment name reference d within form sound has = by_name (bytes_eq name main) refl
  where
    by_name : (is_main : Bool) → bytes_eq name main ≡ is_main
        → IsSound (if is_main then with_current_snapshot moment reference.snapshot_id (with_named_ref name reference d)
        else with_named_ref name reference d)
    by_name true is = record {
      schemas = sound.schemas;
      specs = sound.specs;
      orders = sound.orders;
      snapshots = snapshots.main_set d.meta.snapshots d.meta.refs d.meta.current_snapshot_id d.meta.last_sequence_number
          d.meta.snapshot_log name reference moment sound.snapshots form has within is;
      rest = sound.rest;
    }
    by_name false is = record {
      schemas = sound.schemas;
      specs = sound.specs;
      orders = sound.orders;
      snapshots = snapshots.other_set d.meta.snapshots d.meta.refs d.meta.current_snapshot_id d.meta.last_sequence_number
          d.meta.snapshot_log name reference sound.snapshots form has is;
      rest = sound.rest;
    }

snapshots_removed : (ids : List ℕ) (d : Draft) → IsSound d → IsSound (without_snapshots ids d)
unfolding without_snapshots
snapshots_removed ids d sound = record {
  schemas = sound.schemas;
  specs = sound.specs;
  orders = sound.orders;
  snapshots = snapshots.snapshots_left d.meta.snapshots d.meta.refs d.meta.current_snapshot_id d.meta.last_sequence_number
      d.meta.snapshot_log ids sound.snapshots;
  rest = sound.rest;
}

ref_removed : (name : List ℕ) (d : Draft) → IsSound d → IsSound (without_ref name d)
unfolding without_ref
ref_removed name d sound = record {
  schemas = sound.schemas;
  specs = sound.specs;
  orders = sound.orders;
  snapshots = snapshots.refs_left d.meta.snapshots d.meta.refs d.meta.current_snapshot_id d.meta.last_sequence_number
      d.meta.snapshot_log (λ named. not (bytes_eq named.name name)) sound.snapshots;
  rest = sound.rest;
}

-- each update keeps them
one_keeps : (moment : ℕ) → IsLong moment → (update : Update) (d next : Draft) → HasForm update → IsSound d
    → after_one moment update d ≡ Ok next → IsSound next
one_keeps moment within (AssignUuid uuid) d next form sound told =
    same_kept IsSound (bytes_eq d.meta.table_uuid uuid) UuidDiffers d next sound told
one_keeps moment within (UpgradeFormatVersion version) d next form sound told =
    same_kept IsSound (version == 2) FormatVersion d next sound told
one_keeps moment within (AddSchema schema) d next form sound told =
    schemas.add_schema_cases IsSound schema d next told
    (λ id there. record {
      schemas = schemas.schemas_noted d.meta.schemas d.meta.current_schema_id d.meta.last_column_id d.last_schema id schema
          sound.schemas form there;
      specs = sound.specs;
      orders = sound.orders;
      snapshots = sound.snapshots;
      rest = sound.rest;
    })
    (λ id is fits. record {
      schemas = schemas.schemas_pushed d.meta.schemas d.meta.current_schema_id d.meta.last_column_id d.last_schema id schema
          sound.schemas form is fits;
      specs = sound.specs;
      orders = sound.orders;
      snapshots = sound.snapshots;
      rest = sound.rest;
    })
one_keeps moment within (SetCurrentSchema member) d next form sound told =
    schemas.set_current_schema_cases IsSound member d next told (λ id named. record {
      schemas = schemas.schemas_named member d.meta.schemas d.meta.current_schema_id d.meta.last_column_id d.last_schema id
          sound.schemas named;
      specs = sound.specs;
      orders = sound.orders;
      snapshots = sound.snapshots;
      rest = sound.rest;
    })
one_keeps moment within (AddSpec spec) d next form sound told =
    specs.add_spec_cases IsSound spec d next told
    (λ fields id asked there. record {
      schemas = sound.schemas;
      specs = specs.specs_noted d.meta.partition_specs d.meta.default_spec_id d.meta.last_partition_id d.last_spec id fields
          sound.specs (specs.asked_forms spec d fields asked sound.specs.members.forms sound.specs.least form) there;
      orders = sound.orders;
      snapshots = sound.snapshots;
      rest = sound.rest;
    })
    (λ fields id asked is fits. record {
      schemas = sound.schemas;
      specs = specs.specs_pushed d.meta.partition_specs d.meta.default_spec_id d.meta.last_partition_id d.last_spec id fields
          sound.specs (specs.asked_forms spec d fields asked sound.specs.members.forms sound.specs.least form) is fits;
      orders = sound.orders;
      snapshots = sound.snapshots;
      rest = sound.rest;
    })
one_keeps moment within (SetDefaultSpec member) d next form sound told =
    specs.set_default_spec_cases IsSound member d next told (λ id named. record {
      schemas = sound.schemas;
      specs = specs.specs_named member d.meta.partition_specs d.meta.default_spec_id d.meta.last_partition_id d.last_spec id
          sound.specs named;
      orders = sound.orders;
      snapshots = sound.snapshots;
      rest = sound.rest;
    })
one_keeps moment within (AddSortOrder order) d next form sound told =
    orders.add_order_cases IsSound order d next told
    (λ id there. record {
      schemas = sound.schemas;
      specs = sound.specs;
      orders = orders.orders_noted d.meta.sort_orders d.meta.default_sort_order_id d.last_order id sound.orders there;
      snapshots = sound.snapshots;
      rest = sound.rest;
    })
    (λ id none is fits. record {
      schemas = sound.schemas;
      specs = sound.specs;
      orders = orders.orders_pushed d.meta.sort_orders d.meta.default_sort_order_id d.last_order id order.fields sound.orders
          form none is fits;
      snapshots = sound.snapshots;
      rest = sound.rest;
    })
one_keeps moment within (SetDefaultSortOrder member) d next form sound told =
    orders.set_default_order_cases IsSound member d next told (λ id named. record {
      schemas = sound.schemas;
      specs = sound.specs;
      orders = orders.orders_named member d.meta.sort_orders d.meta.default_sort_order_id d.last_order id sound.orders named;
      snapshots = sound.snapshots;
      rest = sound.rest;
    })
one_keeps moment within (AddSnapshot snapshot) d next form sound told =
    snapshots.add_snapshot_cases IsSound snapshot d next told (λ apart above. record {
      schemas = sound.schemas;
      specs = sound.specs;
      orders = sound.orders;
      snapshots = snapshots.snapshots_pushed d.meta.snapshots d.meta.refs d.meta.current_snapshot_id d.meta.last_sequence_number
          d.meta.snapshot_log snapshot sound.snapshots form apart;
      rest = sound.rest;
    })
one_keeps moment within (SetSnapshotRef name reference) d next form sound told =
    snapshots.set_snapshot_ref_cases IsSound moment name reference d next told (ref_kept moment name reference d within form sound)
one_keeps moment within (RemoveSnapshots ids) d next form sound told =
    made_kept IsSound (without_snapshots ids d) next (snapshots_removed ids d sound) told
one_keeps moment within (RemoveSnapshotRef name) d next form sound told =
    made_kept IsSound (without_ref name d) next (ref_removed name d sound) told
one_keeps moment within (SetLocation location) d next form sound told =
    made_kept IsSound (with_location location d) next (record {
      schemas = sound.schemas;
      specs = sound.specs;
      orders = sound.orders;
      snapshots = sound.snapshots;
      rest = sound.rest;
    }) told
one_keeps moment within (SetProperties updates) d next form sound told =
    made_kept IsSound (with_values updates d) next (record {
      schemas = sound.schemas;
      specs = sound.specs;
      orders = sound.orders;
      snapshots = sound.snapshots;
      rest = sound.rest;
    }) told
one_keeps moment within (RemoveProperties removals) d next form sound told =
    made_kept IsSound (without_keys removals d) next (record {
      schemas = sound.schemas;
      specs = sound.specs;
      orders = sound.orders;
      snapshots = sound.snapshots;
      rest = sound.rest;
    }) told
one_keeps moment within (RemovePartitionSpecs ids) d next form sound told =
    specs.remove_specs_cases IsSound ids d next told (λ stays. record {
      schemas = sound.schemas;
      specs = specs.specs_left d.meta.partition_specs d.meta.default_spec_id d.meta.last_partition_id d.last_spec ids
          sound.specs stays;
      orders = sound.orders;
      snapshots = sound.snapshots;
      rest = sound.rest;
    })
one_keeps moment within (RemoveSchemas ids) d next form sound told =
    schemas.remove_schemas_cases IsSound ids d next told (λ stays. record {
      schemas = schemas.schemas_left d.meta.schemas d.meta.current_schema_id d.meta.last_column_id d.last_schema ids
          sound.schemas stays;
      specs = sound.specs;
      orders = sound.orders;
      snapshots = sound.snapshots;
      rest = sound.rest;
    })
one_keeps moment within (Unsupported action) d next form sound told = made_kept IsSound d next sound told

-- a valid metadata before a list
begun_sound : (meta : TableMetadata) → IsValid meta → IsSound (begun meta)
begun_sound meta valid = record {
  schemas = record {
    members = record { forms = valid.forms.schemas; differ = valid.ids.schemas; current = valid.members.schema; added = tt };
    column = valid.forms.column;
  };
  specs = record {
    members = record { forms = valid.forms.specs; differ = valid.ids.specs; current = valid.members.spec; added = tt };
    least = valid.forms.partition_least;
    most = valid.forms.partition_most;
  };
  orders = record { forms = valid.forms.orders; differ = valid.ids.orders; current = valid.members.order; added = tt };
  snapshots = record {
    forms = valid.forms.snapshots;
    differ = valid.ids.snapshots;
    ref_forms = valid.forms.refs;
    ordered = valid.forms.ordered;
    there = valid.members.refs;
    current = valid.members.current;
    sequence = valid.forms.sequence;
    logged = valid.forms.snapshot_log;
  };
  rest = record { version_two = valid.forms.version; entries = valid.forms.metadata_log; time = valid.forms.updated };
}

-- ids that name members are ids
member_id : {A : Type 0} (Form : A → Type 0) (id_of : A → ℕ) (members : List A) (now : ℕ) (last : Option ℕ)
    → MembersAre Form id_of members now last → ((x : A) → Form x → IsId (id_of x)) → IsId now
member_id Form id_of members now last are id_form =
    All-contains IsId (map id_of members) now
    (All-map IsId id_of members (All-weaker Form (λ x. IsId (id_of x)) id_form members are.forms)) are.current

current_long : (refs : List NamedRef) (now : Option ℕ) → All IsNamedRef refs → now ≡ snapshot_named main refs → IfSome now IsLong
current_long refs now forms is =
    subst (λ id. IfSome id IsLong) (sym is)
    (found_part (λ named. named.reference.snapshot_id) (λ named. bytes_eq named.name main) IsLong refs
    (All-weaker IsNamedRef (λ named. IsLong named.reference.snapshot_id) (λ named form. form.snapshot) refs forms))

-- what is finished is valid
finished_valid : (meta : TableMetadata) (version moment : ℕ) (d : Draft) → IsValid meta → IsLong moment → IsSound d
    → IsValid (finished meta version moment d.meta)
unfolding finished
finished_valid meta version moment d valid within sound = record {
  forms = record {
    version = sound.rest.version_two;
    current_schema = member_id IsSchema (λ schema. schema.schema_id) d.meta.schemas d.meta.current_schema_id d.last_schema
        sound.schemas.members (λ schema form. form.id);
    current_snapshot = current_long d.meta.refs d.meta.current_snapshot_id sound.snapshots.ref_forms sound.snapshots.current;
    default_order = member_id IsSortOrder (λ order. order.order_id) d.meta.sort_orders d.meta.default_sort_order_id d.last_order
        sound.orders (λ order form. form.id);
    default_spec = member_id IsPartitionSpec (λ spec. spec.spec_id) d.meta.partition_specs d.meta.default_spec_id d.last_spec
        sound.specs.members (λ spec form. form.id);
    schemas = sound.schemas.members.forms;
    specs = sound.specs.members.forms;
    orders = sound.orders.forms;
    snapshots = sound.snapshots.forms;
    refs = sound.snapshots.ref_forms;
    ordered = sound.snapshots.ordered;
    metadata_log = All-drop IsMetadataLogEntry _ _ (All-push IsMetadataLogEntry d.meta.metadata_log _ sound.rest.entries valid.forms.updated);
    snapshot_log = All-drop IsSnapshotLogEntry _ d.meta.snapshot_log sound.snapshots.logged;
    column = sound.schemas.column;
    partition_least = sound.specs.least;
    partition_most = sound.specs.most;
    sequence = sound.snapshots.sequence;
    updated = within;
  };
  ids = record {
    schemas = sound.schemas.members.differ;
    specs = sound.specs.members.differ;
    orders = sound.orders.differ;
    snapshots = sound.snapshots.differ;
  };
  members = record {
    schema = sound.schemas.members.current;
    spec = sound.specs.members.current;
    order = sound.orders.current;
    refs = sound.snapshots.there;
    current = sound.snapshots.current;
  };
}

pub stays_valid : StaysValid
stays_valid meta version moment updates made valid forms within told =
    after_cases IsValid meta version moment updates made told valid (λ d done.
    finished_valid meta version moment d valid within
    (each_keeps (after_one moment) IsSound HasForm (one_keeps moment within) 0 updates (begun meta) d forms (begun_sound meta valid) done))
