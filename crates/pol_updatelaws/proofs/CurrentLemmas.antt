-- That the current snapshot is the one that `main` names.
use Rattle.std.proofs.Common.{◌≡◌, ◌∙◌, ◌==◌, ℕ, Bool, true, false, List, Some, Ok, if◌then◌else◌, refl, sym, subst}
use Rattle.std.specs.Bool.{⊤}
use Rattle.std.specs.Str.{bytes_eq}
use Rattle.pol_drafts.specs.Drafts.{begun}
use Rattle.pol_drafts.specs.declared.draft.Draft.{Draft}
use Rattle.pol_meta.specs.Valid.{snapshot_named}
use Rattle.pol_meta.specs.declared.metadata.TableMetadata.{TableMetadata}
use Rattle.pol_meta.specs.declared.reference.SnapshotRef.{SnapshotRef}
use Rattle.pol_meta.specs.declared.why.Why.TheVariants.{FormatVersion, UuidDiffers}
use Rattle.pol_updates.specs.Snapshots.{main, with_current_snapshot, with_named_ref, with_ref, with_snapshot_ref, without_ref, without_snapshots}
use Rattle.pol_updates.specs.Texts.{with_location, with_values, without_keys}
use Rattle.pol_updates.specs.Updates.{after_one, finished}
use Rattle.pol_updates.specs.declared.update.Update.{Update}
use Rattle.pol_updates.specs.declared.update.Update.TheVariants.{AssignUuid, UpgradeFormatVersion, AddSchema, SetCurrentSchema, AddSpec, SetDefaultSpec, AddSortOrder, SetDefaultSortOrder, AddSnapshot, SetSnapshotRef, RemoveSnapshots, RemoveSnapshotRef, SetLocation, SetProperties, RemoveProperties, RemovePartitionSpecs, RemoveSchemas, Unsupported}
use Rattle.pol_updatelaws.specs.Laws.{CurrentIsMain, HasMain}
use Rattle.pol_updatelaws.proofs.ChainLemmas.{made_kept, same_kept}
use Rattle.pol_updatelaws.proofs.ListLemmas.{after_cases, each_keeps}
use Rattle.pol_updatelaws.proofs.OrderLemmas.{add_order_cases, set_default_order_cases}
use Rattle.pol_updatelaws.proofs.RefLemmas.{finds_other, finds_set, same_name}
use Rattle.pol_updatelaws.proofs.SchemaLemmas.{add_schema_cases, remove_schemas_cases, set_current_schema_cases}
use Rattle.pol_updatelaws.proofs.SnapshotLemmas.{add_snapshot_cases, set_snapshot_ref_cases}
use Rattle.pol_updatelaws.proofs.SpecLemmas.{add_spec_cases, remove_specs_cases, set_default_spec_cases}

abbrev DraftHasMain : Draft → Type 0
DraftHasMain d = HasMain d.meta

snapshots_removed : (ids : List ℕ) (d : Draft) → DraftHasMain (without_snapshots ids d)
unfolding without_snapshots
snapshots_removed ids d = refl

ref_removed : (name : List ℕ) (d : Draft) → DraftHasMain (without_ref name d)
unfolding without_ref
ref_removed name d = refl

-- `main` that is set names the current snapshot, and another reference leaves what it names
ref_set : (moment : ℕ) (name : List ℕ) (reference : SnapshotRef) (d : Draft) → DraftHasMain d
    → DraftHasMain (with_snapshot_ref moment name reference d)
ref_set moment name reference d current = by_name (bytes_eq name main) refl
  where
    by_name : (is_main : Bool) → bytes_eq name main ≡ is_main → DraftHasMain (if is_main
        then with_current_snapshot moment reference.snapshot_id (with_named_ref name reference d) else with_named_ref name reference d)
    by_name true is =
        subst (λ n. Some reference.snapshot_id ≡ snapshot_named n (with_ref name reference d.meta.refs)) (same_name name main is)
        (sym (finds_set name reference d.meta.refs))
    by_name false is = current ∙ sym (finds_other main name reference d.meta.refs is)

one_keeps : (moment : ℕ) (update : Update) (d next : Draft) → ⊤ → DraftHasMain d → after_one moment update d ≡ Ok next
    → DraftHasMain next
one_keeps moment (AssignUuid uuid) d next any current told =
    same_kept DraftHasMain (bytes_eq d.meta.table_uuid uuid) UuidDiffers d next current told
one_keeps moment (UpgradeFormatVersion version) d next any current told =
    same_kept DraftHasMain (version == 2) FormatVersion d next current told
one_keeps moment (AddSchema schema) d next any current told =
    add_schema_cases DraftHasMain schema d next told (λ id there. current) (λ id is fits. current)
one_keeps moment (SetCurrentSchema member) d next any current told =
    set_current_schema_cases DraftHasMain member d next told (λ id named. current)
one_keeps moment (AddSpec spec) d next any current told =
    add_spec_cases DraftHasMain spec d next told (λ fields id asked there. current) (λ fields id asked is fits. current)
one_keeps moment (SetDefaultSpec member) d next any current told =
    set_default_spec_cases DraftHasMain member d next told (λ id named. current)
one_keeps moment (AddSortOrder order) d next any current told =
    add_order_cases DraftHasMain order d next told (λ id there. current) (λ id none is fits. current)
one_keeps moment (SetDefaultSortOrder member) d next any current told =
    set_default_order_cases DraftHasMain member d next told (λ id named. current)
one_keeps moment (AddSnapshot snapshot) d next any current told =
    add_snapshot_cases DraftHasMain snapshot d next told (λ apart above.
    current)
one_keeps moment (SetSnapshotRef name reference) d next any current told =
    set_snapshot_ref_cases DraftHasMain moment name reference d next told (λ has. ref_set moment name reference d current)
one_keeps moment (RemoveSnapshots ids) d next any current told =
    made_kept DraftHasMain (without_snapshots ids d) next (snapshots_removed ids d) told
one_keeps moment (RemoveSnapshotRef name) d next any current told =
    made_kept DraftHasMain (without_ref name d) next (ref_removed name d) told
one_keeps moment (SetLocation location) d next any current told =
    made_kept DraftHasMain (with_location location d) next current told
one_keeps moment (SetProperties updates) d next any current told =
    made_kept DraftHasMain (with_values updates d) next current told
one_keeps moment (RemoveProperties removals) d next any current told =
    made_kept DraftHasMain (without_keys removals d) next current told
one_keeps moment (RemovePartitionSpecs ids) d next any current told =
    remove_specs_cases DraftHasMain ids d next told (λ stays. current)
one_keeps moment (RemoveSchemas ids) d next any current told =
    remove_schemas_cases DraftHasMain ids d next told (λ stays. current)
one_keeps moment (Unsupported action) d next any current told = made_kept DraftHasMain d next current told

finished_has_main : (meta : TableMetadata) (version moment : ℕ) (d : Draft) → DraftHasMain d
    → HasMain (finished meta version moment d.meta)
unfolding finished
finished_has_main meta version moment d current = current

pub current_is_main : CurrentIsMain
current_is_main meta version moment updates made current told =
    after_cases HasMain meta version moment updates made told current (λ d done.
    finished_has_main meta version moment d
    (each_keeps (after_one moment) DraftHasMain (λ update. ⊤) (one_keeps moment) 0 updates (begun meta) d (λ k other within. tt) current done))
