-- That sequence numbers of snapshots rise.
use Rattle.std.proofs.Common.{◌≡◌, ◌≤◌, ◌<◌, ◌==◌, ◌++◌, ◌∷◌, [], ℕ, Bool, true, false, List, get_or, filter, not, Ok, if◌then◌else◌, arith, nat_le}
use Rattle.std.specs.Bool.{⊤}
use Rattle.std.specs.List.{All, AllPairs}
use Rattle.std.specs.Str.{bytes_eq}
use Rattle.std.proofs.lemmas.Bool.{leb-false}
use Rattle.std.proofs.lemmas.List.Elements.{All-filter, All-push, All-weaker}
use Rattle.std.proofs.lemmas.List.Kept.{AllPairs-filter}
use Rattle.std.proofs.lemmas.List.Quantifiers.{all_pairs_push}
use Rattle.pol_drafts.specs.Drafts.{begun}
use Rattle.pol_drafts.specs.Ids.{has_id}
use Rattle.pol_drafts.specs.declared.draft.Draft.{Draft}
use Rattle.pol_meta.specs.declared.metadata.TableMetadata.{TableMetadata}
use Rattle.pol_meta.specs.declared.reference.SnapshotRef.{SnapshotRef}
use Rattle.pol_meta.specs.declared.snapshot.Snapshot.{Snapshot}
use Rattle.pol_meta.specs.declared.why.Why.TheVariants.{FormatVersion, UuidDiffers}
use Rattle.pol_updates.specs.Snapshots.{main, with_current_snapshot, with_named_ref, with_snapshot_ref, without_ref, without_snapshots}
use Rattle.pol_updates.specs.Texts.{with_location, with_values, without_keys}
use Rattle.pol_updates.specs.Updates.{after_one, finished}
use Rattle.pol_updates.specs.declared.update.Update.{Update}
use Rattle.pol_updates.specs.declared.update.Update.TheVariants.{AssignUuid, UpgradeFormatVersion, AddSchema, SetCurrentSchema, AddSpec, SetDefaultSpec, AddSortOrder, SetDefaultSortOrder, AddSnapshot, SetSnapshotRef, RemoveSnapshots, RemoveSnapshotRef, SetLocation, SetProperties, RemoveProperties, RemovePartitionSpecs, RemoveSchemas, Unsupported}
use Rattle.pol_updatelaws.specs.Laws.{Rises, SequenceRises}
use Rattle.pol_updatelaws.proofs.ChainLemmas.{made_kept, same_kept}
use Rattle.pol_updatelaws.proofs.ListLemmas.{after_cases, each_keeps}
use Rattle.pol_updatelaws.proofs.OrderLemmas.{add_order_cases, set_default_order_cases}
use Rattle.pol_updatelaws.proofs.SchemaLemmas.{add_schema_cases, remove_schemas_cases, set_current_schema_cases}
use Rattle.pol_updatelaws.proofs.SnapshotLemmas.{add_snapshot_cases, set_snapshot_ref_cases}
use Rattle.pol_updatelaws.proofs.SpecLemmas.{add_spec_cases, remove_specs_cases, set_default_spec_cases}

-- sequence numbers of a draft's snapshots rise, up to its last one
pub record RisesTo (snapshots : List Snapshot) (top : ℕ) : Type 0 where
  pub rising : AllPairs (λ earlier later. earlier.sequence_number < later.sequence_number) snapshots
  pub last : All (λ snapshot. snapshot.sequence_number ≤ top) snapshots

abbrev DraftRises : Draft → Type 0
DraftRises d = RisesTo d.meta.snapshots d.meta.last_sequence_number

pushed : (snapshots : List Snapshot) (top : ℕ) (snapshot : Snapshot) → RisesTo snapshots top
    → nat_le snapshot.sequence_number top ≡ false → RisesTo (snapshots ++ snapshot ∷ []) snapshot.sequence_number
pushed snapshots top snapshot rises above =
    let higher : top < snapshot.sequence_number = leb-false snapshot.sequence_number top above in
    record {
      rising = all_pairs_push (λ earlier later. earlier.sequence_number < later.sequence_number) snapshots snapshot rises.rising
          (λ k d within. let low : (get_or snapshots k d).sequence_number ≤ top = rises.last k d within in omega arith);
      last = All-push (λ other. other.sequence_number ≤ snapshot.sequence_number) snapshots snapshot
          (All-weaker (λ other. other.sequence_number ≤ top) (λ other. other.sequence_number ≤ snapshot.sequence_number)
          (λ other low. omega arith) snapshots rises.last) (omega arith);
    }

left : (keep : Snapshot → Bool) (snapshots : List Snapshot) (top : ℕ) → RisesTo snapshots top
    → RisesTo (filter keep snapshots) top
left keep snapshots top rises = record {
  rising = AllPairs-filter (λ earlier later. earlier.sequence_number < later.sequence_number) keep snapshots rises.rising;
  last = All-filter keep (λ snapshot. snapshot.sequence_number ≤ top) snapshots rises.last;
}

snapshots_removed : (ids : List ℕ) (d : Draft) → DraftRises d → DraftRises (without_snapshots ids d)
unfolding without_snapshots
snapshots_removed ids d rises =
    left (λ snapshot. not (has_id snapshot.snapshot_id ids)) d.meta.snapshots d.meta.last_sequence_number rises

ref_removed : (name : List ℕ) (d : Draft) → DraftRises d → DraftRises (without_ref name d)
unfolding without_ref
ref_removed name d rises = rises

ref_set : (moment : ℕ) (name : List ℕ) (reference : SnapshotRef) (d : Draft) → DraftRises d
    → DraftRises (with_snapshot_ref moment name reference d)
ref_set moment name reference d rises = by_name (bytes_eq name main)
  where
    by_name : (is_main : Bool) → DraftRises (if is_main
        then with_current_snapshot moment reference.snapshot_id (with_named_ref name reference d) else with_named_ref name reference d)
    by_name true = rises
    by_name false = rises

one_keeps : (moment : ℕ) (update : Update) (d next : Draft) → ⊤ → DraftRises d → after_one moment update d ≡ Ok next
    → DraftRises next
one_keeps moment (AssignUuid uuid) d next any rises told =
    same_kept DraftRises (bytes_eq d.meta.table_uuid uuid) UuidDiffers d next rises told
one_keeps moment (UpgradeFormatVersion version) d next any rises told =
    same_kept DraftRises (version == 2) FormatVersion d next rises told
one_keeps moment (AddSchema schema) d next any rises told =
    add_schema_cases DraftRises schema d next told (λ id there. rises) (λ id is fits. rises)
one_keeps moment (SetCurrentSchema member) d next any rises told =
    set_current_schema_cases DraftRises member d next told (λ id named. rises)
one_keeps moment (AddSpec spec) d next any rises told =
    add_spec_cases DraftRises spec d next told (λ fields id asked there. rises) (λ fields id asked is fits. rises)
one_keeps moment (SetDefaultSpec member) d next any rises told =
    set_default_spec_cases DraftRises member d next told (λ id named. rises)
one_keeps moment (AddSortOrder order) d next any rises told =
    add_order_cases DraftRises order d next told (λ id there. rises) (λ id none is fits. rises)
one_keeps moment (SetDefaultSortOrder member) d next any rises told =
    set_default_order_cases DraftRises member d next told (λ id named. rises)
one_keeps moment (AddSnapshot snapshot) d next any rises told =
    add_snapshot_cases DraftRises snapshot d next told (λ apart above.
    pushed d.meta.snapshots d.meta.last_sequence_number snapshot rises above)
one_keeps moment (SetSnapshotRef name reference) d next any rises told =
    set_snapshot_ref_cases DraftRises moment name reference d next told (λ has. ref_set moment name reference d rises)
one_keeps moment (RemoveSnapshots ids) d next any rises told =
    made_kept DraftRises (without_snapshots ids d) next (snapshots_removed ids d rises) told
one_keeps moment (RemoveSnapshotRef name) d next any rises told =
    made_kept DraftRises (without_ref name d) next (ref_removed name d rises) told
one_keeps moment (SetLocation location) d next any rises told =
    made_kept DraftRises (with_location location d) next rises told
one_keeps moment (SetProperties updates) d next any rises told =
    made_kept DraftRises (with_values updates d) next rises told
one_keeps moment (RemoveProperties removals) d next any rises told =
    made_kept DraftRises (without_keys removals d) next rises told
one_keeps moment (RemovePartitionSpecs ids) d next any rises told =
    remove_specs_cases DraftRises ids d next told (λ stays. rises)
one_keeps moment (RemoveSchemas ids) d next any rises told =
    remove_schemas_cases DraftRises ids d next told (λ stays. rises)
one_keeps moment (Unsupported action) d next any rises told = made_kept DraftRises d next rises told

finished_rises : (meta : TableMetadata) (version moment : ℕ) (d : Draft) → DraftRises d
    → Rises (finished meta version moment d.meta)
unfolding finished
finished_rises meta version moment d rises = record { rising = rises.rising; last = rises.last }

pub sequence_rises : SequenceRises
sequence_rises meta version moment updates made rises told =
    after_cases Rises meta version moment updates made told rises (λ d done.
    finished_rises meta version moment d
    (each_keeps (after_one moment) DraftRises (λ update. ⊤) (one_keeps moment) 0 updates (begun meta) d (λ k other within. tt)
    (record { rising = rises.rising; last = rises.last }) done))
