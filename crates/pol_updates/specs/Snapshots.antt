-- How an update adds a snapshot, sets a reference, and removes snapshots and references.
use Rattle.std.specs.Prelude.{◌&&◌, ◌||◌, ◌==◌, ◌++◌, ◌∷◌, [], ℕ, Bool, true, false, not, filter, codes, is_some, nat_le, List, Some, Result, Ok, Err, if◌then◌else◌}
use Rattle.std.specs.Cmp.Lexicographic.{slice_cmp}
use Rattle.std.specs.List.{list_any}
use Rattle.std.specs.Ordering.{is_gt, is_lt, nat_cmp}
use Rattle.std.specs.Str.{bytes_eq}
use Rattle.std.specs.declared.cmp.Ordering.{Ordering}
use Rattle.pol_meta.specs.Valid.{snapshot_named}
use Rattle.pol_meta.specs.declared.reference.NamedRef.{NamedRef}
use Rattle.pol_meta.specs.declared.reference.RefKind.{RefKind}
use Rattle.pol_meta.specs.declared.reference.RefKind.TheVariants.{Branch, Tag}
use Rattle.pol_meta.specs.declared.reference.SnapshotRef.{SnapshotRef}
use Rattle.pol_meta.specs.declared.snapshot.Snapshot.{Snapshot}
use Rattle.pol_meta.specs.declared.why.Why.{Why}
use Rattle.pol_meta.specs.declared.why.Why.TheVariants.{BranchOnly, MainNotBranch, NoSuchSnapshot, SequenceNotAbove, SnapshotThere}
use Rattle.pol_drafts.specs.Ids.{has_id}
use Rattle.pol_drafts.specs.declared.draft.Draft.{Draft}

-- whether a snapshot has this id
abbrev pub has_snapshot : List Snapshot → ℕ → Bool
has_snapshot snapshots id = list_any (λ snapshot. snapshot.snapshot_id == id) snapshots

-- a snapshot stands after the others, and its number is the last one
abbrev pub with_snapshot : Snapshot → Draft → Draft
with_snapshot snapshot d = record d {
  meta = record d.meta {
    last_sequence_number = snapshot.sequence_number;
    snapshots = d.meta.snapshots ++ snapshot ∷ [];
  };
}

unfoldable pub add_snapshot : Snapshot → Draft → Result Draft Why
add_snapshot snapshot d =
    if has_snapshot d.meta.snapshots snapshot.snapshot_id then Err SnapshotThere
    else if nat_le snapshot.sequence_number d.meta.last_sequence_number then Err SequenceNotAbove
    else Ok (with_snapshot snapshot d)

-- the reference whose snapshot is the current one
abbrev pub main : List ℕ
main = codes "main"

abbrev pub is_branch : RefKind → Bool
is_branch Branch = true
is_branch Tag = false

-- whether a reference is a tag and has a number that only branches have
abbrev pub has_branch_numbers : SnapshotRef → Bool
has_branch_numbers reference =
    not (is_branch reference.kind)
    && (is_some reference.max_snapshot_age_ms || is_some reference.min_snapshots_to_keep)

-- whether `main` is to be a tag
abbrev pub is_main_tag : List ℕ → SnapshotRef → Bool
is_main_tag name reference = bytes_eq name main && not (is_branch reference.kind)

-- how the name of a reference compares with a name, byte by byte, a proper prefix first
abbrev pub compared : List ℕ → NamedRef → Ordering
compared name named = slice_cmp nat_cmp named.name name

-- the references once one is set: those of lower names, it, and those of higher names
abbrev pub with_ref : List ℕ → SnapshotRef → List NamedRef → List NamedRef
with_ref name reference refs =
    filter (λ named. is_lt (compared name named)) refs
    ++ record { name = name; reference = reference } ∷ filter (λ named. is_gt (compared name named)) refs

-- a reference is set
abbrev pub with_named_ref : List ℕ → SnapshotRef → Draft → Draft
with_named_ref name reference d = record d { meta = record d.meta { refs = with_ref name reference d.meta.refs } }

-- the snapshot of a reference becomes the current one at a moment
abbrev pub with_current_snapshot : ℕ → ℕ → Draft → Draft
with_current_snapshot moment id d = record d {
  meta = record d.meta {
    current_snapshot_id = Some id;
    snapshot_log = d.meta.snapshot_log ++ record { snapshot_id = id; timestamp_ms = moment } ∷ [];
  };
}

-- a reference is set; `main` sets the current snapshot too
abbrev pub with_snapshot_ref : ℕ → List ℕ → SnapshotRef → Draft → Draft
with_snapshot_ref moment name reference d =
    if bytes_eq name main then with_current_snapshot moment reference.snapshot_id (with_named_ref name reference d)
    else with_named_ref name reference d

unfoldable pub set_snapshot_ref : ℕ → List ℕ → SnapshotRef → Draft → Result Draft Why
set_snapshot_ref moment name reference d =
    if not (has_snapshot d.meta.snapshots reference.snapshot_id) then Err NoSuchSnapshot
    else if is_main_tag name reference then Err MainNotBranch
    else if has_branch_numbers reference then Err BranchOnly
    else Ok (with_snapshot_ref moment name reference d)

-- these references are left, and the current snapshot is that of `main` among them
abbrev pub with_refs_left : List NamedRef → Draft → Draft
with_refs_left refs d = record d {
  meta = record d.meta { current_snapshot_id = snapshot_named main refs; refs = refs };
}

-- the references to other snapshots than these
abbrev pub refs_to_others : List ℕ → List NamedRef → List NamedRef
refs_to_others ids refs = filter (λ named. not (has_id named.reference.snapshot_id ids)) refs

-- snapshots of these ids are gone, and all references to them
unfoldable pub without_snapshots : List ℕ → Draft → Draft
without_snapshots ids d = with_refs_left (refs_to_others ids d.meta.refs) (record d {
  meta = record d.meta { snapshots = filter (λ snapshot. not (has_id snapshot.snapshot_id ids)) d.meta.snapshots };
})

-- the reference of this name is gone
unfoldable pub without_ref : List ℕ → Draft → Draft
without_ref name d = with_refs_left (filter (λ named. not (bytes_eq named.name name)) d.meta.refs) d
