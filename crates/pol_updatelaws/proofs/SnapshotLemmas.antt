-- What updates of snapshots and references keep.
use Rattle.std.proofs.Common.{◌≡◌, ◌∙◌, ◌==◌, ◌||◌, ℕ, Bool, true, false, List, [], ◌∷◌, ◌++◌, filter, not, Option, Some, Result, Ok, Err, if◌then◌else◌, refl, sym, subst, nat_eq, nat_le, arith}
use Rattle.std.specs.List.{All, Contains, IsDistinct, list_any}
use Rattle.std.specs.List.Sorted.{IsStrictlySortedBy}
use Rattle.std.specs.Ordering.{is_gt, is_lt}
use Rattle.std.specs.Str.{bytes_eq}
use Rattle.std.proofs.lemmas.Bool.{eqb-true}
use Rattle.std.proofs.lemmas.List.Elements.{All-append, All-cons, All-filter, All-push, All-weaker, Contains-append_right, Contains-get_or, filter_passes}
use Rattle.std.proofs.lemmas.List.Kept.{IsStrictlySortedBy-filter}
use Rattle.pol_meta.specs.Valid.{IsLong, IsNamedRef, IsSnapshot, IsSnapshotLogEntry, snapshot_ids, snapshot_named}
use Rattle.pol_meta.specs.declared.log.SnapshotLogEntry.{SnapshotLogEntry}
use Rattle.pol_meta.specs.declared.reference.NamedRef.{NamedRef}
use Rattle.pol_meta.specs.declared.reference.SnapshotRef.{SnapshotRef}
use Rattle.pol_meta.specs.declared.snapshot.Snapshot.{Snapshot}
use Rattle.pol_meta.specs.declared.why.Why.{Why}
use Rattle.pol_meta.specs.declared.why.Why.TheVariants.{BranchOnly, MainNotBranch, NoSuchSnapshot, SequenceNotAbove, SnapshotThere}
use Rattle.pol_drafts.specs.Ids.{has_id}
use Rattle.pol_drafts.specs.declared.draft.Draft.{Draft}
use Rattle.pol_updates.specs.Snapshots.{add_snapshot, compared, has_branch_numbers, has_snapshot, is_main_tag, main, refs_to_others, set_snapshot_ref, with_ref, with_snapshot, with_snapshot_ref}
use Rattle.pol_updatelaws.proofs.ChainLemmas.{passes_rule}
use Rattle.pol_updatelaws.proofs.MemberLemmas.{contains_left, contains_pushed, distinct_left, distinct_pushed}
use Rattle.pol_updatelaws.proofs.RefLemmas.{by_name, finds_other, finds_set, same_name, set_sorted}

pub record SnapshotsAre (snapshots : List Snapshot) (refs : List NamedRef) (now : Option ℕ) (top : ℕ) (log : List SnapshotLogEntry) : Type 0 where
  pub forms : All IsSnapshot snapshots
  pub differ : IsDistinct nat_eq (snapshot_ids snapshots)
  pub ref_forms : All IsNamedRef refs
  pub ordered : IsStrictlySortedBy by_name refs
  pub there : All (λ named. Contains (snapshot_ids snapshots) named.reference.snapshot_id) refs
  pub current : now ≡ snapshot_named main refs
  pub sequence : IsLong top
  pub logged : All IsSnapshotLogEntry log

pub add_snapshot_cases : (P : Draft → Type 0) (snapshot : Snapshot) (d next : Draft) → add_snapshot snapshot d ≡ Ok next
    → (has_snapshot d.meta.snapshots snapshot.snapshot_id ≡ false
    → nat_le snapshot.sequence_number d.meta.last_sequence_number ≡ false → P (with_snapshot snapshot d)) → P next
unfolding add_snapshot
add_snapshot_cases P snapshot d next told new =
    let apart = passes_rule (has_snapshot d.meta.snapshots snapshot.snapshot_id) SnapshotThere
    (if nat_le snapshot.sequence_number d.meta.last_sequence_number then Err SequenceNotAbove else Ok (with_snapshot snapshot d)) next told in
    let above = passes_rule (nat_le snapshot.sequence_number d.meta.last_sequence_number) SequenceNotAbove
    (Ok (with_snapshot snapshot d)) next apart.1 in
    let made : ◌≡◌ {A = Result Draft Why} (Ok (with_snapshot snapshot d)) (Ok next) = above.1 in
    let same : with_snapshot snapshot d ≡ next = cc in
    subst P same (new apart.0 above.0)

pub set_snapshot_ref_cases : (P : Draft → Type 0) (moment : ℕ) (name : List ℕ) (reference : SnapshotRef) (d next : Draft)
    → set_snapshot_ref moment name reference d ≡ Ok next
    → (has_snapshot d.meta.snapshots reference.snapshot_id ≡ true → P (with_snapshot_ref moment name reference d)) → P next
unfolding set_snapshot_ref
set_snapshot_ref_cases P moment name reference d next told set =
    let there = passes_rule (not (has_snapshot d.meta.snapshots reference.snapshot_id)) NoSuchSnapshot
    (if is_main_tag name reference then Err MainNotBranch else if has_branch_numbers reference then Err BranchOnly
    else Ok (with_snapshot_ref moment name reference d)) next told in
    let branch = passes_rule (is_main_tag name reference) MainNotBranch
    (if has_branch_numbers reference then Err BranchOnly else Ok (with_snapshot_ref moment name reference d)) next there.1 in
    let numbers = passes_rule (has_branch_numbers reference) BranchOnly (Ok (with_snapshot_ref moment name reference d)) next branch.1 in
    let made : ◌≡◌ {A = Result Draft Why} (Ok (with_snapshot_ref moment name reference d)) (Ok next) = numbers.1 in
    let same : with_snapshot_ref moment name reference d ≡ next = cc in
    subst P same (set (was (has_snapshot d.meta.snapshots reference.snapshot_id) there.0))
  where
    was : (b : Bool) → not b ≡ false → b ≡ true
    was true is = refl
    was false is = absurd (cc)

-- a snapshot that is there, and one that isn't
snapshot_there : (snapshots : List Snapshot) (id : ℕ) → has_snapshot snapshots id ≡ true → Contains (snapshot_ids snapshots) id
snapshot_there [] id has = absurd (cc)
snapshot_there (snapshot ∷ snapshots) id has =
    first (snapshot.snapshot_id == id) refl (λ found. snapshot_there snapshots id found) has
  where
    first : (here : Bool) → (snapshot.snapshot_id == id) ≡ here
        → (has_snapshot snapshots id ≡ true → Contains (snapshot_ids snapshots) id) → (here || has_snapshot snapshots id) ≡ true
        → Contains (snapshot_ids (snapshot ∷ snapshots)) id
    first true is later found =
        subst (Contains (snapshot_ids (snapshot ∷ snapshots))) (eqb-true snapshot.snapshot_id id is)
        (Contains-get_or (snapshot_ids (snapshot ∷ snapshots)) 0 0 (omega arith))
    first false is later found =
        Contains-append_right (snapshot.snapshot_id ∷ []) (snapshot_ids snapshots) id (later found)

snapshot_new : (snapshots : List Snapshot) (id : ℕ) → has_snapshot snapshots id ≡ false
    → list_any (nat_eq id) (snapshot_ids snapshots) ≡ false
snapshot_new [] id has = refl
snapshot_new (snapshot ∷ snapshots) id has =
    first (snapshot.snapshot_id == id) refl (id == snapshot.snapshot_id) refl (λ told. snapshot_new snapshots id told) has
  where
    first : (here : Bool) → (snapshot.snapshot_id == id) ≡ here → (there : Bool) → (id == snapshot.snapshot_id) ≡ there
        → (has_snapshot snapshots id ≡ false → list_any (nat_eq id) (snapshot_ids snapshots) ≡ false)
        → (here || has_snapshot snapshots id) ≡ false → (there || list_any (nat_eq id) (snapshot_ids snapshots)) ≡ false
    first true is there other later told = absurd (cc)
    first false is false other later told = later told
    first false is true other later told =
        let same : id ≡ snapshot.snapshot_id = eqb-true id snapshot.snapshot_id other in
        let clash : (id == id) ≡ false = subst (λ x. (x == id) ≡ false) (sym same) is in
        let own : (id == id) ≡ true = subst (λ x. (id == x) ≡ true) (sym same) other in
        absurd (cc)

pub snapshots_pushed : (snapshots : List Snapshot) (refs : List NamedRef) (now : Option ℕ) (top : ℕ) (log : List SnapshotLogEntry)
    (snapshot : Snapshot) → SnapshotsAre snapshots refs now top log → IsSnapshot snapshot
    → has_snapshot snapshots snapshot.snapshot_id ≡ false
    → SnapshotsAre (snapshots ++ snapshot ∷ []) refs now snapshot.sequence_number log
snapshots_pushed snapshots refs now top log snapshot are form apart = record {
  forms = All-push IsSnapshot snapshots snapshot are.forms form;
  differ = distinct_pushed (λ other. other.snapshot_id) snapshots snapshot are.differ
      (snapshot_new snapshots snapshot.snapshot_id apart);
  ref_forms = are.ref_forms;
  ordered = are.ordered;
  there = All-weaker (λ named. Contains (snapshot_ids snapshots) named.reference.snapshot_id)
      (λ named. Contains (snapshot_ids (snapshots ++ snapshot ∷ [])) named.reference.snapshot_id)
      (λ named there. contains_pushed (λ other. other.snapshot_id) snapshots snapshot named.reference.snapshot_id there)
      refs are.there;
  current = are.current;
  sequence = form.sequence;
  logged = are.logged;
}

-- what holds of each reference holds of each once one is set
each_set : (P : NamedRef → Type 0) (name : List ℕ) (reference : SnapshotRef) (refs : List NamedRef) → All P refs
    → P (record { name = name; reference = reference }) → All P (with_ref name reference refs)
each_set P name reference refs each set =
    let low = filter (λ named. is_lt (compared name named)) refs in
    let high = filter (λ named. is_gt (compared name named)) refs in
    All-append P low (record { name = name; reference = reference } ∷ high)
    (All-filter (λ named. is_lt (compared name named)) P refs each)
    (All-cons P (record { name = name; reference = reference }) high set
    (All-filter (λ named. is_gt (compared name named)) P refs each))

-- a reference that is set, where the current snapshot is that of `main` then
ref_set : (snapshots : List Snapshot) (refs : List NamedRef) (now next : Option ℕ) (top : ℕ) (log left : List SnapshotLogEntry)
    (name : List ℕ) (reference : SnapshotRef) → SnapshotsAre snapshots refs now top log
    → IsNamedRef (record { name = name; reference = reference }) → has_snapshot snapshots reference.snapshot_id ≡ true
    → next ≡ snapshot_named main (with_ref name reference refs) → All IsSnapshotLogEntry left
    → SnapshotsAre snapshots (with_ref name reference refs) next top left
ref_set snapshots refs now next top log left name reference are form has is logged = record {
  forms = are.forms;
  differ = are.differ;
  ref_forms = each_set IsNamedRef name reference refs are.ref_forms form;
  ordered = set_sorted name reference refs are.ordered;
  there = each_set (λ named. Contains (snapshot_ids snapshots) named.reference.snapshot_id) name reference refs are.there
      (snapshot_there snapshots reference.snapshot_id has);
  current = is;
  sequence = are.sequence;
  logged = logged;
}

pub main_set : (snapshots : List Snapshot) (refs : List NamedRef) (now : Option ℕ) (top : ℕ) (log : List SnapshotLogEntry)
    (name : List ℕ) (reference : SnapshotRef) (moment : ℕ) → SnapshotsAre snapshots refs now top log
    → IsNamedRef (record { name = name; reference = reference }) → has_snapshot snapshots reference.snapshot_id ≡ true
    → IsLong moment → bytes_eq name main ≡ true
    → SnapshotsAre snapshots (with_ref name reference refs) (Some reference.snapshot_id) top
    (log ++ record { snapshot_id = reference.snapshot_id; timestamp_ms = moment } ∷ [])
main_set snapshots refs now top log name reference moment are form has within is =
    ref_set snapshots refs now (Some reference.snapshot_id) top log
    (log ++ record { snapshot_id = reference.snapshot_id; timestamp_ms = moment } ∷ []) name reference are form has
    (subst (λ n. Some reference.snapshot_id ≡ snapshot_named n (with_ref name reference refs)) (same_name name main is)
    (sym (finds_set name reference refs)))
    (All-push IsSnapshotLogEntry log (record { snapshot_id = reference.snapshot_id; timestamp_ms = moment }) are.logged
    (record { snapshot = form.snapshot; time = within }))

pub other_set : (snapshots : List Snapshot) (refs : List NamedRef) (now : Option ℕ) (top : ℕ) (log : List SnapshotLogEntry)
    (name : List ℕ) (reference : SnapshotRef) → SnapshotsAre snapshots refs now top log
    → IsNamedRef (record { name = name; reference = reference }) → has_snapshot snapshots reference.snapshot_id ≡ true
    → bytes_eq name main ≡ false → SnapshotsAre snapshots (with_ref name reference refs) now top log
other_set snapshots refs now top log name reference are form has differ =
    ref_set snapshots refs now now top log log name reference are form has
    (are.current ∙ sym (finds_other main name reference refs differ)) are.logged

-- references that are left
pub refs_left : (snapshots : List Snapshot) (refs : List NamedRef) (now : Option ℕ) (top : ℕ) (log : List SnapshotLogEntry)
    (keep : NamedRef → Bool) → SnapshotsAre snapshots refs now top log
    → SnapshotsAre snapshots (filter keep refs) (snapshot_named main (filter keep refs)) top log
refs_left snapshots refs now top log keep are = record {
  forms = are.forms;
  differ = are.differ;
  ref_forms = All-filter keep IsNamedRef refs are.ref_forms;
  ordered = IsStrictlySortedBy-filter by_name keep refs are.ordered;
  there = All-filter keep (λ named. Contains (snapshot_ids snapshots) named.reference.snapshot_id) refs are.there;
  current = refl;
  sequence = are.sequence;
  logged = are.logged;
}

-- snapshots that are left, and the references to them
pub snapshots_left : (snapshots : List Snapshot) (refs : List NamedRef) (now : Option ℕ) (top : ℕ) (log : List SnapshotLogEntry)
    (gone : List ℕ) → SnapshotsAre snapshots refs now top log
    → SnapshotsAre (filter (λ snapshot. not (has_id snapshot.snapshot_id gone)) snapshots) (refs_to_others gone refs)
    (snapshot_named main (refs_to_others gone refs)) top log
snapshots_left snapshots refs now top log gone are = record {
  forms = All-filter (λ snapshot. not (has_id snapshot.snapshot_id gone)) IsSnapshot snapshots are.forms;
  differ = distinct_left (λ snapshot. snapshot.snapshot_id) (λ id. not (has_id id gone)) snapshots are.differ;
  ref_forms = All-filter kept IsNamedRef refs are.ref_forms;
  ordered = IsStrictlySortedBy-filter by_name kept refs are.ordered;
  there = λ k d within. contains_left (λ snapshot. snapshot.snapshot_id) (λ id. not (has_id id gone)) snapshots _
      (All-filter kept (λ named. Contains (snapshot_ids snapshots) named.reference.snapshot_id) refs are.there k d within)
      (filter_passes kept refs k d within);
  current = refl;
  sequence = are.sequence;
  logged = are.logged;
}
  where
    kept : NamedRef → Bool
    kept named = not (has_id named.reference.snapshot_id gone)
