-- How lists of updates are gone through, and how the end of a log is counted.
use Rattle.std.proofs.Common.{ap, ◌≡◌, ◌<◌, ◌≤◌, ◌+◌, ◌-◌, ◌==◌, ℕ, Bool, true, false, List, length, drop, take, get_or, Ok, Err, refl, subst}
use Rattle.std.specs.List.{suffix_len}
use Rattle.std.proofs.lemmas.List.{drop_all, take_all}
use Rattle.std.proofs.lemmas.List.Sums.{suffix_len-take_no, suffix_len-take_yes}
use Rattle.pol_locations.specs.Location.{IsParseRefusal}
use Rattle.pol_locations.specs.declared.refused.LocationRefused.{LocationRefused}
use Rattle.pol_locations.specs.declared.refused.LocationRefused.TheVariants as location
use Rattle.pol_meta.specs.declared.log.SnapshotLogEntry.{SnapshotLogEntry}
use Rattle.pol_meta.specs.declared.metadata.TableMetadata.{TableMetadata}
use Rattle.pol_meta.specs.declared.snapshot.Snapshot.{Snapshot}
use Rattle.pol_drafts.proofs.PartitionLemmas.{drop_here}
use Rattle.pol_drafts.specs.Drafts.{Becomes, begun}
use Rattle.pol_updates.specs.Snapshots.{has_snapshot}
use Rattle.pol_updates.specs.Updates.{IsRefusal, after_each, after_one, in_turn, is_there, metadata_after, refused_at, settled}
use Rattle.pol_updates.specs.declared.refused.ApplyRefused.{ApplyRefused}
use Rattle.pol_updates.specs.declared.refused.ApplyRefused.TheVariants.{OutOfMemory, Refused}
use Rattle.pol_drafts.specs.declared.stop.Stop.{Stop}
use Rattle.pol_drafts.specs.declared.stop.Stop.TheVariants as stop
use Rattle.pol_drafts.specs.declared.draft.Draft.{Draft}
use Rattle.pol_updates.specs.declared.update.Update.{Update}

-- an update that is applied leaves those after it to the draft that it makes
pub after_next : (moment index : ℕ) (updates : List Update) (i : ℕ) (update : Update) (d next : Draft) → i < length updates → update ≡ get_or updates i update → after_one moment update d ≡ Ok next → after_each moment index (drop i updates) d ≡ after_each moment (index + 1) (drop (i + 1) updates) next
unfolding after_each in_turn
after_next moment index updates i update d next within here made =
    let step = drop_here updates i update within here in
    rw (step, made)

-- one that is refused ends the list
pub after_stop : (moment index : ℕ) (updates : List Update) (i : ℕ) (update : Update) (d now : Draft) (stopped : Stop) → i < length updates → update ≡ get_or updates i update → Becomes {A = Unit {0}} (after_one moment update d) (Err stopped) now → IsRefusal (after_each moment index (drop i updates) d) (refused_at index stopped)
unfolding after_each in_turn
after_stop moment index updates i update d now stop.OutOfMemory within here refused = tt
after_stop moment index updates i update d now (stop.Refused why) within here refused =
    let step = drop_here updates i update within here in
    rw (step, refused)

-- after the last update the draft is made
pub after_end : (moment index : ℕ) (updates : List Update) (i : ℕ) (d : Draft) → length updates ≤ i → after_each moment index (drop i updates) d ≡ Ok d
unfolding after_each in_turn
after_end moment index updates i d past = rw (drop_all i updates past)

pub ruleset turns = (after_next, after_stop, after_end)

-- a list that ends with a refusal makes no metadata
pub refused_after : (meta : TableMetadata) (version moment : ℕ) (updates : List Update) (refused : ApplyRefused) → (length updates == 0) ≡ false → IsRefusal (after_each moment 0 updates (begun meta)) refused → IsRefusal (metadata_after meta version updates moment) refused
unfolding metadata_after
refused_after meta version moment updates OutOfMemory some told = tt
refused_after meta version moment updates (Refused index why) some told = rw (some, told)

-- how an item before the end of those that pass counts
pub end_passes : {A : Type 0} (test : A → Bool) (items : List A) (n : ℕ) (item : A) → 0 < n → n ≤ length items → item ≡ get_or items (n - 1) item → test item ≡ true → suffix_len test (take n items) ≡ 1 + suffix_len test (take (n - 1) items)
end_passes test items n item some within here passes =
    suffix_len-take_yes test items n item some within (subst (λ x. test x ≡ true) here passes)

pub end_fails : {A : Type 0} (test : A → Bool) (items : List A) (n : ℕ) (item : A) → 0 < n → n ≤ length items → item ≡ get_or items (n - 1) item → test item ≡ false → suffix_len test (take n items) ≡ 0
end_fails test items n item some within here fails =
    suffix_len-take_no test items n item some within (subst (λ x. test x ≡ false) here fails)

pub ruleset ends = (take_all, end_passes, end_fails)

-- two tests of entries that agree have one such end
pub same_end : (snapshots : List Snapshot) (log : List SnapshotLogEntry) (has : ℕ → Bool)
    → ((id : ℕ) → has id ≡ has_snapshot snapshots id)
    → suffix_len (λ entry. has entry.snapshot_id) log ≡ suffix_len (is_there snapshots) log
same_end snapshots log has same = ap (λ test. suffix_len test log) (λ i entry. same entry.snapshot_id i)

-- a text that is refused for what it is, and not for want of memory, is no location
pub text_stays : (text : List ℕ) (why : LocationRefused) → IsParseRefusal text why → (why ≡ location.OutOfMemory → ⊥) → settled text ≡ text
text_stays text location.OutOfMemory told other = absurd (other refl)
text_stays text location.BadScheme told other = rw told
text_stays text location.EmptySegment told other = rw told
text_stays text location.DotSegment told other = rw told
text_stays text location.ControlByte told other = rw told
text_stays text location.TooLong told other = rw told
