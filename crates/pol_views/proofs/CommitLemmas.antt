-- How lists of updates of a view are gone through.
use Rattle.std.proofs.Common.{◌≡◌, ◌<◌, ◌≤◌, ◌+◌, ◌==◌, ℕ, false, List, length, drop, get_or, Ok, Err}
use Rattle.std.proofs.lemmas.List.{drop_all}
use Rattle.pol_drafts.proofs.PartitionLemmas.{drop_here}
use Rattle.pol_drafts.specs.Drafts.{Becomes}
use Rattle.pol_drafts.specs.declared.stop.Stop.{Stop}
use Rattle.pol_drafts.specs.declared.stop.Stop.TheVariants as stop
use Rattle.pol_updates.specs.Updates.{IsRefusal, in_turn, refused_at}
use Rattle.pol_updates.specs.declared.refused.ApplyRefused.{ApplyRefused}
use Rattle.pol_updates.specs.declared.refused.ApplyRefused.TheVariants.{OutOfMemory, Refused}
use Rattle.pol_views.specs.Updates.{after_each, after_one, begun, view_after}
use Rattle.pol_views.specs.declared.draft.ViewDraft.{ViewDraft}
use Rattle.pol_views.specs.declared.metadata.ViewMetadata.{ViewMetadata}
use Rattle.pol_views.specs.declared.update.ViewUpdate.{ViewUpdate}

-- an update that is applied leaves those after it to the draft that it makes
pub after_next : (moment index : ℕ) (updates : List ViewUpdate) (i : ℕ) (update : ViewUpdate) (d next : ViewDraft) → i < length updates → update ≡ get_or updates i update → after_one moment update d ≡ Ok next → after_each moment index (drop i updates) d ≡ after_each moment (index + 1) (drop (i + 1) updates) next
unfolding after_each in_turn
after_next moment index updates i update d next within here made =
    let step = drop_here updates i update within here in
    rw (step, made)

-- one that is refused ends the list
pub after_stop : (moment index : ℕ) (updates : List ViewUpdate) (i : ℕ) (update : ViewUpdate) (d now : ViewDraft) (stopped : Stop) → i < length updates → update ≡ get_or updates i update → Becomes {A = Unit {0}} (after_one moment update d) (Err stopped) now → IsRefusal (after_each moment index (drop i updates) d) (refused_at index stopped)
unfolding after_each in_turn
after_stop moment index updates i update d now stop.OutOfMemory within here refused = tt
after_stop moment index updates i update d now (stop.Refused why) within here refused =
    let step = drop_here updates i update within here in
    rw (step, refused)

-- after the last update the draft is made
pub after_end : (moment index : ℕ) (updates : List ViewUpdate) (i : ℕ) (d : ViewDraft) → length updates ≤ i → after_each moment index (drop i updates) d ≡ Ok d
unfolding after_each in_turn
after_end moment index updates i d past = rw (drop_all i updates past)

pub ruleset turns = (after_next, after_stop, after_end)

-- a list that ends with a refusal makes no metadata
pub refused_after : (meta : ViewMetadata) (updates : List ViewUpdate) (moment : ℕ) (refused : ApplyRefused) → (length updates == 0) ≡ false → IsRefusal (after_each moment 0 updates (begun meta)) refused → IsRefusal (view_after meta updates moment) refused
unfolding view_after
refused_after meta updates moment OutOfMemory some told = tt
refused_after meta updates moment (Refused index why) some told = rw (some, told)
