-- A store as a pass holds it.
use Rattle.std.specs.Prelude.{ℕ, List, Option}
use Rattle.pol_journal.specs.Journal.{JournalState}
use Rattle.pol_kept.specs.Images.{KeepsImages}
use Rattle.pol_shared.specs.Seen.{Seen}

-- what the pass has seen, and the journal
pub record Held (D : Type 0) : Type 0 where
  pub seen : Seen
  pub journal : JournalState D

-- what a crash at any moment since the opening may have left of its journal, which had these bodies then
abbrev pub HoldsImages : {D : Type 0} → (D → Option (List ℕ)) → (D → List ℕ → Type 0) → (D → ℕ) → (D → ℕ → List ℕ → Type 0) → (D → ℕ) → List (List ℕ) → Held D → Type 0
HoldsImages seen may_leave clock left_since fault_count opening held =
    KeepsImages seen may_leave clock left_since fault_count opening held.seen.base held.seen.front held.journal
