-- What the calls of a file answer and leave.
use Rattle.std.specs.Prelude.{ℕ, ◌≡◌, ◌≤◌, List, Option}
use Rattle.pol_disk.specs.Disk.{Elapses}

-- what a call that only looks leaves: a read gives what it gave, and a crash may leave nothing that it might not have
-- left before
pub record OnlyLooks {F : Type 0} (seen : F → Option (List ℕ)) (size : F → Option ℕ) (may_leave : F → List ℕ → Type 0) (clock : F → ℕ) (left_since : F → ℕ → List ℕ → Type 0) (old new : F) : Type 0 where
  pub seen_same : seen new ≡ seen old
  pub size_same : size new ≡ size old
  pub fewer : (image : List ℕ) → may_leave new image → may_leave old image
  pub time : Elapses (clock old) (clock new) (left_since old) (left_since new) (may_leave new)

-- so many of what there is, and none only where there is none
pub record GivesSome (count most : ℕ) : Type 0 where
  pub no_more : count ≤ most
  pub none_at_end : count ≡ 0 → most ≡ 0
