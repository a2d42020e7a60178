-- What a crash may leave through a run of calls of a disk.
use Rattle.std.specs.Prelude.{ℕ, ◌≡◌, ◌≤◌, min, List, length, take, Option}
use Rattle.pol_disk.specs.Disk.{Follows, LeavesOnly}

-- bytes that come of such bytes by a step
abbrev pub After : (List ℕ → List ℕ → Type 0) → (List ℕ → Type 0) → List ℕ → Type 0
After Step may_leave image = (before : List ℕ) × may_leave before × Step before image

-- each image at each moment from the old disk to the new one comes of an image of the old one by such a step
pub record LeavesAfter {D : Type 0} (clock : D → ℕ) (left_since : D → ℕ → List ℕ → Type 0) (may_leave : D → List ℕ → Type 0) (Step : List ℕ → List ℕ → Type 0) (old new : D) : Type 0 where
  pub moments : LeavesOnly clock left_since old new (After Step (may_leave old))
  pub now : Follows Step (may_leave old) (may_leave new)

-- the bytes in front of a place stay, as far as there are any, and none is lost
pub record KeepsFront (at : ℕ) (old new : List ℕ) : Type 0 where
  pub front : take (min at (length old)) new ≡ take at old
  pub no_shorter : length old ≤ length new

-- nothing changes
abbrev pub IsSame : List ℕ → List ℕ → Type 0
IsSame old new = new ≡ old

-- the disk reads as before, and each image at each moment is one of the old disk's
pub record IsUntouched {D : Type 0} (clock : D → ℕ) (left_since : D → ℕ → List ℕ → Type 0) (may_leave : D → List ℕ → Type 0) (seen : D → Option (List ℕ)) (size : D → Option ℕ) (old new : D) : Type 0 where
  pub seen_same : seen new ≡ seen old
  pub size_same : size new ≡ size old
  pub images : LeavesAfter clock left_since may_leave IsSame old new
