-- What the calls of a disk do to its bytes, and what a crash may leave.
use Rattle.std.specs.Prelude.{ℕ, ◌≡◌, ◌+◌, ◌≤◌, ◌⊎◌, max, List, ◌++◌, length, take, drop, Option, Some, None, ⊤}

-- what was told is told still, and stands so to what it was; what wasn't told isn't told now
abbrev pub Told : {A : Type 0} → (A → A → Type 0) → Option A → Option A → Type 0
Told R None None = ⊤
Told R None (Some new) = ⊥
Told R (Some old) None = ⊥
Told R (Some old) (Some new) = R old new

-- these items stand from a place on, over what stood there, and all else is as it was
abbrev pub written : {A : Type 0} → ℕ → List A → List A → List A
written at items old = take at old ++ items ++ drop (at + length items) old

-- what a write from a start to an end may leave, cut off at any point: between them and past the old end any bytes
-- stand, or none past the old end, and all else is as it was
pub record Torn (start end : ℕ) (old new : List ℕ) : Type 0 where
  pub middle : List ℕ
  pub around : new ≡ take start old ++ middle ++ drop end old
  pub no_shorter : length old ≤ length new
  pub no_longer : length new ≤ max (length old) end

-- what a cut to a length may leave, cut off at any point: what lies past the length holds any bytes or is gone
pub record CutShort (kept : ℕ) (old new : List ℕ) : Type 0 where
  pub front : take kept new ≡ take kept old
  pub no_longer : length new ≤ length old

-- a length after a write that may have failed: between the old one and that of the whole write
pub record Grows (end old new : ℕ) : Type 0 where
  pub no_shorter : old ≤ new
  pub no_longer : new ≤ max old end

-- each new image is an old one after such a step
abbrev pub Follows : (List ℕ → List ℕ → Type 0) → (List ℕ → Type 0) → (List ℕ → Type 0) → Type 0
Follows Step old new = (image : List ℕ) → new image → (before : List ℕ) × old before × Step before image

-- no image but what a read gives, where that is told
abbrev pub IsDurable : Option (List ℕ) → (List ℕ → Type 0) → Type 0
IsDurable None may_leave = ⊤
IsDurable (Some bytes) may_leave = (image : List ℕ) → may_leave image → image ≡ bytes

-- Time goes on through a call: a crash since an earlier moment may have left what it might have left before the
-- call, or what it may leave now.
pub record Elapses (before now : ℕ) (past since : ℕ → List ℕ → Type 0) (may_leave : List ℕ → Type 0) : Type 0 where
  pub later : before ≤ now
  pub nothing_else : (t : ℕ) (image : List ℕ) → t ≤ before → since t image → past t image ⊎ may_leave image
  pub keeps : (t : ℕ) (image : List ℕ) → t ≤ before → past t image → since t image

-- what a crash at any moment from the old disk to the new one may have left has P
pub record LeavesOnly {D : Type 0} (clock : D → ℕ) (left_since : D → ℕ → List ℕ → Type 0) (old new : D) (P : List ℕ → Type 0) : Type 0 where
  pub later : clock old ≤ clock new
  pub each : (image : List ℕ) → left_since new (clock old) image → P image
  -- for a run that began earlier
  pub before : (t : ℕ) (image : List ℕ) → t ≤ clock old → left_since new t image → left_since old t image ⊎ P image
