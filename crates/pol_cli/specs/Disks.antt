-- What the two disks tell before and after a run.
use Rattle.std.specs.Prelude.{◌≢◌, ℕ, List, Option, IfSome}
use Rattle.pol_journal.specs.Crash.{IsUntouched}

-- what a disk of a type tells: the ghost members of its trait in one value, so that a clause names them once
pub record Tells (D : Type 0) : Type 1 where
  pub seen : D → Option (List ℕ)
  pub size : D → Option ℕ
  pub may_leave : D → List ℕ → Type 0
  pub clock : D → ℕ
  pub left_since : D → ℕ → List ℕ → Type 0
  pub fault_count : D → ℕ

abbrev pub tells_of : {D : Type 0} → (D → Option (List ℕ)) → (D → Option ℕ) → (D → List ℕ → Type 0) → (D → ℕ) → (D → ℕ → List ℕ → Type 0) → (D → ℕ) → Tells D
tells_of seen size may_leave clock left_since fault_count = record {
  seen = seen;
  size = size;
  may_leave = may_leave;
  clock = clock;
  left_since = left_since;
  fault_count = fault_count;
}

-- of one disk: its bytes and its length before, where it tells them, and its count of faults before and after
pub record DiskTold : Type 0 where
  pub seen : Option (List ℕ)
  pub size : Option ℕ
  pub old : ℕ
  pub new : ℕ

pub record Both : Type 0 where
  pub catalogue : DiskTold
  pub objects : DiskTold

abbrev pub told_of : {D : Type 0} → Tells D → D → D → DiskTold
told_of d old new = record { seen = d.seen old; size = d.size old; old = d.fault_count old; new = d.fault_count new }

abbrev pub both_told : {D O : Type 0} → Tells D → Tells O → D → D → O → O → Both
both_told d o old new objects_old objects_new = record { catalogue = told_of d old new; objects = told_of o objects_old objects_new }

-- a disk isn't touched: it reads as before, and nothing else may be left of it
abbrev pub Stays : {D : Type 0} → Tells D → D → D → Type 0
Stays d old new = IsUntouched d.clock d.left_since d.may_leave d.seen d.size old new

-- a disk that has bytes isn't touched
abbrev pub StaysWithBytes : {D : Type 0} → Tells D → D → D → Type 0
StaysWithBytes d old new = IfSome (d.size old) (λ size. size ≢ 0 → Stays d old new)
