-- When what came agrees with what an example wants, and at which line a difference is shown.
use Rattle.std.specs.Prelude.{◌≡◌, ◌≢◌, ◌⊎◌, ℕ, ◌-◌, nat_lt, List, length, take, Option, unwrap_or, position, IfSome}
use Rattle.std.specs.List.{slice_get}
use Rattle.std.specs.Option.{option_map}
use Rattle.pol_examples.specs.declared.example.Example.{Example}
use Rattle.pol_examples.specs.declared.files.Held.{Held}
use Rattle.pol_examples.specs.declared.files.Holds.{Holds}
use Rattle.pol_examples.specs.declared.script.Part.{Part}

-- a run agrees with an example: its output has the very bytes, and it ends with the status and the reason that are said
pub record Agrees (example : Example) (output : List ℕ) (status : ℕ) (reason : List ℕ) : Type 0 where
  pub output_is : output ≡ example.script.output.items
  pub status_is : status ≡ example.end.status
  pub reason_is : reason ≡ example.end.reason

-- a disk holds these bytes at the end of a run, where an example says it
abbrev pub IsHeld : Option Held → List ℕ → Type 0
IsHeld held bytes = IfSome held (λ wanted. bytes ≡ wanted.bytes.items)

-- both disks do
pub record AreHeld (holds : Holds) (catalogue objects : List ℕ) : Type 0 where
  pub catalogue_is : IsHeld holds.catalogue catalogue
  pub objects_is : IsHeld holds.objects objects

-- the first place at which two lists differ, or that only one of them has
pub record IsFirstDifference (wanted got : List ℕ) (place : ℕ) : Type 0 where
  pub before : take place wanted ≡ take place got
  pub there : slice_get wanted place ≢ slice_get got place

-- the index of the part that a place falls in, or of the last part where it is behind all
abbrev pub index_at : List Part → ℕ → ℕ
index_at parts place = unwrap_or (position (λ part. nat_lt place part.end) parts) (length parts - 1)

-- the line of that part
abbrev pub line_at : List Part → ℕ → Option ℕ
line_at parts place = option_map (λ part. part.line) (slice_get parts (index_at parts place))

-- the line at which a difference is shown: that of the part of the output in which it is, else that of the end
abbrev pub IsShownAt : Example → List ℕ → ℕ → Type 0
IsShownAt example output line =
    ((place : ℕ) × IsFirstDifference example.script.output.items output place
    × (line ≡ unwrap_or (line_at example.script.parts.items place) example.line))
    ⊎ ((output ≡ example.script.output.items) × (line ≡ example.end.line))
