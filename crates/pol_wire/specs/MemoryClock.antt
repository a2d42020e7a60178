-- A clock whose moments are listed.
use Rattle.std.specs.Prelude.{ℕ, ◌+◌, ◌-◌, min, List, length, slice_index}
use Rattle.pol_wire.specs.Faults.{next_count}
use Rattle.pol_wire.specs.declared.clock.TheConstants.{LAST_MOMENT}

-- the moments, and how many were read: that count stands still at its last value
pub record ClockState : Type 0 where
  pub moments : List ℕ
  pub read : ℕ

-- before the first call
abbrev pub first_clock : List ℕ → ClockState
first_clock moments = record { moments = moments; read = 0 }

-- moment n of these, counted from 0: the last one stays, an empty list stands for moment 0, and a
-- moment past the last that a clock answers is cut
abbrev pub moment_at : List ℕ → ℕ → ℕ
moment_at moments n = min (slice_index moments (min n (length moments - 1))) LAST_MOMENT

-- the moments from the next one on
abbrev pub moments_of : ClockState → ℕ → ℕ
moments_of s n = moment_at s.moments (s.read + n)

-- after one more call
abbrev pub clock_after : ClockState → ClockState
clock_after s = record s { read = next_count s.read }
