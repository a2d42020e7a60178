-- The calls of an object whose faults are planned.
use Rattle.std.specs.Prelude.{ℕ, ◌==◌, Bool, List}
use Rattle.std.specs.List.{list_any}
use Rattle.pol_wire.specs.Faults.{next_count, count_after}

-- the numbers of the calls that are to fail, how many calls were made, and the count of faults
pub record CallLog : Type 0 where
  pub failing : List ℕ
  pub made : ℕ
  pub faults : ℕ

-- before the first call
abbrev pub first_log : List ℕ → CallLog
first_log failing = record { failing = failing; made = 0; faults = 0 }

-- the next call is to fail
abbrev pub is_listed : CallLog → Bool
is_listed log = list_any (λ number. number == next_count log.made) log.failing

-- after one more call, which failed or not
abbrev pub log_after : CallLog → Bool → CallLog
log_after log failed = record log {
  made = next_count log.made;
  faults = count_after log.faults failed;
}
