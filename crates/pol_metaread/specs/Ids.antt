-- Numbers that a metadata alone has.
use Rattle.std.specs.Prelude.{ℕ}
use Rattle.pol_readers.specs.Shape.{Shape, whole_number}

-- the last id that was given to a partition field, or the one before all of them (Iceberg table spec, Partition
-- Evolution)
abbrev pub last_field_id : Shape ℕ
last_field_id = whole_number 999 2147483647

-- ids of snapshots, sequence numbers and times; and what is to be kept of a reference (Iceberg table spec, Snapshots and
-- Snapshot References)
abbrev pub long : Shape ℕ
long = whole_number 0 9223372036854775807

abbrev pub kept : Shape ℕ
kept = whole_number 1 9223372036854775807

-- the format version
abbrev pub version : Shape ℕ
version = whole_number 2 2
