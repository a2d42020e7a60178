-- A source of bytes in memory.
use Rattle.std.specs.Prelude.{ℕ, ◌+◌, ◌-◌, nat_lt, if◌then◌else◌, min, List, length, drop, filter, fold, Option, Some, None, Result, is_err}
use Rattle.std.specs.Result.{result_unwrap_or}
use Rattle.pol_wire.specs.Calls.{CallLog, is_listed, log_after, first_log}

-- all bytes, the places where a piece ends, how many bytes were taken, and the calls
pub record SourceState : Type 0 where
  pub bytes : List ℕ
  pub ends : List ℕ
  pub taken : ℕ
  pub calls : CallLog

-- before the first call
abbrev pub first_source : List ℕ → List ℕ → List ℕ → SourceState
first_source bytes ends failing = record {
  bytes = bytes;
  ends = ends;
  taken = 0;
  calls = first_log failing;
}

-- the bytes that weren't taken yet
abbrev pub left_of : SourceState → List ℕ
left_of s = drop s.taken s.bytes

-- the nearest of these places past `from`, or `last` where none is nearer
unfoldable pub nearest_past : List ℕ → ℕ → ℕ → ℕ
nearest_past places from last = fold min last (filter (λ place. nat_lt from place) places)

-- the place where the piece that is taken now ends: no call goes past it
abbrev pub piece_end : SourceState → ℕ
piece_end s = nearest_past s.ends s.taken (length s.bytes)

-- how many bytes the next call gives to a buffer of this length, or None where it is to fail
abbrev pub count_given : SourceState → ℕ → Option ℕ
count_given s room = if is_listed s.calls then None else Some (min room (piece_end s - s.taken))

-- after a call with this answer
abbrev pub source_after : {E : Type 0} → SourceState → Result ℕ E → SourceState
source_after s answer = record s {
  taken = s.taken + result_unwrap_or answer 0;
  calls = log_after s.calls (is_err answer);
}
