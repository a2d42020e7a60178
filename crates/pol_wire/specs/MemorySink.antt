-- A sink of bytes in memory.
use Rattle.std.specs.Prelude.{ℕ, List, ◌++◌, take, Result, is_err}
use Rattle.std.specs.Result.{result_unwrap_or}
use Rattle.pol_wire.specs.Calls.{CallLog, log_after, first_log}

-- the bytes that it was given, the most that one call takes, and the calls
pub record SinkState : Type 0 where
  pub bytes : List ℕ
  pub most : ℕ
  pub calls : CallLog

-- before the first call
abbrev pub first_sink : List ℕ → ℕ → List ℕ → SinkState
first_sink bytes most failing = record { bytes = bytes; most = most; calls = first_log failing }

-- after a call with this piece and this answer
abbrev pub sink_after : {E : Type 0} → SinkState → List ℕ → Result ℕ E → SinkState
sink_after s piece answer = record s {
  bytes = s.bytes ++ take (result_unwrap_or answer 0) piece;
  calls = log_after s.calls (is_err answer);
}
