-- A draw that counts.
use Rattle.std.specs.Prelude.{ℕ, ◌+◌, ◌%◌, ◌^◌, if◌then◌else◌, List, Option, Some, None, Result, is_err, is_ok}
use Rattle.pol_wire.specs.Calls.{CallLog, is_listed, log_after, first_log}

-- the next word, and the calls
pub record CountingState : Type 0 where
  pub next : ℕ
  pub calls : CallLog

-- before the first call
abbrev pub first_count : List ℕ → CountingState
first_count failing = record { next = 0; calls = first_log failing }

-- the words from the next one on
abbrev pub counted_words : CountingState → ℕ → ℕ
counted_words s n = (s.next + n) % 2 ^ 64

-- the word that the next call gives, or None where it is to fail
abbrev pub next_counted : CountingState → Option ℕ
next_counted s = if is_listed s.calls then None else Some s.next

-- after a call with this answer
abbrev pub draw_after : {E : Type 0} → CountingState → Result ℕ E → CountingState
draw_after s answer = record s {
  next = if is_ok answer then (s.next + 1) % 2 ^ 64 else s.next;
  calls = log_after s.calls (is_err answer);
}
