-- A draw whose words are listed.
use Rattle.std.specs.Prelude.{ℕ, ◌+◌, if◌then◌else◌, List, slice_index, slice_get, Option, None, Result, is_err, is_ok}
use Rattle.pol_wire.specs.Calls.{CallLog, is_listed, log_after, first_log}

-- the words, how many were drawn, and the calls
pub record DrawState : Type 0 where
  pub words : List ℕ
  pub drawn : ℕ
  pub calls : CallLog

-- before the first call
abbrev pub first_draw : List ℕ → List ℕ → DrawState
first_draw words failing = record { words = words; drawn = 0; calls = first_log failing }

-- the words from the next one on. No call gives what stands here past the last word
abbrev pub words_left : DrawState → ℕ → ℕ
words_left s n = slice_index s.words (s.drawn + n)

-- the word that the next call gives, or None where it fails: a call that is to fail, or one past
-- the last word
abbrev pub next_word : DrawState → Option ℕ
next_word s = if is_listed s.calls then None else slice_get s.words s.drawn

-- after a call with this answer
abbrev pub draw_after : {E : Type 0} → DrawState → Result ℕ E → DrawState
draw_after s answer = record s {
  drawn = s.drawn + (if is_ok answer then 1 else 0);
  calls = log_after s.calls (is_err answer);
}
