-- Laws of the state after changes, and of states from which it is judged.
use Rattle.std.specs.Prelude.{◌≡◌, List}
use Rattle.pol_content.specs.declared.change.Change.{Change}
use Rattle.pol_sound_content.specs.Valid.{HasValidParts}
use Rattle.pol_soundness.specs.Base.{rows_after}
use Rattle.pol_state.specs.Applied.{applied}
use Rattle.pol_state.specs.Rows.{Rows, empty_state}
use Rattle.pol_state.specs.Sound.{IsSound}

-- the metadata of a sound state are valid
abbrev pub SoundStatesAreValid : Type 0
SoundStatesAreValid = (s : Rows) → IsSound s → HasValidParts s.content

-- and those of the empty state are
abbrev pub EmptyStateIsValid : Type 0
EmptyStateIsValid = HasValidParts empty_state.content

-- changes that are applied with the time to which they lead, and without a charge, lead to the state after them
abbrev pub AppliedAtTheirTime : Type 0
AppliedAtTheirTime = (changes : List Change) (s : Rows) → applied changes (rows_after changes s).time 0 s ≡ rows_after changes s
