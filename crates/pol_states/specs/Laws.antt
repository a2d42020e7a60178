-- Laws of the changes that make a state anew.
use Rattle.std.specs.Prelude.{◌≡◌}
use Rattle.pol_state.specs.Applied.{applied}
use Rattle.pol_state.specs.Changes.{changes_between}
use Rattle.pol_state.specs.Rows.{empty_state, Rows}
use Rattle.pol_state.specs.Sound.{IsSound}
use Rattle.pol_states.specs.Whole.{listed_state}

-- the changes from the empty state to a sound one lead to it, as it is listed
abbrev pub AllChangesMakeState : Type 0
AllChangesMakeState = (s : Rows) → IsSound s → applied (changes_between empty_state s) s.time 0 empty_state ≡ listed_state s

-- and that is sound
abbrev pub ListedStateIsSound : Type 0
ListedStateIsSound = (s : Rows) → IsSound s → IsSound (listed_state s)
