-- Counters that may follow those of a sound state, and ids and serials that are new by them.
use Rattle.std.specs.Prelude.{◌^◌, ℕ, Bool, ◌&&◌, nat_le, nat_lt}
use Rattle.pol_access_steps.specs.declared.counters.Counters.{Counters}
use Rattle.pol_sound_bounds.specs.Judged.{counters_fit}
use Rattle.pol_state.specs.Rows.{Rows}

-- a state with other counters
abbrev pub counted : Rows → Counters → Rows
counted s counters = record s { time = counters.time; next_id = counters.next_id; next_serial = counters.next_serial }

-- counters that may follow those of a state: what was given out stays given out, and none is above its bound
abbrev pub may_follow : Rows → Counters → Bool
may_follow s counters =
    nat_le counters.time (2 ^ 62)
    && (nat_le s.next_id counters.next_id
    && (nat_le s.next_serial counters.next_serial && counters_fit counters.next_id counters.next_serial))

-- an id and a serial that are given out with these counters, and weren't before
abbrev pub is_new_id : Rows → Counters → ℕ → Bool
is_new_id s counters id = nat_le s.next_id id && nat_lt id counters.next_id

abbrev pub is_new_serial : Rows → Counters → ℕ → Bool
is_new_serial s counters serial = nat_le s.next_serial serial && nat_lt serial counters.next_serial
