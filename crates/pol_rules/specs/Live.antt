-- The live part of a state, and agreement of states: they differ at most in what no longer counts.
use Rattle.std.specs.Prelude.{◌≡◌, ◌&&◌, Bool, filter, nat_lt}
use Rattle.pol_access.specs.Access.{principal_id}
use Rattle.pol_tables.specs.Table.{knows}
use Rattle.pol_tokens.specs.Tokens.{TokenRows}
use Rattle.pol_tokens.specs.declared.session.SessionRow.{SessionRow}
use Rattle.pol_tokens.specs.declared.token.TokenRow.{TokenRow}
use Rattle.pol_state.specs.Rows.{Rows}

-- whether a session is live: the state's time hasn't reached its expiry, and its principal is there
abbrev pub is_live : Rows → SessionRow → Bool
is_live s row = nat_lt s.time row.expires && knows principal_id row.principal s.access.principals

-- and a storage token: it is live whether or not its principal and its table are there
abbrev pub is_unexpired : Rows → TokenRow → Bool
is_unexpired s row = nat_lt s.time row.expires

abbrev pub live_tokens : Rows → TokenRows
live_tokens s = record { sessions = filter (is_live s) s.tokens.sessions; tokens = filter (is_unexpired s) s.tokens.tokens }

-- the state without sessions and storage tokens that aren't live
abbrev pub live_part : Rows → Rows
live_part s = record s { tokens = live_tokens s }

-- the live parts of the states are equal
abbrev pub Agree : Rows → Rows → Type 0
Agree s t = live_part s ≡ live_part t
