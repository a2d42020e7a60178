-- The tokens that were given out, as contracts see them.
use Rattle.std.specs.Prelude.{ℕ, Bool, List, Option}
use Rattle.pol_tokens.specs.Chains.{count_held as count_held_by}
use Rattle.pol_tokens.specs.HeldTable.{find_text, spells}
use Rattle.pol_tokens.specs.declared.session.SessionRow.{SessionRow}
use Rattle.pol_tokens.specs.declared.token.TokenRow.{TokenRow}

-- the rows, in the order in which they were put
pub record TokenRows : Type 0 where
  pub sessions : List SessionRow
  pub tokens : List TokenRow

-- how many more rows need no memory
pub record TokensRoom : Type 0 where
  pub sessions : ℕ
  pub tokens : ℕ

pub record TokensValue : Type 0 where
  pub rows : TokenRows
  pub room : TokensRoom

-- the number that a session and a storage token are known by, its two words, the principal that has it, and its expiry
abbrev pub serial_of : SessionRow → ℕ
serial_of row = row.serial

abbrev pub token_serial : TokenRow → ℕ
token_serial row = row.serial

abbrev pub session_a : SessionRow → ℕ
session_a row = row.word_a

abbrev pub session_b : SessionRow → ℕ
session_b row = row.word_b

abbrev pub session_holder : SessionRow → ℕ
session_holder row = row.principal

abbrev pub session_expiry : SessionRow → ℕ
session_expiry row = row.expires

abbrev pub token_a : TokenRow → ℕ
token_a row = row.word_a

abbrev pub token_b : TokenRow → ℕ
token_b row = row.word_b

abbrev pub token_holder : TokenRow → ℕ
token_holder row = row.principal

abbrev pub token_expiry : TokenRow → ℕ
token_expiry row = row.expires

-- whether this is the text of a session's token, and of a storage token
abbrev pub has_text : List ℕ → SessionRow → Bool
has_text text row = spells serial_of session_a session_b text row

abbrev pub token_has_text : List ℕ → TokenRow → Bool
token_has_text text row = spells token_serial token_a token_b text row

-- the session, and the storage token, of this text that has not expired at this moment
abbrev pub find_session : List ℕ → ℕ → TokenRows → Option SessionRow
find_session text now tokens = find_text serial_of session_a session_b session_expiry text now tokens.sessions

abbrev pub find_token : List ℕ → ℕ → TokenRows → Option TokenRow
find_token text now tokens = find_text token_serial token_a token_b token_expiry text now tokens.tokens

-- how many sessions, and how many storage tokens, a principal has that have not expired at a moment
abbrev pub session_count : ℕ → ℕ → TokenRows → ℕ
session_count principal now tokens = count_held_by session_holder session_expiry principal now tokens.sessions

abbrev pub token_count : ℕ → ℕ → TokenRows → ℕ
token_count principal now tokens = count_held_by token_holder token_expiry principal now tokens.tokens
