-- Storage tokens that are issued, and what they open.
use Rattle.std.specs.Prelude.{ℕ, ◌+◌, Bool, true, false, List, Option, Some, None, if◌then◌else◌}
use Rattle.pol_locations.specs.Location.{is_cover}
use Rattle.pol_table_rows.specs.declared.row.TableRow.{TableRow}
use Rattle.pol_tokens.specs.declared.token.Act.{Act}
use Rattle.pol_tokens.specs.declared.token.Act.TheVariants.{Read, Write}
use Rattle.pol_tokens.specs.declared.token.TokenRefused.{TokenRefused}
use Rattle.pol_tokens.specs.declared.token.TokenRefused.TheVariants.{NotCovered, NotWritable}
use Rattle.pol_tokens.specs.declared.token.TokenRow.{TokenRow}
use Rattle.pol_tokens.specs.declared.token.Words.{Words}

-- the storage token of a table that is issued at a moment: it keeps the table's id, its count of moves and its
-- location, and lasts a quarter of an hour
abbrev pub issued : TableRow → ℕ → Bool → ℕ → Words → TokenRow
issued table principal write now words = record {
  serial = words.serial;
  word_a = words.word_a;
  word_b = words.word_b;
  principal = principal;
  table = table.id;
  moves = table.moves;
  location = table.location;
  write = write;
  expires = now + 900000;
}

-- whether an act writes
abbrev pub is_write : Act → Bool
is_write Read = false
is_write Write = true

-- why an act isn't allowed by a token with or without the right to write
abbrev pub unwritable : Bool → Act → Option TokenRefused
unwritable write Read = None
unwritable write Write = if write then None else Some NotWritable

-- why a token doesn't open a path for an act: its location doesn't cover the path, or else the act writes and the token
-- doesn't
abbrev pub not_allowed : TokenRow → List (List ℕ) → Act → Option TokenRefused
not_allowed token path act = if is_cover token.location path then unwritable token.write act else Some NotCovered
