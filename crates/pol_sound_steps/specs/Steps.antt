-- The tests that sessions, storage tokens and tables pass which changes may put into a sound state. Each looks at the rows
-- that it names alone.
use Rattle.std.specs.Prelude.{◌+◌, Bool, ◌&&◌, nat_eq, nat_le, nat_lt, [], ◌∷◌, length, is_none}
use Rattle.std.specs.Str.{bytes_eq}
use Rattle.pol_access_steps.specs.Counters.{is_new_id, is_new_serial}
use Rattle.pol_commands.specs.declared.reply.Quantity.TheVariants as quantity
use Rattle.pol_content.specs.Content.{namespace_id}
use Rattle.pol_content_steps.specs.Names.{is_name_free, may_take_name}
use Rattle.pol_sound_bounds.specs.Judged.{table_fits}
use Rattle.pol_sound_content.specs.Judged.{is_placed}
use Rattle.pol_access_steps.specs.declared.counters.Counters.{Counters}
use Rattle.pol_soundness.specs.Judged.{fits_table, is_fit, is_session, is_token, same_place}
use Rattle.pol_state.specs.Bounds.{bound_of}
use Rattle.pol_state.specs.Rows.{Rows}
use Rattle.pol_table_rows.specs.Tables.{overlapping}
use Rattle.pol_table_rows.specs.declared.row.TableRow.{TableRow}
use Rattle.pol_tables.specs.Table.{knows}
use Rattle.pol_tokens.specs.declared.session.SessionRow.{SessionRow}
use Rattle.pol_tokens.specs.declared.token.TokenRow.{TokenRow}

-- a session that may be opened
abbrev pub may_open : Rows → Counters → SessionRow → Bool
may_open s counters row = is_new_serial s counters row.serial && is_session counters.next_id row

-- a storage token that may be issued, of a table of the state, and of one that was put before it
abbrev pub is_issued : Rows → Counters → TokenRow → Bool
is_issued s counters row = is_new_serial s counters row.serial && is_token counters.next_id row

abbrev pub may_issue : Rows → Counters → TokenRow → Bool
may_issue s counters row = is_issued s counters row && fits_table s.content.tables row

abbrev pub may_issue_of : Rows → Counters → TableRow → TokenRow → Bool
may_issue_of s counters table row = is_issued s counters row && (nat_eq row.table table.id && is_fit row table)

-- a table by itself: it has moved by commits, or once besides, and no number of it is above its bound
abbrev pub is_row : TableRow → Bool
is_row row = nat_le row.moves (row.version + 1) && table_fits row

-- a table that may be put beside the others
abbrev pub is_table_new : Rows → Counters → TableRow → Bool
is_table_new s counters row =
    is_new_id s counters row.id
    && (knows namespace_id row.namespace s.content.namespaces
    && (is_name_free row.namespace row.name s.content
    && (nat_lt (length s.content.tables) (bound_of quantity.Tables)
    && (is_row row && is_none (overlapping row.location [] s.content.tables)))))

abbrev pub may_place_table : Rows → Counters → TableRow → Bool
may_place_table s counters row = is_table_new s counters row && is_placed row

-- a table that may be put in the place of one of its name
abbrev pub keeps_name : TableRow → TableRow → Bool
keeps_name old row = nat_eq row.namespace old.namespace && bytes_eq row.name old.name

-- where it lies where the other lay
abbrev pub stays : TableRow → TableRow → Bool
stays old row =
    same_place row.location old.location
    && (bytes_eq row.metadata.location old.metadata.location && nat_le old.moves row.moves)

abbrev pub is_commit : TableRow → TableRow → Bool
is_commit old row = keeps_name old row && (is_row row && stays old row)

-- and where it has moved from there
abbrev pub has_left : Rows → TableRow → TableRow → Bool
has_left s old row =
    nat_lt old.moves row.moves && is_none (overlapping row.location (row.id ∷ []) s.content.tables)

abbrev pub is_move : Rows → TableRow → TableRow → Bool
is_move s old row = keeps_name old row && (is_row row && (has_left s old row && is_placed row))

-- a table that may be put in the place of one of another name, where it lies where that one lay
abbrev pub is_rename : Rows → TableRow → TableRow → Bool
is_rename s old row = may_take_name old.namespace row.namespace row.name s.content && (is_row row && stays old row)
