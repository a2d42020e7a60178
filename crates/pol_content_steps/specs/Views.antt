-- The tests that views pass which may be put into a sound state.
use Rattle.std.specs.Prelude.{Bool, ◌&&◌, ◌||◌, nat_eq, nat_le, nat_lt, length}
use Rattle.std.specs.Str.{bytes_eq}
use Rattle.pol_commands.specs.declared.reply.Quantity.TheVariants as quantity
use Rattle.pol_content.specs.Content.{namespace_id}
use Rattle.pol_sound_bounds.specs.Judged.{view_fits}
use Rattle.pol_sound_content.specs.Judged.{is_located}
use Rattle.pol_content_steps.specs.Names.{is_name_free, may_take_name}
use Rattle.pol_access_steps.specs.Counters.{is_new_id}
use Rattle.pol_access_steps.specs.declared.counters.Counters.{Counters}
use Rattle.pol_state.specs.Bounds.{bound_of}
use Rattle.pol_state.specs.Rows.{Rows}
use Rattle.pol_tables.specs.Table.{knows}
use Rattle.pol_view_rows.specs.declared.row.ViewRow.{ViewRow}

-- a view by itself: its metadata has at most 100 versions, and no number of it is above its bound
abbrev pub is_view : ViewRow → Bool
is_view row = nat_le (length row.metadata.versions) 100 && view_fits row

-- a view that may be put beside the others
abbrev pub is_view_new : Rows → Counters → ViewRow → Bool
is_view_new s counters row =
    is_new_id s counters row.id
    && (knows namespace_id row.namespace s.content.namespaces
    && (is_name_free row.namespace row.name s.content
    && (nat_lt (length s.content.views) (bound_of quantity.Views) && is_view row)))

abbrev pub may_place_view : Rows → Counters → ViewRow → Bool
may_place_view s counters row = is_view_new s counters row && is_located row

-- a view that may be put in the place of one of its id: it has the name of that one, or one that it may get
abbrev pub keeps_view_name : ViewRow → ViewRow → Bool
keeps_view_name old row = nat_eq row.namespace old.namespace && bytes_eq row.name old.name

abbrev pub has_view_name : Rows → ViewRow → ViewRow → Bool
has_view_name s old row =
    keeps_view_name old row || may_take_name old.namespace row.namespace row.name s.content

abbrev pub may_replace_view : Rows → ViewRow → ViewRow → Bool
may_replace_view s old row = (has_view_name s old row && is_view row) && is_located row
