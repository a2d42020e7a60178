-- The tests that new namespaces pass which changes may put into a sound state.
use Rattle.std.specs.Prelude.{Bool, ◌&&◌, nat_lt, length, is_none}
use Rattle.pol_access_steps.specs.Counters.{is_new_id}
use Rattle.pol_access_steps.specs.declared.counters.Counters.{Counters}
use Rattle.pol_commands.specs.declared.reply.Quantity.TheVariants as quantity
use Rattle.pol_content.specs.Content.{catalog_id, namespace_named}
use Rattle.pol_content.specs.declared.rows.NamespaceRow.{NamespaceRow}
use Rattle.pol_sound_bounds.specs.Judged.{namespace_fits}
use Rattle.pol_sound_content.specs.Judged.{has_parent}
use Rattle.pol_state.specs.Bounds.{bound_of}
use Rattle.pol_state.specs.Rows.{Rows}
use Rattle.pol_tables.specs.Table.{knows}

-- a namespace that may be put beside the others
abbrev pub is_namespace_new : Rows → Counters → NamespaceRow → Bool
is_namespace_new s counters row =
    is_new_id s counters row.id
    && (knows catalog_id row.catalog s.content.catalogs
    && (is_none (namespace_named row.catalog row.levels s.content)
    && (nat_lt (length s.content.namespaces) (bound_of quantity.Namespaces) && namespace_fits row)))

abbrev pub may_place_namespace : Rows → Counters → NamespaceRow → Bool
may_place_namespace s counters row = is_namespace_new s counters row && has_parent s.content row
