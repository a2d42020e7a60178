-- The tests that a namespace passes which may be put into a sound state: it is new, or it stands in the place of its own
-- row, with other properties.
use Rattle.std.specs.Prelude.{Bool, ◌&&◌, nat_eq, Option, Some, None}
use Rattle.pol_content.specs.Content.{namespace_id, same_levels}
use Rattle.pol_content.specs.declared.rows.NamespaceRow.{NamespaceRow}
use Rattle.pol_sound_bounds.specs.Judged.{namespace_fits}
use Rattle.pol_content_steps.specs.Namespaces.{may_place_namespace}
use Rattle.pol_access_steps.specs.declared.counters.Counters.{Counters}
use Rattle.pol_state.specs.Rows.{Rows}
use Rattle.pol_tables.specs.Table.{row_of}

-- a namespace of the catalogue and the levels of another
abbrev pub keeps_levels : NamespaceRow → NamespaceRow → Bool
keeps_levels old row = nat_eq row.catalog old.catalog && same_levels row.levels old.levels

-- a namespace that may be put in the place of this one
abbrev pub may_stay_namespace : NamespaceRow → NamespaceRow → Bool
may_stay_namespace old row = keeps_levels old row && namespace_fits row

-- a namespace that may be put where this one has its id, or none has
abbrev pub may_be_namespace : Rows → Counters → NamespaceRow → Option NamespaceRow → Bool
may_be_namespace s counters row None = may_place_namespace s counters row
may_be_namespace s counters row (Some old) = may_stay_namespace old row

abbrev pub may_put_namespace : Rows → Counters → NamespaceRow → Bool
may_put_namespace s counters row =
    may_be_namespace s counters row (row_of namespace_id row.id s.content.namespaces)
