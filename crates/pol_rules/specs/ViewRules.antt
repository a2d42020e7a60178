-- Rules on views.
use Rattle.std.specs.Prelude.{Option, is_none}
use Rattle.pol_commands.specs.declared.reply.Refusal.{Refusal}
use Rattle.pol_commands.specs.declared.reply.Refusal.TheVariants.{NoView}
use Rattle.pol_content.specs.Chain.{view_at}
use Rattle.pol_content.specs.declared.rows.CatalogRow.{CatalogRow}
use Rattle.pol_names.specs.declared.identifier.Identifier.{Identifier}
use Rattle.pol_state.specs.Bounds.{refuse_if}
use Rattle.pol_state.specs.Rows.{Rows}

-- no view of the catalogue has this namespace and name
unfoldable pub no_view : Rows → Identifier → CatalogRow → Option Refusal
no_view s identifier catalog =
    refuse_if (is_none (view_at catalog.id identifier.namespace identifier.name s.content)) (NoView identifier)
