use Rattle.std.proofs.Common.{◌≡◌, map, take}
use Rattle.pol_table_actions.specs.Tables.{identifier_in}
use Rattle.pol_view_actions.proofs.views.identifiers_of.Given as goal

abbrev pub invariant-loop-view : goal.invariant-loop-view
invariant-loop-view l =
    l.identifiers.items ≡ map (λ view. identifier_in l.levels view.now.name) (take l.view-index l.views)
