use Rattle.std.proofs.Common.{◌≡◌, map}
use Rattle.serde_json.specs.View.{view}
use Rattle.pol_metaprint.specs.Columns.{field_json}
use Rattle.pol_metaprint.specs.Trees.{shown}
use Rattle.pol_metaprint.proofs.columns.fields.Given as goal

abbrev pub invariant-loop-tree : goal.invariant-loop-tree
invariant-loop-tree l = map view l.values.items ≡ map field_json (shown l.yielded)
