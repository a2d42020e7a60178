use Rattle.std.proofs.Common.{◌≡◌, map, take}
use Rattle.serde_json.specs.View.{view}
use Rattle.pol_metaprint.specs.Json.{number_json}
use Rattle.pol_metaprint.proofs.metadata.numbers.Given as goal

abbrev pub invariant-loop-id : goal.invariant-loop-id
invariant-loop-id l = map view l.values.items ≡ map number_json (take l.id-index l.ids)
