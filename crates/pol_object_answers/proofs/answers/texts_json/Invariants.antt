use Rattle.std.proofs.Common.{◌≡◌, map, take}
use Rattle.serde_json.specs.Data.{string}
use Rattle.serde_json.specs.View.{view}
use Rattle.pol_locations.specs.Location.{location_text}
use Rattle.pol_object_answers.proofs.answers.texts_json.Given as goal

abbrev pub invariant-loop-path : goal.invariant-loop-path
invariant-loop-path l = map view l.texts.items ≡ map (λ path. string (location_text path)) (take l.path-index l.paths)
