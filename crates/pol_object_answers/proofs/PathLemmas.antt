-- The JSON that lists paths has no float.
use Rattle.std.proofs.Common.{◌≡◌, ℕ, false, List, [], ◌∷◌, map, refl}
use Rattle.serde_json.specs.Data.{Data, string}
use Rattle.serde_json.specs.View.{items_of}
use Rattle.serde_json.specs.Written.{has_float, items_have_float}
use Rattle.pol_locations.specs.Location.{location_text}
use Rattle.pol_object_answers.specs.ObjectAnswers.{paths_object, texts_json}

items_whole : (paths : List (List (List ℕ))) → items_have_float (items_of (map (λ path. string (location_text path)) paths)) ≡ false
items_whole [] = refl
items_whole (path ∷ paths) = items_whole paths

pub paths_whole : (paths : List (List (List ℕ))) → has_float (paths_object (texts_json paths)) ≡ false
paths_whole paths = rw (items_whole paths) refl
