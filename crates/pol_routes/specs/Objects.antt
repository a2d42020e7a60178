-- What requests for objects ask for by their paths.
use Rattle.std.specs.Prelude.{ℕ, List, [], ◌∷◌, drop, is_none, if◌then◌else◌, Result, Ok, Err}
use Rattle.pol_commands.specs.declared.command.Action.{Action}
use Rattle.pol_commands.specs.declared.command.Action.TheVariants as action
use Rattle.pol_locations.specs.Location.{location_refusal}
use Rattle.pol_requests.specs.Refused.{◌>>=◌}
use Rattle.pol_requests.specs.declared.endpoint.ObjectRequest.{ObjectRequest}
use Rattle.pol_requests.specs.declared.endpoint.ObjectRequest.TheVariants.{GetObject, HeadObject, PutObject, DeleteObject, ListObjects}
use Rattle.pol_requests.specs.declared.refused.RouteRefused.{RouteRefused}
use Rattle.pol_tokens.specs.declared.token.Act.{Act}
use Rattle.pol_tokens.specs.declared.token.Act.TheVariants.{Read, Write}
use Rattle.pol_routes.specs.Segment.{segment_text, segments, unreadable_path}
use Rattle.pol_routes.specs.Target.{path_of}

-- the texts of segments, each decoded by itself; the first that can't be read is told
unfoldable pub segment_texts : List (List ℕ) → Result (List (List ℕ)) RouteRefused
segment_texts [] = Ok []
segment_texts (segment ∷ rest) = segment_text segment >>= λ text. segment_texts rest >>= λ texts. Ok (text ∷ texts)

-- the location that texts form, which can't be read where they form none
unfoldable pub location_of : List (List ℕ) → Result (List (List ℕ)) RouteRefused
location_of texts = if is_none (location_refusal texts) then Ok texts else Err unreadable_path

-- the location that a path has behind its first segment, as `/objects/b/t` has that of `b` and `t`
abbrev pub texts_behind : List ℕ → Result (List (List ℕ)) RouteRefused
texts_behind path = segment_texts (drop 2 (segments path))

unfoldable pub object_path : List ℕ → Result (List (List ℕ)) RouteRefused
object_path target = texts_behind (path_of target) >>= location_of

-- what is done with an object
abbrev pub act_of : ObjectRequest → Act
act_of GetObject = Read
act_of HeadObject = Read
act_of PutObject = Write
act_of DeleteObject = Write
act_of ListObjects = Read

-- asking whether it may be done
unfoldable pub access : List ℕ → ObjectRequest → Result Action RouteRefused
access target asked = object_path target >>= λ path. Ok (action.Access path (act_of asked))
