-- What requests on tables ask for by their queries (Iceberg REST OpenAPI, parameters `snapshots` and `purgeRequested`).
use Rattle.std.specs.Prelude.{ℕ, Bool, true, false, List, if◌then◌else◌, Option, Some, None, Result, Ok, Err, codes}
use Rattle.std.specs.Str.{bytes_eq}
use Rattle.pol_commands.specs.declared.command.Action.{Action}
use Rattle.pol_commands.specs.declared.command.Action.TheVariants as action
use Rattle.pol_names.specs.declared.identifier.Identifier.{Identifier}
use Rattle.pol_requests.specs.Refused.{◌>>=◌}
use Rattle.pol_requests.specs.declared.refused.RouteRefused.{RouteRefused}
use Rattle.pol_requests.specs.declared.refused.RouteRefused.TheVariants.{Unreadable}
use Rattle.pol_routes.specs.Query.{query_value}
use Rattle.pol_routes.specs.Target.{query_of}

-- whether the snapshots are those alone that references name; where nothing is said they are all
unfoldable pub refs_only : Option (List ℕ) → Result Bool RouteRefused
refs_only None = Ok false
refs_only (Some value) =
    if bytes_eq value (codes "all") then Ok false
    else if bytes_eq value (codes "refs") then Ok true
    else Err (Unreadable (codes "snapshots"))

-- whether files are to go with a table; where nothing is said they stay
unfoldable pub purge_read : Option (List ℕ) → Result Bool RouteRefused
purge_read None = Ok false
purge_read (Some value) =
    if bytes_eq value (codes "true") then Ok true
    else if bytes_eq value (codes "false") then Ok false
    else Err (Unreadable (codes "purgeRequested"))

unfoldable pub purge_requested : List ℕ → Result Bool RouteRefused
purge_requested target = query_value (codes "purgeRequested") (query_of target) >>= purge_read

-- loading a table
unfoldable pub load_table : List ℕ → List ℕ → Identifier → Bool → Result Action RouteRefused
load_table target catalog identifier delegated =
    query_value (codes "snapshots") (query_of target) >>= refs_only >>= λ named. Ok (action.LoadTable catalog identifier named delegated)

-- dropping one: whether its files are to go counts for nothing
unfoldable pub drop_table : List ℕ → List ℕ → Identifier → Result Action RouteRefused
drop_table target catalog identifier = purge_requested target >>= λ purged. Ok (action.DropTable catalog identifier)
