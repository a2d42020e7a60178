-- The values of a query's keys (URL Standard, section 5.1).
use Rattle.std.specs.Prelude.{ℕ, List, if◌then◌else◌, Option, Some, None, Result, Ok, Err}
use Rattle.std.specs.List.{last_or}
use Rattle.std.specs.Str.{is_utf8}
use Rattle.form_urlencoded.specs.Form.{parse}
use Rattle.pol_requests.specs.declared.refused.RouteRefused.{RouteRefused}
use Rattle.pol_requests.specs.declared.refused.RouteRefused.TheVariants.{Unreadable}
use Rattle.pol_routes.specs.Form.{values_of}

-- the value of a key, where it is UTF-8
unfoldable pub readable : List ℕ → Option (List ℕ) → Result (Option (List ℕ)) RouteRefused
readable key None = Ok None
readable key (Some value) = if is_utf8 value then Ok (Some value) else Err (Unreadable key)

-- the last value of a key, if there is one
abbrev pub query_value : List ℕ → List ℕ → Result (Option (List ℕ)) RouteRefused
query_value key query = readable key (last_or None (values_of key (parse query)))
