-- The caller of a request, by its Authorization field (RFC 9110, section 11.6.2; RFC 6750, section 2.1).
use Rattle.std.specs.Prelude.{ℕ, List, take, drop, if◌then◌else◌, Option, Some, None, option_map, option_and_then, find, codes}
use Rattle.std.specs.Str.{str_eq_ignore_ascii_case}
use Rattle.pol_http.specs.Fields.{is_named}
use Rattle.pol_commands.specs.declared.command.Caller.{Caller}
use Rattle.pol_commands.specs.declared.command.Caller.TheVariants.{Nobody, Bearer}

-- the value of the first field of a name
abbrev pub first_value : List ℕ → List (List ℕ × List ℕ) → Option (List ℕ)
first_value name fields = option_map (λ field. field.1) (find (is_named name) fields)

-- the text behind `Bearer`, in any case, and one space
abbrev pub token_of : List ℕ → Option (List ℕ)
token_of value = if str_eq_ignore_ascii_case (take 7 value) (codes "Bearer ") then Some (drop 7 value) else None

abbrev pub bearer_or_nobody : Option (List ℕ) → Caller
bearer_or_nobody (Some token) = Bearer token
bearer_or_nobody None = Nobody

-- the caller by the value of an Authorization field, if there is one
abbrev pub caller_by : Option (List ℕ) → Caller
caller_by value = bearer_or_nobody (option_and_then token_of value)

-- the caller of a request with these fields: the first Authorization field alone is looked at
abbrev pub caller_of : List (List ℕ × List ℕ) → Caller
caller_of fields = caller_by (first_value (codes "authorization") fields)
