-- The form of a token request (RFC 6749, sections 2.3.1, 3.3 and 4.4.2).
use Rattle.std.specs.Prelude.{ℕ, List, [], length, nat_le, ◌==◌, if◌then◌else◌, Option, Some, None, option_map, option_and_then, codes}
use Rattle.std.specs.List.{list_all, slice_split}
use Rattle.form_urlencoded.specs.Form.{is_nonempty, space}
use Rattle.pol_routes.specs.declared.form.Values.{Values}
use Rattle.pol_routes.specs.declared.form.Values.TheVariants.{Missing, One, Several}
use Rattle.pol_routes.specs.declared.token_form.Fields.{Fields}
use Rattle.pol_routes.specs.declared.token_form.TokenForm.{TokenForm}
use Rattle.pol_routes.specs.declared.token_form.TheConstants.{SCOPE_LIMIT}
use Rattle.pol_routes.specs.Form.{is_text, values_of, seen}

-- the fields that a token request may have, each by its values
abbrev pub fields_of : List (List ℕ × List ℕ) → Fields
fields_of form = record {
  grant_type = seen (values_of (codes "grant_type") form);
  client_id = seen (values_of (codes "client_id") form);
  client_secret = seen (values_of (codes "client_secret") form);
  scope = seen (values_of (codes "scope") form);
}

-- the same, where the whole form is UTF-8
abbrev pub readable_fields : List (List ℕ × List ℕ) → Option Fields
readable_fields form = if list_all is_text form then Some (fields_of form) else None

-- the value of a field that must stand once and not be empty
abbrev pub sole : Values → Option (List ℕ)
sole Missing = None
sole (One value) = if is_nonempty value then Some value else None
sole Several = None

-- the words between single spaces, of which some may be empty; an empty text has none
abbrev pub scope_words : List ℕ → List (List ℕ)
scope_words text = if is_nonempty text then slice_split (λ byte. byte == space) text else []

-- the words, where they are not too many
abbrev pub few_words : List (List ℕ) → Option (List (List ℕ))
few_words words = if nat_le (length words) SCOPE_LIMIT then Some words else None

-- the scopes that are asked for: none where there is no scope field, which may not stand twice
abbrev pub scopes_of : Values → Option (List (List ℕ))
scopes_of Missing = Some []
scopes_of (One text) = few_words (scope_words text)
scopes_of Several = None

-- the request that the fields make
abbrev pub request_of : Fields → Option TokenForm
request_of fields =
    option_and_then (λ type. option_and_then (λ id. option_and_then (λ word. option_map
    (λ words. record { grant_type = type; client_id = id; client_secret = word; scopes = words })
    (scopes_of fields.scope)) (sole fields.client_secret)) (sole fields.client_id)) (sole fields.grant_type)

-- the request that a form makes
unfoldable pub token_form : List (List ℕ × List ℕ) → Option TokenForm
token_form form = option_and_then request_of (readable_fields form)
