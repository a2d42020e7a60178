-- The fields of a form (URL Standard, section 5.1), decoded: a list of names with their values.
use Rattle.std.specs.Prelude.{ℕ, Bool, ◌&&◌, List, [], ◌∷◌, map, filter, if◌then◌else◌, Option, Some, None}
use Rattle.std.specs.Str.{bytes_eq, is_utf8}
use Rattle.pol_routes.specs.declared.form.Values.{Values}
use Rattle.pol_routes.specs.declared.form.Values.TheVariants.{Missing, One, Several}

-- the bytes, where they are UTF-8
abbrev pub text_of : List ℕ → Option (List ℕ)
text_of bytes = if is_utf8 bytes then Some bytes else None

-- the name and the value are UTF-8
abbrev pub is_text : List ℕ × List ℕ → Bool
is_text field = is_utf8 field.0 && is_utf8 field.1

-- the field has that name
abbrev pub is_named : List ℕ → List ℕ × List ℕ → Bool
is_named name field = bytes_eq field.0 name

-- the values of the fields of that name, in their order
abbrev pub values_of : List ℕ → List (List ℕ × List ℕ) → List (List ℕ)
values_of name form = map (λ field. field.1) (filter (is_named name) form)

-- whether there is no value, one, or more
abbrev pub seen : List (List ℕ) → Values
seen [] = Missing
seen (value ∷ []) = One value
seen (value ∷ other ∷ values) = Several
