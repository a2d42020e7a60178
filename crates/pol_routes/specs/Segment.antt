-- The segments of a path, as texts and as names (RFC 3986, sections 2.1 and 3.3).
use Rattle.std.specs.Prelude.{ℕ, Bool, true, false, ◌&&◌, ◌||◌, ◌==◌, not, List, [], ◌∷◌, unwrap_or, is_none, if◌then◌else◌, Option, option_and_then, position, Result, Ok, Err, codes}
use Rattle.std.specs.Char.{is_ascii_hexdigit}
use Rattle.std.specs.List.{slice_get, slice_split}
use Rattle.std.specs.Str.{bytes_eq, is_utf8}
use Rattle.percent_encoding.specs.Percent.{percent_decode, percent_sign}
use Rattle.pol_names.specs.Name.{name_refusal}
use Rattle.pol_names.specs.Namespace.{levels_of, namespace_refusal}
use Rattle.pol_names.specs.Plain.{plain_refusal}
use Rattle.pol_requests.specs.Refused.{◌>>=◌}
use Rattle.pol_requests.specs.declared.refused.RouteRefused.{RouteRefused}
use Rattle.pol_requests.specs.declared.refused.RouteRefused.TheVariants.{Unreadable}

-- `b'/'`
abbrev pub slash : ℕ
slash = 47

-- the segments of a path
abbrev pub segments : List ℕ → List (List ℕ)
segments path = slice_split (λ byte. byte == slash) path

-- the place among a pattern's segments of a parameter, as `{namespace}`
unfoldable pub place_of : List ℕ → List ℕ → Option ℕ
place_of parameter pattern = position (λ segment. bytes_eq segment parameter) (segments pattern)

-- the segment of a path at a place, or an empty one
abbrev pub segment_at : List ℕ → ℕ → List ℕ
segment_at path place = unwrap_or (slice_get (segments path) place) []

-- the segment of a path that stands for a parameter of its pattern, or an empty one
unfoldable pub segment_for : List ℕ → List ℕ → List ℕ → List ℕ
segment_for parameter pattern path =
    unwrap_or (option_and_then (slice_get (segments path)) (place_of parameter pattern)) []

-- two hexadecimal digits come first
abbrev pub begins_with_digits : List ℕ → Bool
begins_with_digits [] = false
begins_with_digits (high ∷ []) = false
begins_with_digits (high ∷ low ∷ rest) = is_ascii_hexdigit high && is_ascii_hexdigit low

-- each `%` is followed by two hexadecimal digits
unfoldable pub has_whole_escapes : List ℕ → Bool
has_whole_escapes [] = true
has_whole_escapes (byte ∷ rest) = (not (byte == percent_sign) || begins_with_digits rest) && has_whole_escapes rest

-- why a segment can't be read
abbrev pub unreadable_path : RouteRefused
unreadable_path = Unreadable (codes "path")

-- the text of a segment: its escapes decoded, where they are whole and make UTF-8
unfoldable pub segment_text : List ℕ → Result (List ℕ) RouteRefused
segment_text segment =
    if has_whole_escapes segment && is_utf8 (percent_decode segment) then Ok (percent_decode segment) else Err unreadable_path

-- the plain name that the text of a field is
unfoldable pub plain_of : List ℕ → List ℕ → Result (List ℕ) RouteRefused
plain_of field text = if is_none (plain_refusal text) then Ok text else Err (Unreadable field)

-- the name that a text is
unfoldable pub name_of : List ℕ → Result (List ℕ) RouteRefused
name_of text = if is_none (name_refusal text) then Ok text else Err unreadable_path

-- the namespace whose levels the text of a field has
unfoldable pub namespace_of : List ℕ → List ℕ → Result (List (List ℕ)) RouteRefused
namespace_of field text =
    if is_none (namespace_refusal (levels_of text)) then Ok (levels_of text) else Err (Unreadable field)

-- the names that a segment stands for
abbrev pub plain_segment : List ℕ → Result (List ℕ) RouteRefused
plain_segment segment = segment_text segment >>= plain_of (codes "path")

abbrev pub name_segment : List ℕ → Result (List ℕ) RouteRefused
name_segment segment = segment_text segment >>= name_of

abbrev pub namespace_segment : List ℕ → Result (List (List ℕ)) RouteRefused
namespace_segment segment = segment_text segment >>= namespace_of (codes "path")
