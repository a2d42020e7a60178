-- The fields of a head by their names and values (RFC 9110, section 5).
use Rattle.std.specs.Prelude.{ℕ, Bool, ◌&&◌, List, [], ◌∷◌, map, filter, length, nat_lt, ◌==◌, if◌then◌else◌, Option, Some, None, Result, Ok, Err, codes}
use Rattle.std.specs.List.{list_any, list_all, slice_split}
use Rattle.std.specs.Char.{is_ascii_digit}
use Rattle.std.specs.Str.{str_eq_ignore_ascii_case}
use Rattle.std.specs.Str.Parse.{digits_value}
use Rattle.httparse.specs.Ascii.{comma}
use Rattle.httparse.specs.Grammar.{trim_ows}
use Rattle.pol_http.specs.declared.head.HeadRefused.{HeadRefused}
use Rattle.pol_http.specs.declared.head.HeadRefused.TheVariants.{BadHead, LengthNeeded, BodyTooLong}
use Rattle.pol_http.specs.declared.head.TheConstants.{BODY_LIMIT}

-- a field has that name, in any case (RFC 9110, section 5.1)
abbrev pub is_named : List ℕ → List ℕ × List ℕ → Bool
is_named name field = str_eq_ignore_ascii_case field.0 name

-- the values of the fields of that name, in their order (RFC 9110, section 5.3)
abbrev pub values_of : List ℕ → List (List ℕ × List ℕ) → List (List ℕ)
values_of name fields = map (λ field. field.1) (filter (is_named name) fields)

-- a member of the comma-separated list is the word, in any case (RFC 9110, section 5.6.1)
abbrev pub has_member : List ℕ → List ℕ → Bool
has_member word value = list_any (λ member. str_eq_ignore_ascii_case (trim_ows member) word) (slice_split (λ byte. byte == comma) value)

-- some field of that name lists the word
abbrev pub lists : List ℕ → List ℕ → List (List ℕ × List ℕ) → Bool
lists name word fields = list_any (λ field. is_named name field && has_member word field.1) fields

-- the number that 1*DIGIT writes
abbrev pub number_of : List ℕ → Option ℕ
number_of digits =
    if nat_lt 0 (length digits) && list_all is_ascii_digit digits then Some (digits_value 10 digits) else None

-- the length that the values of Content-Length say (RFC 9110, section 8.6): none is 0, and two are no number
abbrev pub content_length : List (List ℕ) → Option ℕ
content_length [] = Some 0
content_length (value ∷ []) = number_of value
content_length (value ∷ other ∷ values) = None

-- a length that is known, unless the body is coded otherwise or too long
abbrev pub framed : Bool → Option ℕ → Result ℕ HeadRefused
framed coded None = Err BadHead
framed coded (Some n) = if coded then Err LengthNeeded else (if nat_lt BODY_LIMIT n then Err BodyTooLong else Ok n)

-- there is a Transfer-Encoding (RFC 9112, section 6.1)
abbrev pub is_coded : List (List ℕ × List ℕ) → Bool
is_coded fields = list_any (is_named (codes "transfer-encoding")) fields

-- what Content-Length says
abbrev pub said_length : List (List ℕ × List ℕ) → Option ℕ
said_length fields = content_length (values_of (codes "content-length") fields)

-- the length of the body that the fields announce (RFC 9112, section 6.3), or why their head is refused
abbrev pub announced_length : List (List ℕ × List ℕ) → Result ℕ HeadRefused
announced_length fields = framed (is_coded fields) (said_length fields)
