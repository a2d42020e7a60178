-- Locations, why a text or a list of segments is none, cover and overlap.
use Rattle.std.specs.Prelude.{◌≡◌, ◌≢◌, ◌≤◌, ◌⊎◌, ℕ, ◌&&◌, ◌||◌, ◌==◌, Bool, not, nat_eq, nat_le, nat_lt, List, [], ◌∷◌, ◌++◌, length, map, drop, codes, Option, Some, None, if◌then◌else◌, All}
use Rattle.std.specs.Bool.{⊤}
use Rattle.std.specs.Borrow.{Bor}
use Rattle.std.specs.Cmp.Lexicographic.{pointwise}
use Rattle.std.specs.List.{AllPass, join_with_byte, list_all, slice_split, starts_with}
use Rattle.std.specs.Option.{option_or}
use Rattle.pol_locations.specs.declared.refused.LocationRefused.{LocationRefused}
use Rattle.pol_locations.specs.declared.refused.LocationRefused.TheVariants.{BadScheme, EmptySegment, DotSegment, ControlByte, TooLong, OutOfMemory}

-- the bytes of segments: those from 0x20 on but 0x7F and `/`
abbrev pub is_segment_byte : ℕ → Bool
is_segment_byte byte = nat_le 0x20 byte && not (byte == 0x7F) && not (byte == 0x2F)

-- a segment: at least one byte, all of them such bytes, and neither `.` nor `..`
pub record IsSegment (segment : List ℕ) : Type 0 where
  pub filled : segment ≢ []
  pub no_dot : segment ≢ codes "."
  pub no_dots : segment ≢ codes ".."
  pub clean : AllPass is_segment_byte segment

-- what the text of each location begins with
abbrev pub scheme : List ℕ
scheme = codes "lake://"

-- the text of a location: the scheme, and the segments with `/` between them
abbrev pub location_text : List (List ℕ) → List ℕ
location_text segments = scheme ++ join_with_byte 0x2F segments

-- a location: one or more segments, whose text has at most 1,024 bytes
pub record IsLocation (segments : List (List ℕ)) : Type 0 where
  pub filled : segments ≢ []
  pub bounded : length (location_text segments) ≤ 1024
  pub segmented : All IsSegment segments

-- why a text is no segment
unfoldable pub segment_refusal : List ℕ → Option LocationRefused
segment_refusal segment =
    if length segment == 0 then Some EmptySegment
    else if pointwise nat_eq segment (codes ".") || pointwise nat_eq segment (codes "..") then Some DotSegment
    else if not (list_all is_segment_byte segment) then Some ControlByte
    else None

-- the refusal of the first that is no segment
abbrev pub segments_refusal : List (List ℕ) → Option LocationRefused
segments_refusal [] = None
segments_refusal (segment ∷ segments) = option_or (segment_refusal segment) (segments_refusal segments)

-- why a list of segments is no location: the length of its text, no segment at all, else its first bad segment
unfoldable pub location_refusal : List (List ℕ) → Option LocationRefused
location_refusal segments =
    if nat_lt 1024 (length (location_text segments)) then Some TooLong
    else if length segments == 0 then Some EmptySegment
    else segments_refusal segments

-- a text without one `/` at its end
abbrev pub trimmed : List ℕ → List ℕ
trimmed [] = []
trimmed (byte ∷ []) = if byte == 0x2F then [] else byte ∷ []
trimmed (byte ∷ next ∷ bytes) = byte ∷ trimmed (next ∷ bytes)

-- the parts of a text between its `/`
abbrev pub parts : List ℕ → List (List ℕ)
parts path = slice_split (λ byte. byte == 0x2F) path

-- the segments of a text that begins with the scheme: the parts of what follows it, without one `/` at its end
abbrev pub segments_of : List ℕ → List (List ℕ)
segments_of text = parts (trimmed (drop 7 text))

-- why a text is no location; a text without the scheme is judged by its length first, too
unfoldable pub parse_refusal : List ℕ → Option LocationRefused
parse_refusal text =
    if starts_with nat_eq text scheme then location_refusal (segments_of text)
    else if nat_lt 1024 (length text) then Some TooLong
    else Some BadScheme

-- what a reader of a list of segments, of one segment and of a text may answer in place of a value: the first refusal,
-- or want of memory
abbrev pub IsLocationRefusal : List (List ℕ) → LocationRefused → Type 0
IsLocationRefusal segments OutOfMemory = ⊤
IsLocationRefusal segments why = location_refusal segments ≡ Some why

abbrev pub IsSegmentRefusal : List ℕ → LocationRefused → Type 0
IsSegmentRefusal segment OutOfMemory = ⊤
IsSegmentRefusal segment why = segment_refusal segment ≡ Some why

abbrev pub IsParseRefusal : List ℕ → LocationRefused → Type 0
IsParseRefusal text OutOfMemory = ⊤
IsParseRefusal text why = parse_refusal text ≡ Some why

-- a covers b: its segments are a prefix of those of b
abbrev pub Covers : List (List ℕ) → List (List ℕ) → Type 0
Covers a b = (rest : List (List ℕ)) × (b ≡ a ++ rest)

-- one of the two covers the other
abbrev pub Overlaps : List (List ℕ) → List (List ℕ) → Type 0
Overlaps a b = Covers a b ⊎ Covers b a

-- the same two as tests
abbrev pub is_cover : List (List ℕ) → List (List ℕ) → Bool
is_cover a b = starts_with (pointwise nat_eq) b a

abbrev pub is_overlap : List (List ℕ) → List (List ℕ) → Bool
is_overlap a b = is_cover a b || is_cover b a

-- the bytes of texts that are lent
abbrev pub texts : List (Bor (List ℕ)) → List (List ℕ)
texts segments = map (λ segment. segment.now) segments

-- the refusal of a segment behind segments, whatever follows it
abbrev pub RefusesSegment : List (List ℕ) → List ℕ → LocationRefused → Type 0
RefusesSegment read segment why =
    (segments : List (List ℕ)) → All IsSegment read → length (location_text (read ++ segment ∷ segments)) ≤ 1024 → IsLocationRefusal (read ++ segment ∷ segments) why
