-- The texts of locations, and how they are read.
use Rattle.std.proofs.Common.{◌≡◌, ◌≢◌, ◌⊎◌, ◌≤◌, ◌<◌, ◌+◌, ℕ, Bool, true, false, List, [], ◌∷◌, ◌++◌, length, take, drop, refl, ap, sym, ◌∙◌, inl, inr, arith, append-nil, length-append}
use Rattle.std.specs.Prelude.{Option, None, Some, All, codes, if◌then◌else◌, nat_eq, nat_lt, ◌==◌}
use Rattle.std.specs.Cmp.Lexicographic.{bytes_decides}
use Rattle.std.specs.List.{join_with_byte, slice_split, starts_with}
use Rattle.std.proofs.lemmas.Grind.{common_steps}
use Rattle.std.proofs.lemmas.List.{take-append-drop}
use Rattle.std.proofs.lemmas.List.Elements.{All-head, All-tail, All-weaker}
use Rattle.std.proofs.lemmas.List.Splits.{join_with_byte-slice_split}
use Rattle.pol_locations.specs.Location.{IsLocation, IsLocationRefusal, IsParseRefusal, IsSegment, is_segment_byte, location_refusal, location_text, parse_refusal, parts, scheme, segments_of, trimmed}
use Rattle.pol_locations.specs.declared.refused.LocationRefused.{LocationRefused}
use Rattle.pol_locations.specs.declared.refused.LocationRefused.TheVariants.{BadScheme, EmptySegment, DotSegment, ControlByte, TooLong, OutOfMemory}
use Rattle.pol_types.proofs.Joins.{slice_split-join_with_byte}
use Rattle.pol_locations.proofs.Segments.{IsLocation-from_refusal, location_refusal-IsLocation}

-- a byte in front of a text stays
trimmed-cons : (byte : ℕ) (bytes : List ℕ) → bytes ≢ [] → trimmed (byte ∷ bytes) ≡ byte ∷ trimmed bytes
trimmed-cons byte [] filled = absurd (filled refl)
trimmed-cons byte (next ∷ bytes) filled = refl

both_filled : (front bytes : List ℕ) → bytes ≢ [] → front ++ bytes ≢ []
both_filled [] bytes filled = filled
both_filled (byte ∷ front) bytes filled = λ empty. cc

pub trimmed-append : (front bytes : List ℕ) → bytes ≢ [] → trimmed (front ++ bytes) ≡ front ++ trimmed bytes
trimmed-append [] bytes filled = refl
trimmed-append (byte ∷ front) bytes filled = trimmed-cons byte (front ++ bytes) (both_filled front bytes filled) ∙ ap (λ rest. byte ∷ rest) (trimmed-append front bytes filled)

-- one `/` is dropped, and nothing where there is none
pub trimmed-slash : (front : List ℕ) → trimmed (front ++ 0x2F ∷ []) ≡ front
trimmed-slash front = trimmed-append front (0x2F ∷ []) (λ empty. cc) ∙ append-nil front

trimmed_last : (byte : ℕ) (slash : Bool) → (byte == 0x2F) ≡ slash → (byte ∷ [] ≡ trimmed (byte ∷ [])) ⊎ (byte ∷ [] ≡ trimmed (byte ∷ []) ++ 0x2F ∷ [])
trimmed_last byte true is =
    let same : byte ≡ 0x2F = grind (arith, common_steps) in
    inr (rw is (ap (λ first. first ∷ []) same))
trimmed_last byte false is = inl (rw is refl)

behind : (byte next : ℕ) (bytes : List ℕ) → (next ∷ bytes ≡ trimmed (next ∷ bytes)) ⊎ (next ∷ bytes ≡ trimmed (next ∷ bytes) ++ 0x2F ∷ []) →
    (byte ∷ next ∷ bytes ≡ byte ∷ trimmed (next ∷ bytes)) ⊎ (byte ∷ next ∷ bytes ≡ byte ∷ (trimmed (next ∷ bytes) ++ 0x2F ∷ []))
behind byte next bytes (inl same) = inl (ap (λ rest. byte ∷ rest) same)
behind byte next bytes (inr slash) = inr (ap (λ rest. byte ∷ rest) slash)

pub trimmed_cases : (path : List ℕ) → (path ≡ trimmed path) ⊎ (path ≡ trimmed path ++ 0x2F ∷ [])
trimmed_cases [] = inl refl
trimmed_cases (byte ∷ []) = trimmed_last byte (byte == 0x2F) refl
trimmed_cases (byte ∷ next ∷ bytes) = behind byte next bytes (trimmed_cases (next ∷ bytes))

pub trimmed-other : (path : List ℕ) → ((front : List ℕ) → path ≢ front ++ 0x2F ∷ []) → trimmed path ≡ path
trimmed-other path other = elim (trimmed_cases path) as (λ _. trimmed path ≡ path) [ inl same ↦ sym same | inr slash ↦ absurd (other (trimmed path) slash) ]

-- the path of a location has no `/` at its end
slash_free : (segment : List ℕ) → IsSegment segment → All (λ byte. (byte == 0x2F) ≡ false) segment
slash_free segment is = All-weaker (λ byte. is_segment_byte byte ≡ true) (λ byte. (byte == 0x2F) ≡ false) (λ byte passes. grind (arith, common_steps)) segment is.clean

trimmed_free : (bytes : List ℕ) → All (λ byte. (byte == 0x2F) ≡ false) bytes → trimmed bytes ≡ bytes
trimmed_free [] free = refl
trimmed_free (byte ∷ []) free = rw (All-head (λ other. (other == 0x2F) ≡ false) byte [] free) refl
trimmed_free (byte ∷ next ∷ bytes) free = ap (λ rest. byte ∷ rest) (trimmed_free (next ∷ bytes) (All-tail (λ other. (other == 0x2F) ≡ false) byte (next ∷ bytes) free))

joined_filled : (segment : List ℕ) (segments : List (List ℕ)) → segment ≢ [] → join_with_byte 0x2F (segment ∷ segments) ≢ []
joined_filled segment [] filled = filled
joined_filled [] (next ∷ segments) filled = absurd (filled refl)
joined_filled (byte ∷ segment) (next ∷ segments) filled = λ empty. cc

trimmed-joined : (segment : List ℕ) (segments : List (List ℕ)) → All IsSegment (segment ∷ segments) → trimmed (join_with_byte 0x2F (segment ∷ segments)) ≡ join_with_byte 0x2F (segment ∷ segments)
trimmed-joined segment [] segmented = trimmed_free segment (slash_free segment (All-head IsSegment segment [] segmented))
trimmed-joined segment (next ∷ segments) segmented =
    let others = All-tail IsSegment segment (next ∷ segments) segmented in
    let first = All-head IsSegment next segments others in
    trimmed-append segment (0x2F ∷ join_with_byte 0x2F (next ∷ segments)) (λ empty. cc)
    ∙ ap (λ rest. segment ++ rest)
    (trimmed-cons 0x2F (join_with_byte 0x2F (next ∷ segments)) (joined_filled next segments first.filled)
    ∙ ap (λ rest. 0x2F ∷ rest) (trimmed-joined next segments others))

pub segments_of-location_text : (segments : List (List ℕ)) → IsLocation segments → segments_of (location_text segments) ≡ segments
segments_of-location_text [] location = absurd (location.filled refl)
segments_of-location_text (segment ∷ segments) location =
    ap (slice_split (λ byte. byte == 0x2F)) (trimmed-joined segment segments location.segmented)
    ∙ slice_split-join_with_byte 0x2F segment segments (All-weaker IsSegment (All (λ byte. (byte == 0x2F) ≡ false)) slash_free (segment ∷ segments) location.segmented)

pub parse_refusal-location_text : (segments : List (List ℕ)) → IsLocation segments → parse_refusal (location_text segments) ≡ None
unfolding parse_refusal
parse_refusal-location_text segments location = ap location_refusal (segments_of-location_text segments location) ∙ location_refusal-IsLocation segments location

-- what a text without a refusal has
schemed : (found : Bool) (located : Option LocationRefused) (long : Bool) →
    (if found then located else if long then Some TooLong else Some BadScheme) ≡ None → (found ≡ true) × (located ≡ None)
schemed true located long none = (refl, none)
schemed false located true none = cc
schemed false located false none = cc

pub scheme_and_path : (text : List ℕ) → starts_with nat_eq text scheme ≡ true → text ≡ scheme ++ drop 7 text
scheme_and_path text found = sym (take-append-drop 7 text) ∙ ap (λ front. front ++ drop 7 text) (sym ((bytes_decides scheme (take 7 text)).0 found))

with_slash : (path joined : List ℕ) → joined ≡ trimmed path → (path ≡ trimmed path) ⊎ (path ≡ trimmed path ++ 0x2F ∷ []) → (path ≡ joined) ⊎ (path ≡ joined ++ 0x2F ∷ [])
with_slash path joined is (inl same) = inl (same ∙ sym is)
with_slash path joined is (inr slash) = inr (slash ∙ ap (λ front. front ++ 0x2F ∷ []) (sym is))

in_front : (text path joined : List ℕ) → text ≡ scheme ++ path → (path ≡ joined) ⊎ (path ≡ joined ++ 0x2F ∷ []) → (text ≡ scheme ++ joined) ⊎ (text ≡ scheme ++ joined ++ 0x2F ∷ [])
in_front text path joined is (inl same) = inl (is ∙ ap (λ rest. scheme ++ rest) same)
in_front text path joined is (inr slash) = inr (is ∙ ap (λ rest. scheme ++ rest) slash)

pub only_texts : (text : List ℕ) → parse_refusal text ≡ None →
    IsLocation (segments_of text) × ((text ≡ location_text (segments_of text)) ⊎ (text ≡ location_text (segments_of text) ++ 0x2F ∷ []))
unfolding parse_refusal
only_texts text none =
    let tests = schemed (starts_with nat_eq text scheme) (location_refusal (segments_of text)) (nat_lt 1024 (length text)) none in (
      IsLocation-from_refusal (segments_of text) tests.1,
      in_front text (drop 7 text) (join_with_byte 0x2F (segments_of text)) (scheme_and_path text tests.0)
          (with_slash (drop 7 text) (join_with_byte 0x2F (segments_of text)) (join_with_byte-slice_split 0x2F (trimmed (drop 7 text))) (trimmed_cases (drop 7 text))),
    )

-- the answers of a text that begins with the scheme are those of its segments
pub parse_passes : (text : List ℕ) → starts_with nat_eq text scheme ≡ true → IsLocation (segments_of text) → parse_refusal text ≡ None
unfolding parse_refusal
parse_passes text found location = rw found (location_refusal-IsLocation (segments_of text) location)

refuses : (text : List ℕ) (why : LocationRefused) → starts_with nat_eq text scheme ≡ true → location_refusal (segments_of text) ≡ Some why → parse_refusal text ≡ Some why
unfolding parse_refusal
refuses text why found refused = rw found refused

pub parse_refuses : (text : List ℕ) (why : LocationRefused) → starts_with nat_eq text scheme ≡ true → IsLocationRefusal (segments_of text) why → IsParseRefusal text why
parse_refuses text BadScheme found refused = refuses text BadScheme found refused
parse_refuses text EmptySegment found refused = refuses text EmptySegment found refused
parse_refuses text DotSegment found refused = refuses text DotSegment found refused
parse_refuses text ControlByte found refused = refuses text ControlByte found refused
parse_refuses text TooLong found refused = refuses text TooLong found refused
parse_refuses text OutOfMemory found refused = tt

-- the length of a text by its path
length-parts : (path : List ℕ) → length (location_text (parts path)) ≡ 7 + length path
length-parts path = omega (arith, length-append (codes "lake://") (join_with_byte 0x2F (parts path)), ap length (join_with_byte-slice_split 0x2F path))

pub path_bounded : (path : List ℕ) → length path ≤ 1017 → length (location_text (parts path)) ≤ 1024
path_bounded path short = omega (arith, length-parts path)

pub location_too_long : (segments : List (List ℕ)) → 1024 < length (location_text segments) → location_refusal segments ≡ Some TooLong
unfolding location_refusal
location_too_long segments long =
    let over : nat_lt 1024 (length (location_text segments)) ≡ true = grind (arith, common_steps) in
    rw over refl

pub path_too_long : (path : List ℕ) → 1017 < length path → location_refusal (parts path) ≡ Some TooLong
path_too_long path long = location_too_long (parts path) (omega (arith, length-parts path))
