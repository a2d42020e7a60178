-- Laws of locations.
use Rattle.std.specs.Prelude.{◌≡◌, ◌↔◌, ◌⊎◌, ℕ, List, [], ◌∷◌, ◌++◌, None}
use Rattle.pol_locations.specs.Location.{Covers, IsLocation, Overlaps, location_refusal, location_text, parse_refusal, segments_of}

-- the rules refuse no list of segments exactly where it is a location
abbrev pub LocationsPass : Type 0
LocationsPass = (segments : List (List ℕ)) → (location_refusal segments ≡ None) ↔ IsLocation segments

-- the text of a location is read, and as that location
abbrev pub TextsPass : Type 0
TextsPass = (segments : List (List ℕ)) → IsLocation segments → parse_refusal (location_text segments) ≡ None

abbrev pub TextsReadBack : Type 0
TextsReadBack = (segments : List (List ℕ)) → IsLocation segments → segments_of (location_text segments) ≡ segments

-- a text that no rule refuses is the text of a location, or that and one `/`
abbrev pub OnlyTextsPass : Type 0
OnlyTextsPass = (text : List ℕ) → parse_refusal text ≡ None →
    IsLocation (segments_of text) × ((text ≡ location_text (segments_of text)) ⊎ (text ≡ location_text (segments_of text) ++ 0x2F ∷ []))

-- cover is a partial order
abbrev pub CoverIsReflexive : Type 0
CoverIsReflexive = (a : List (List ℕ)) → Covers a a

abbrev pub CoverIsTransitive : Type 0
CoverIsTransitive = (a b c : List (List ℕ)) → Covers a b → Covers b c → Covers a c

abbrev pub CoverIsAntisymmetric : Type 0
CoverIsAntisymmetric = (a b : List (List ℕ)) → Covers a b → Covers b a → a ≡ b

-- overlap is symmetric
abbrev pub OverlapIsSymmetric : Type 0
OverlapIsSymmetric = (a b : List (List ℕ)) → Overlaps a b → Overlaps b a

-- two locations that cover one location overlap
abbrev pub CoversOverlap : Type 0
CoversOverlap = (a b c : List (List ℕ)) → Covers a c → Covers b c → Overlaps a b
