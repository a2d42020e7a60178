-- How the segments of a location are judged and read in turn.
use Rattle.std.proofs.Common.{◌≡◌, ◌≢◌, ◌≤◌, ◌<◌, ℕ, ◌+◌, ◌||◌, Bool, true, false, not, List, [], ◌∷◌, ◌++◌, length, drop, get_or, Bor, refl, subst, ap, sym, ◌∙◌, arith, append_assoc, append-nil, length-append}
use Rattle.std.specs.Prelude.{Option, None, Some, All, codes, if◌then◌else◌, nat_eq, nat_lt, ◌==◌}
use Rattle.std.specs.Cmp.Lexicographic.{bytes_decides, pointwise}
use Rattle.std.specs.List.{list_all}
use Rattle.std.specs.Option.{option_or}
use Rattle.std.proofs.lemmas.Grind.{common_steps}
use Rattle.std.proofs.lemmas.List.{drop_more}
use Rattle.std.proofs.lemmas.List.Elements.{All-cons, All-head, All-nil, All-push, All-tail}
use Rattle.std.proofs.lemmas.List.Sums.{AllPass-from_list_all, list_all-from_AllPass}
use Rattle.pol_locations.specs.Location.{IsLocation, IsLocationRefusal, IsSegment, IsSegmentRefusal, RefusesSegment, is_segment_byte, location_refusal, location_text, segment_refusal, segments_refusal, texts}
use Rattle.pol_locations.specs.declared.refused.LocationRefused.{LocationRefused}
use Rattle.pol_locations.specs.declared.refused.LocationRefused.TheVariants.{BadScheme, EmptySegment, DotSegment, ControlByte, TooLong, OutOfMemory}

-- texts that a test tells apart
apart : (text other : List ℕ) → pointwise nat_eq text other ≡ false → text ≢ other
apart text other differ same = let equal = (bytes_decides text other).1 same in cc

neither : (first second : Bool) → (first || second) ≡ false → (first ≡ false) × (second ≡ false)
neither true second none = cc
neither false second none = (refl, none)

not_empty : (text : List ℕ) → (length text == 0) ≡ false → text ≢ []
not_empty [] some empty = cc
not_empty (byte ∷ text) some empty = cc

-- a text that passes each test is a segment
pub IsSegment-from_tests : (segment : List ℕ) → (length segment == 0) ≡ false →
    (pointwise nat_eq segment (codes ".") || pointwise nat_eq segment (codes "..")) ≡ false → list_all is_segment_byte segment ≡ true → IsSegment segment
IsSegment-from_tests segment some no_dots clean =
    let both = neither (pointwise nat_eq segment (codes ".")) (pointwise nat_eq segment (codes "..")) no_dots in
    record {
      filled = not_empty segment some;
      no_dot = apart segment (codes ".") both.0;
      no_dots = apart segment (codes "..") both.1;
      clean = AllPass-from_list_all is_segment_byte segment clean;
    }

same_by_test : (text other : List ℕ) → text ≢ other → (answer : Bool) → pointwise nat_eq text other ≡ answer → answer ≡ false
same_by_test text other differ true is = absurd (differ ((bytes_decides text other).0 is))
same_by_test text other differ false is = refl

some_bytes : (text : List ℕ) → text ≢ [] → (length text == 0) ≡ false
some_bytes [] filled = absurd (filled refl)
some_bytes (byte ∷ text) filled = grind (arith, common_steps)

pub segment_refusal-IsSegment : (segment : List ℕ) → IsSegment segment → segment_refusal segment ≡ None
unfolding segment_refusal
segment_refusal-IsSegment segment is =
    rw (
      some_bytes segment is.filled,
      same_by_test segment (codes ".") is.no_dot (pointwise nat_eq segment (codes ".")) refl,
      same_by_test segment (codes "..") is.no_dots (pointwise nat_eq segment (codes "..")) refl,
      list_all-from_AllPass is_segment_byte segment is.clean,
    ) refl

-- none of three rules in a row refuses
passes : {A : Type 0} (x y z : A) (first second third : Bool) →
    (if first then Some x else if second then Some y else if not third then Some z else None) ≡ None → (first ≡ false) × (second ≡ false) × (third ≡ true)
passes x y z true second third none = cc
passes x y z false true third none = cc
passes x y z false false false none = cc
passes x y z false false true none = (refl, refl, refl)

pub IsSegment-from_refusal : (segment : List ℕ) → segment_refusal segment ≡ None → IsSegment segment
unfolding segment_refusal
IsSegment-from_refusal segment none =
    let tests = passes EmptySegment DotSegment ControlByte (length segment == 0)
    (pointwise nat_eq segment (codes ".") || pointwise nat_eq segment (codes "..")) (list_all is_segment_byte segment) none in
    IsSegment-from_tests segment tests.0 tests.1 tests.2

-- segments refuse nothing, so the first that is none stands behind them
pub segments_refusal-append : (read segments : List (List ℕ)) → All IsSegment read → segments_refusal (read ++ segments) ≡ segments_refusal segments
segments_refusal-append [] segments segmented = refl
segments_refusal-append (segment ∷ read) segments segmented =
    rw (segment_refusal-IsSegment segment (All-head IsSegment segment read segmented))
    (segments_refusal-append read segments (All-tail IsSegment segment read segmented))

none_of_both : (first others : Option LocationRefused) → option_or first others ≡ None → (first ≡ None) × (others ≡ None)
none_of_both None others none = (refl, none)
none_of_both (Some why) others none = cc

segmented_from_refusal : (segments : List (List ℕ)) → segments_refusal segments ≡ None → All IsSegment segments
segmented_from_refusal [] none = All-nil IsSegment
segmented_from_refusal (segment ∷ segments) none =
    let both = none_of_both (segment_refusal segment) (segments_refusal segments) none in
    All-cons IsSegment segment segments (IsSegment-from_refusal segment both.0) (segmented_from_refusal segments both.1)

-- a list of segments whose text is not too long is judged by its segments
pub location_refusal-segments_refusal : (segments : List (List ℕ)) → 0 < length segments → length (location_text segments) ≤ 1024 → location_refusal segments ≡ segments_refusal segments
unfolding location_refusal
location_refusal-segments_refusal segments filled bounded =
    let short : nat_lt 1024 (length (location_text segments)) ≡ false = grind (arith, common_steps) in
    let some : (length segments == 0) ≡ false = grind (arith, common_steps) in
    rw (short, some) refl

whole : (read : List (List ℕ)) (segment : List ℕ) (segments : List (List ℕ)) (why : LocationRefused) → All IsSegment read →
    length (location_text (read ++ segment ∷ segments)) ≤ 1024 → segment_refusal segment ≡ Some why → location_refusal (read ++ segment ∷ segments) ≡ Some why
whole read segment segments why segmented bounded refused =
    location_refusal-segments_refusal (read ++ segment ∷ segments) (omega (arith, length-append read (segment ∷ segments))) bounded
    ∙ segments_refusal-append read (segment ∷ segments) segmented
    ∙ ap (λ first. option_or first (segments_refusal segments)) refused

-- the refusal of the segment behind those that were read is the refusal of the whole
pub refused_at_segment : (read : List (List ℕ)) (segment : List ℕ) (segments : List (List ℕ)) (why : LocationRefused) → All IsSegment read →
    length (location_text (read ++ segment ∷ segments)) ≤ 1024 → IsSegmentRefusal segment why → IsLocationRefusal (read ++ segment ∷ segments) why
refused_at_segment read segment segments BadScheme segmented bounded refused = whole read segment segments BadScheme segmented bounded refused
refused_at_segment read segment segments EmptySegment segmented bounded refused = whole read segment segments EmptySegment segmented bounded refused
refused_at_segment read segment segments DotSegment segmented bounded refused = whole read segment segments DotSegment segmented bounded refused
refused_at_segment read segment segments ControlByte segmented bounded refused = whole read segment segments ControlByte segmented bounded refused
refused_at_segment read segment segments TooLong segmented bounded refused = whole read segment segments TooLong segmented bounded refused
refused_at_segment read segment segments OutOfMemory segmented bounded refused = tt

-- the segments that were read stand before those that are left
pub record HaveRead (segments read rest : List (List ℕ)) : Type 0 where
  pub split : read ++ rest ≡ segments
  pub segmented : All IsSegment read

-- none of two rules in a row and none of the others refuses
pub none_of_two : {A : Type 0} (x y : A) (first second : Bool) (others : Option A) →
    (if first then Some x else if second then Some y else others) ≡ None → (first ≡ false) × (second ≡ false) × (others ≡ None)
none_of_two x y true second others none = cc
none_of_two x y false true others none = cc
none_of_two x y false false others none = (refl, refl, none)

some_segments : (segments : List (List ℕ)) → (length segments == 0) ≡ false → segments ≢ []
some_segments [] some empty = cc
some_segments (segment ∷ segments) some empty = cc

has_segments : (segments : List (List ℕ)) → segments ≢ [] → 0 < length segments
has_segments [] filled = absurd (filled refl)
has_segments (segment ∷ segments) filled = omega arith

pub IsLocation-from_refusal : (segments : List (List ℕ)) → location_refusal segments ≡ None → IsLocation segments
unfolding location_refusal
IsLocation-from_refusal segments none =
    let tests = none_of_two TooLong EmptySegment (nat_lt 1024 (length (location_text segments))) (length segments == 0) (segments_refusal segments) none in
    let short = tests.0 in
    let bounded : length (location_text segments) ≤ 1024 = grind (arith, common_steps) in
    record { filled = some_segments segments tests.1; bounded = bounded; segmented = segmented_from_refusal segments tests.2 }

pub location_refusal-IsLocation : (segments : List (List ℕ)) → IsLocation segments → location_refusal segments ≡ None
location_refusal-IsLocation segments location =
    location_refusal-segments_refusal segments (has_segments segments location.filled) location.bounded
    ∙ ap segments_refusal (sym (append-nil segments))
    ∙ segments_refusal-append segments [] location.segmented

-- the segment at a place is the first of those that are left there
pub next_at : (segments : List (Bor (List ℕ))) (place : ℕ) (other : Bor (List ℕ)) → place < length segments →
    texts (drop place segments) ≡ (get_or segments place other).now ∷ texts (drop (place + 1) segments)
next_at segments place other inside = ap texts (drop_more segments place other inside)

pub have_read_more : (segments read rest : List (List ℕ)) (segment : List ℕ) → HaveRead segments read (segment ∷ rest) → IsSegment segment → HaveRead segments (read ++ segment ∷ []) rest
have_read_more segments read rest segment before segmented =
    record { split = append_assoc read (segment ∷ []) rest ∙ before.split; segmented = All-push IsSegment read segment before.segmented segmented }

-- a list without segments
pub no_segments : (segments : List (Bor (List ℕ))) → (length segments == 0) ≡ true → location_refusal (texts segments) ≡ Some EmptySegment
unfolding location_refusal
no_segments [] none = refl
no_segments (segment ∷ segments) none = absurd (grind (arith, common_steps))

pub refused_behind : (segments read rest : List (List ℕ)) (segment : List ℕ) (why : LocationRefused) → HaveRead segments read (segment ∷ rest) →
    length (location_text segments) ≤ 1024 → RefusesSegment read segment why → IsLocationRefusal segments why
refused_behind segments read rest segment why before bounded refuses =
    subst (λ all. IsLocationRefusal all why) before.split
    (refuses rest before.segmented (subst (λ all. length (location_text all) ≤ 1024) (sym before.split) bounded))
