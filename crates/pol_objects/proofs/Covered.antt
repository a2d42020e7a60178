-- The objects that a path covers: the one at it, and those whose texts go on behind its text with a `/`.
use Rattle.std.proofs.Common.{◌≡◌, ◌≢◌, ◌⊎◌, ◌<◌, ◌+◌, ℕ, zero, suc, take, Bool, true, false, not, cond, ◌&&◌, ◌||◌, List, [], ◌∷◌, ◌++◌, map, filter, drop, None, Some, refl, ap, sym, subst, ◌∙◌, inl, inr, true≢false, arith, append_assoc, append-nil}
use Rattle.std.specs.Cmp.{both_ways, nat_cmp_total}
use Rattle.std.specs.Cmp.Lexicographic.{nat_list_cmp_total}
use Rattle.std.specs.List.{AllByRecursion, find, join_with_byte, prefix_len, slice_split, take_while}
use Rattle.std.specs.List.Sorted.{IsStrictlySortedBy}
use Rattle.std.specs.Map.{keys_of, lookup}
use Rattle.std.specs.Ordering.{is_eq, is_le, is_lt, nat_cmp, ordering_reverse, ordering_then}
use Rattle.std.specs.Prelude.{All, Option, ◌==◌, option_map}
use Rattle.std.specs.declared.cmp.Ordering.{Ordering}
use Rattle.std.specs.declared.cmp.Ordering.TheVariants.{Less, Equal, Greater}
use Rattle.std.proofs.lemmas.Cmp.{ranked, tied_itself}
use Rattle.std.proofs.lemmas.Grind.{common_steps}
use Rattle.std.proofs.lemmas.List.Elements.{All-head, All-tail, All-weaker}
use Rattle.std.proofs.lemmas.List.Splits.{slice_split_at}
use Rattle.std.proofs.lemmas.Map.Keys.{sorted_head, sorted_tail}
use Rattle.pol_locations.proofs.Prefixes.{Covers-from_test, test-from_Covers}
use Rattle.pol_locations.specs.Location.{Covers, IsLocation, IsSegment, is_cover, is_segment_byte, location_text, scheme, segments_of}
use Rattle.pol_locations.proofs.Texts.{segments_of-location_text}
use Rattle.pol_types.proofs.Joins.{slice_split-join_with_byte}
use Rattle.pol_blocks.specs.Blocks.{flat, number_of}
use Rattle.pol_blocks.specs.declared.place.Place.{Place}
use Rattle.pol_blocks.proofs.Points.{place-within}
use Rattle.pol_objects.proofs.Kept.{found, same_text, texts_tell}
use Rattle.pol_objects.proofs.Places.{between-at}
use Rattle.pol_objects.proofs.Searches.{below-parted}
use Rattle.pol_objects.specs.Entries.{IsParting, IsRising, is_below}
use Rattle.pol_objects.specs.Objects.{IsKept, Object, byte_order, has_text, is_at, is_between, kept_objects, keyed, object_with, path_of, paths_behind, paths_under}

-- a byte that is at least `/` and below `0`
slash : (byte : ℕ) (rest first second : Ordering) → is_le rest ≡ true → first ≡ nat_cmp 0x2F byte → second ≡ nat_cmp 0x30 byte →
    (is_le (ordering_then first rest) && not (is_le (ordering_then second rest))) ≡ true → 0x2F ≡ byte
slash byte rest Less Less up from to is = absurd (true≢false (sym is))
slash byte rest Less Equal up from to is = absurd (true≢false (sym is ∙ ap not up))
slash byte rest Less Greater up from to is =
    let above : 0x2F < byte = ranked 0x2F byte Less from in
    let below : byte < 0x30 = ranked 0x30 byte Greater to in
    omega arith
slash byte rest Equal second up from to is = ranked 0x2F byte Equal from
slash byte rest Greater second up from to is = absurd (true≢false (sym is))

-- from a byte on
stepped : (x byte : ℕ) (text other : List ℕ) (order : Ordering) → order ≡ nat_cmp x byte →
    (is_le (ordering_then order (byte_order (text ++ 0x2F ∷ []) other)) && not (is_le (ordering_then order (byte_order (text ++ 0x30 ∷ []) other)))) ≡ true →
    (is_between text other ≡ true → (rest : List ℕ) × (other ≡ text ++ 0x2F ∷ rest)) →
    (rest : List ℕ) × (byte ∷ other ≡ x ∷ text ++ 0x2F ∷ rest)
stepped x byte text other Less at is more = absurd (true≢false (sym is))
stepped x byte text other Equal at is more =
    let same : x ≡ byte = ranked x byte Equal at in
    let behind = more is in
    (behind.0, λ i. sym same i ∷ behind.1 i)
stepped x byte text other Greater at is more = absurd (true≢false (sym is))

-- a text in that range goes on behind the first one with a `/`
pub goes_on : (text other : List ℕ) → is_between text other ≡ true → (rest : List ℕ) × (other ≡ text ++ 0x2F ∷ rest)
goes_on [] [] is = absurd (true≢false (sym is))
goes_on [] (byte ∷ []) is = ([], ap (λ first. first ∷ []) (sym (slash byte Equal (nat_cmp 0x2F byte) (nat_cmp 0x30 byte) refl refl refl is)))
goes_on [] (byte ∷ next ∷ other) is = (next ∷ other, ap (λ first. first ∷ next ∷ other) (sym (slash byte Less (nat_cmp 0x2F byte) (nat_cmp 0x30 byte) refl refl refl is)))
goes_on (x ∷ text) [] is = absurd (true≢false (sym is))
goes_on (x ∷ text) (byte ∷ other) is = stepped x byte text other (nat_cmp x byte) refl is (goes_on text other)

-- and such a text is in the range
pub is_between-slash : (text rest : List ℕ) → is_between text (text ++ 0x2F ∷ rest) ≡ true
is_between-slash [] [] = refl
is_between-slash [] (byte ∷ rest) = refl
is_between-slash (x ∷ text) rest =
    subst (λ order. (is_le (ordering_then order (byte_order (text ++ 0x2F ∷ []) (text ++ 0x2F ∷ rest))) && not (is_le (ordering_then order (byte_order (text ++ 0x30 ∷ []) (text ++ 0x2F ∷ rest))))) ≡ true)
    (sym (tied_itself nat_cmp_total x)) (is_between-slash text rest)

-- a text is below what goes on behind it
pub below_longer : (text : List ℕ) (byte : ℕ) (rest : List ℕ) → byte_order text (text ++ byte ∷ rest) ≡ Less
below_longer [] byte rest = refl
below_longer (x ∷ text) byte rest =
    subst (λ order. ordering_then order (byte_order text (text ++ byte ∷ rest)) ≡ Less) (sym (tied_itself nat_cmp_total x)) (below_longer text byte rest)

-- joined segments, and more of them behind
joined_more : (segment : List ℕ) (path : List (List ℕ)) (next : List ℕ) (rest : List (List ℕ)) →
    join_with_byte 0x2F (segment ∷ path ++ next ∷ rest) ≡ join_with_byte 0x2F (segment ∷ path) ++ 0x2F ∷ join_with_byte 0x2F (next ∷ rest)
joined_more segment [] next rest = refl
joined_more segment (other ∷ path) next rest =
    ap (λ end. segment ++ 0x2F ∷ end) (joined_more other path next rest)
    ∙ sym (append_assoc segment (0x2F ∷ join_with_byte 0x2F (other ∷ path)) (0x2F ∷ join_with_byte 0x2F (next ∷ rest)))

slash_free : (segment : List ℕ) → IsSegment segment → All (λ byte. (byte == 0x2F) ≡ false) segment
slash_free segment is = All-weaker (λ byte. is_segment_byte byte ≡ true) (λ byte. (byte == 0x2F) ≡ false) (λ byte passes. grind (arith, common_steps)) segment is.clean

all_free : (path : List (List ℕ)) → IsLocation path → All (All (λ byte. (byte == 0x2F) ≡ false)) path
all_free path location = All-weaker IsSegment (All (λ byte. (byte == 0x2F) ≡ false)) slash_free path location.segmented

-- joined segments are cut into them, whatever follows behind a `/`
cut_more : (segment : List ℕ) (path : List (List ℕ)) (rest : List ℕ) → All (All (λ byte. (byte == 0x2F) ≡ false)) (segment ∷ path) →
    slice_split (λ byte. byte == 0x2F) (join_with_byte 0x2F (segment ∷ path) ++ 0x2F ∷ rest) ≡ (segment ∷ path) ++ slice_split (λ byte. byte == 0x2F) rest
cut_more segment [] rest without =
    slice_split_at (λ byte. byte == 0x2F) segment 0x2F rest (All-head (All (λ byte. (byte == 0x2F) ≡ false)) segment [] without) refl
cut_more segment (next ∷ path) rest without =
    ap (slice_split (λ byte. byte == 0x2F)) (append_assoc segment (0x2F ∷ join_with_byte 0x2F (next ∷ path)) (0x2F ∷ rest))
    ∙ slice_split_at (λ byte. byte == 0x2F) segment 0x2F (join_with_byte 0x2F (next ∷ path) ++ 0x2F ∷ rest) (All-head (All (λ byte. (byte == 0x2F) ≡ false)) segment (next ∷ path) without) refl
    ∙ ap (λ end. segment ∷ end) (cut_more next path rest (All-tail (All (λ byte. (byte == 0x2F) ≡ false)) segment (next ∷ path) without))

cut : (path : List (List ℕ)) → IsLocation path → slice_split (λ byte. byte == 0x2F) (join_with_byte 0x2F path) ≡ path
cut [] location = absurd (location.filled refl)
cut (segment ∷ path) location = slice_split-join_with_byte 0x2F segment path (all_free (segment ∷ path) location)

-- a location whose text goes on behind that of another one is covered by it
pub covers_longer : (path other : List (List ℕ)) (rest : List ℕ) → IsLocation path → IsLocation other →
    location_text other ≡ location_text path ++ 0x2F ∷ rest → Covers path other
covers_longer [] other rest location located is = absurd (location.filled refl)
covers_longer (segment ∷ path) other rest location located is =
    let joined : join_with_byte 0x2F other ≡ join_with_byte 0x2F (segment ∷ path) ++ 0x2F ∷ rest = ap (drop 7) is in (
      slice_split (λ byte. byte == 0x2F) rest,
      sym (cut other located) ∙ ap (slice_split (λ byte. byte == 0x2F)) joined ∙ cut_more segment path rest (all_free (segment ∷ path) location),
    )

-- where one of two tests holds
one_holds : (first second : Bool) → (first || second) ≡ true → (first ≡ true) ⊎ (second ≡ true)
one_holds true second is = inl refl
one_holds false second is = inr is

first_holds : (first second : Bool) → first ≡ true → (first || second) ≡ true
first_holds true second is = refl
first_holds false second is = absurd (true≢false (sym is))

second_holds : (first second : Bool) → second ≡ true → (first || second) ≡ true
second_holds true second is = refl
second_holds false second is = is

-- what a path covers is at it or goes on behind it
at_or_behind : (path rest : List (List ℕ)) → path ≢ [] → (has : List ℕ → Bool) → has (location_text path) ≡ true →
    (has (location_text (path ++ rest)) || is_between (location_text path) (location_text (path ++ rest))) ≡ true
at_or_behind [] rest filled has own = absurd (filled refl)
at_or_behind (segment ∷ path) [] filled has own =
    first_holds (has (location_text ((segment ∷ path) ++ []))) (is_between (location_text (segment ∷ path)) (location_text ((segment ∷ path) ++ [])))
    (ap (λ whole. has (location_text whole)) (append-nil (segment ∷ path)) ∙ own)
at_or_behind (segment ∷ path) (next ∷ rest) filled has own =
    second_holds (has (location_text (segment ∷ path ++ next ∷ rest))) (is_between (location_text (segment ∷ path)) (location_text (segment ∷ path ++ next ∷ rest)))
    (ap (λ joined. is_between (location_text (segment ∷ path)) (scheme ++ joined)) (joined_more segment path next rest)
    ∙ is_between-slash (location_text (segment ∷ path)) (join_with_byte 0x2F (next ∷ rest)))

covered_then : (path other : List (List ℕ)) → IsLocation path → is_cover path other ≡ true →
    (is_eq (byte_order (location_text path) (location_text other)) || is_between (location_text path) (location_text other)) ≡ true
covered_then path other location is =
    let covers = Covers-from_test path other is in
    subst (λ whole. (is_eq (byte_order (location_text path) (location_text whole)) || is_between (location_text path) (location_text whole)) ≡ true) (sym covers.1)
    (at_or_behind path covers.0 location.filled (λ text. is_eq (byte_order (location_text path) text)) (ap is_eq (tied_itself nat_list_cmp_total (location_text path))))

then_covered : (path other : List (List ℕ)) → IsLocation path → IsLocation other →
    (is_eq (byte_order (location_text path) (location_text other)) || is_between (location_text path) (location_text other)) ≡ true → is_cover path other ≡ true
then_covered path other location located is =
    elim (one_holds (is_eq (byte_order (location_text path) (location_text other))) (is_between (location_text path) (location_text other)) is) as (λ _. is_cover path other ≡ true) [
      | inl at ↦ test-from_Covers path other ([], sym (texts_tell path other location located (same_text (location_text path) (location_text other) at)) ∙ sym (append-nil path))
      | inr between ↦ let tail = goes_on (location_text path) (location_text other) between in
          test-from_Covers path other (covers_longer path other tail.0 location located tail.1)
    ]

pub covered : (path other : List (List ℕ)) → IsLocation path → IsLocation other →
    is_cover path other ≡ (is_eq (byte_order (location_text path) (location_text other)) || is_between (location_text path) (location_text other))
covered path other location located =
    both_ways (is_cover path other) (is_eq (byte_order (location_text path) (location_text other)) || is_between (location_text path) (location_text other))
    (covered_then path other location) (then_covered path other location located)

abbrev pub behind : List ℕ → Object → Bool
behind text object = is_between text (location_text object.path)

covers-filter : (path : List (List ℕ)) (objects : List Object) → IsLocation path → AllByRecursion (λ object. IsLocation object.path) objects →
    filter (λ object. is_cover path object.path) objects ≡ filter (λ object. is_at path object || behind (location_text path) object) objects
covers-filter path [] location located = refl
covers-filter path (object ∷ objects) location located =
    λ i. cond (covered path object.path location located.0 i) (object ∷ covers-filter path objects location located.1 i) (covers-filter path objects location located.1 i)

-- past a text that is above, no other is this one
none_past : (text key : List ℕ) (objects : List Object) → byte_order text key ≡ Less → AllByRecursion (λ other. byte_order key other ≡ Less) (map (λ e. e.0) (map keyed objects)) →
    filter (has_text text) objects ≡ []
none_past text key [] less above = refl
none_past text key (object ∷ objects) less above =
    subst (λ order. cond (is_eq order) (object ∷ filter (has_text text) objects) (filter (has_text text) objects) ≡ [])
    (sym (nat_list_cmp_total.trans text key (location_text object.path) less above.0)) (none_past text key objects less above.1)

not_both : (text other : List ℕ) → is_eq (byte_order text other) ≡ true → is_between text other ≡ true → ⊥
not_both text other at between =
    let rest = goes_on text other between in
    let less : byte_order text other ≡ Less = ap (byte_order text) rest.1 ∙ below_longer text 0x2F rest.0 in
    true≢false (sym at ∙ ap is_eq less)

part : (text : List ℕ) (object : Object) (objects : List Object) → AllByRecursion (λ key. byte_order (location_text object.path) key ≡ Less) (map (λ e. e.0) (map keyed objects)) →
    (at between : Bool) → has_text text object ≡ at → behind text object ≡ between →
    filter (λ object. has_text text object || behind text object) objects ≡ filter (has_text text) objects ++ filter (behind text) objects →
    cond (at || between) (object ∷ filter (λ object. has_text text object || behind text object) objects) (filter (λ object. has_text text object || behind text object) objects)
    ≡ cond at (object ∷ filter (has_text text) objects) (filter (has_text text) objects) ++ cond between (object ∷ filter (behind text) objects) (filter (behind text) objects)
part text object objects above true true at between rest = absurd (not_both text (location_text object.path) at between)
part text object objects above true false at between rest = ap (λ kept. object ∷ kept) rest
part text object objects above false true at between rest =
    let tail = goes_on text (location_text object.path) between in
    let less : byte_order text (location_text object.path) ≡ Less = ap (byte_order text) tail.1 ∙ below_longer text 0x2F tail.0 in
    let none : filter (has_text text) objects ≡ [] = none_past text (location_text object.path) objects less above in
    ap (λ kept. object ∷ kept) (rest ∙ ap (λ front. front ++ filter (behind text) objects) none) ∙ sym (ap (λ front. front ++ object ∷ filter (behind text) objects) none)
part text object objects above false false at between rest = rest

-- the object at a text is before those behind it
filter-parts : (text : List ℕ) (objects : List Object) → IsStrictlySortedBy byte_order (keys_of (map keyed objects)) →
    filter (λ object. has_text text object || behind text object) objects ≡ filter (has_text text) objects ++ filter (behind text) objects
filter-parts text [] rising = refl
filter-parts text (object ∷ objects) rising =
    part text object objects (sorted_head byte_order (location_text object.path) (keys_of (map keyed objects)) rising) (has_text text object) (behind text object) refl refl
    (filter-parts text objects (sorted_tail byte_order (location_text object.path) (keys_of (map keyed objects)) rising))

-- where all texts are above this one, none is it
none_above : (text : List ℕ) (objects : List Object) → AllByRecursion (λ key. byte_order text key ≡ Less) (map (λ e. e.0) (map keyed objects)) →
    filter (has_text text) objects ≡ []
none_above text [] above = refl
none_above text (object ∷ objects) above =
    subst (λ order. cond (is_eq order) (object ∷ filter (has_text text) objects) (filter (has_text text) objects) ≡ []) (sym above.0) (none_above text objects above.1)

-- the path of the object that was found
abbrev found_path : Option Object → List (List (List ℕ))
found_path None = []
found_path (Some object) = object.path ∷ []

path-found : (path : List (List ℕ)) (bytes : Option (List ℕ)) → path_of path bytes ≡ found_path (option_map (object_with path) bytes)
path-found path None = refl
path-found path (Some bytes) = refl

one_at : (text : List ℕ) (object : Object) (objects : List Object) → AllByRecursion (λ key. byte_order (location_text object.path) key ≡ Less) (map (λ e. e.0) (map keyed objects)) →
    (at : Bool) → has_text text object ≡ at → map (λ object. object.path) (filter (has_text text) objects) ≡ found_path (find (has_text text) objects) →
    map (λ object. object.path) (cond at (object ∷ filter (has_text text) objects) (filter (has_text text) objects)) ≡ found_path (cond at (Some object) (find (has_text text) objects))
one_at text object objects above true at rest =
    let same : text ≡ location_text object.path = same_text text (location_text object.path) at in
    let others = subst (λ own. AllByRecursion (λ key. byte_order own key ≡ Less) (map (λ e. e.0) (map keyed objects))) (sym same) above in
    ap (λ kept. object.path ∷ map (λ object. object.path) kept) (none_above text objects others)
one_at text object objects above false at rest = rest

filter-find : (text : List ℕ) (objects : List Object) → IsStrictlySortedBy byte_order (keys_of (map keyed objects)) →
    map (λ object. object.path) (filter (has_text text) objects) ≡ found_path (find (has_text text) objects)
filter-find text [] rising = refl
filter-find text (object ∷ objects) rising =
    one_at text object objects (sorted_head byte_order (location_text object.path) (keys_of (map keyed objects)) rising) (has_text text object) refl
    (filter-find text objects (sorted_tail byte_order (location_text object.path) (keys_of (map keyed objects)) rising))

map_both : (front rest : List Object) → map (λ object. object.path) (front ++ rest) ≡ map (λ object. object.path) front ++ map (λ object. object.path) rest
map_both [] rest = refl
map_both (object ∷ front) rest = ap (λ paths. object.path ∷ paths) (map_both front rest)

entries-behind : (text : List ℕ) (objects : List Object) → AllByRecursion (λ object. IsLocation object.path) objects →
    paths_behind text (map keyed objects) ≡ map (λ object. object.path) (filter (behind text) objects)
entries-behind text [] located = refl
entries-behind text (object ∷ objects) located =
    elim (behind text object) as (λ kept. map (λ entry. segments_of entry.0) (cond kept (keyed object ∷ filter (λ entry. is_between text entry.0) (map keyed objects)) (filter (λ entry. is_between text entry.0) (map keyed objects)))
    ≡ map (λ object. object.path) (cond kept (object ∷ filter (behind text) objects) (filter (behind text) objects)))
    [ true ↦ λ i. segments_of-location_text object.path located.0 i ∷ entries-behind text objects located.1 i | false ↦ entries-behind text objects located.1 ]

-- the paths that a path covers are that of the object at it, and those of the objects behind it
pub listed : (entries : List (List ℕ × List ℕ)) (text : List ℕ) (path : List (List ℕ)) → IsKept entries → text ≡ location_text path → IsLocation path →
    path_of path (lookup (λ key. is_eq (byte_order text key)) entries) ++ paths_behind text entries ≡ paths_under (kept_objects entries) path
listed entries text path kept own location =
    let objects = kept_objects entries in
    let rising : IsStrictlySortedBy byte_order (keys_of (map keyed objects)) = subst (λ all. IsStrictlySortedBy byte_order (keys_of all)) kept.under kept.rising in
    let first : path_of path (lookup (λ key. is_eq (byte_order text key)) entries) ≡ map (λ object. object.path) (filter (has_text text) objects) =
    path-found path (lookup (λ key. is_eq (byte_order text key)) entries)
    ∙ ap found_path (found entries text path kept location own ∙ ap (λ text. find (has_text text) objects) (sym own)) ∙ sym (filter-find text objects rising) in
    let others : paths_behind text entries ≡ map (λ object. object.path) (filter (behind text) objects) =
    ap (paths_behind text) kept.under ∙ entries-behind text objects kept.located in
    (λ i. first i ++ others i)
    ∙ sym (map_both (filter (has_text text) objects) (filter (behind text) objects))
    ∙ ap (map (λ object. object.path)) (sym (filter-parts text objects rising)
    ∙ ap (λ text. filter (λ object. has_text text object || behind text object) objects) own
    ∙ sym (covers-filter path objects location kept.located))

-- an entry in front of the end of the range
abbrev pub is_early : List ℕ → List ℕ × List ℕ → Bool
is_early text entry = is_below (text ++ 0x30 ∷ []) entry

le_not_lt : (order : Ordering) → is_le (ordering_reverse order) ≡ not (is_lt order)
le_not_lt Less = refl
le_not_lt Equal = refl
le_not_lt Greater = refl

not_le_lt : (order : Ordering) → not (is_le (ordering_reverse order)) ≡ is_lt order
not_le_lt Less = refl
not_le_lt Equal = refl
not_le_lt Greater = refl

-- the range is what isn't in front of its first text and is in front of its end
between-tests : (text : List ℕ) (entry : List ℕ × List ℕ) → is_between text entry.0 ≡ (not (is_below (text ++ 0x2F ∷ []) entry) && is_early text entry)
between-tests text entry =
    let first : is_le (byte_order (text ++ 0x2F ∷ []) entry.0) ≡ not (is_lt (byte_order entry.0 (text ++ 0x2F ∷ []))) =
    ap is_le (nat_list_cmp_total.antisymm (text ++ 0x2F ∷ []) entry.0) ∙ le_not_lt (byte_order entry.0 (text ++ 0x2F ∷ [])) in
    let end : not (is_le (byte_order (text ++ 0x30 ∷ []) entry.0)) ≡ is_lt (byte_order entry.0 (text ++ 0x30 ∷ [])) =
    ap (λ order. not (is_le order)) (nat_list_cmp_total.antisymm (text ++ 0x30 ∷ []) entry.0) ∙ not_le_lt (byte_order entry.0 (text ++ 0x30 ∷ [])) in
    λ i. first i && end i

filter-same : {A : Type 0} (one other : A → Bool) (items : List A) → ((item : A) → one item ≡ other item) → filter one items ≡ filter other items
filter-same one other [] same = refl
filter-same one other (x ∷ items) same = λ i. cond (same x i) (x ∷ filter-same one other items same i) (filter-same one other items same i)

-- the entries of the range are those from its first place on that are in front of its end
pub range-at : (text first : List ℕ) (blocks : List (List (List ℕ × List ℕ))) (place : Place) → first ≡ text ++ 0x2F ∷ [] → IsRising (flat blocks) → IsParting first blocks place →
    take_while (is_early text) (drop (number_of blocks place) (flat blocks)) ≡ filter (λ entry. is_between text entry.0) (flat blocks)
range-at text first blocks place is rising parting =
    let own = subst (λ some. IsParting some blocks place) is parting in
    sym (between-at (is_early text) (is_below (text ++ 0x2F ∷ [])) (flat blocks) (number_of blocks place) own.front own.behind (place-within blocks place own.within) (below-parted (text ++ 0x30 ∷ []) (flat blocks) rising))
    ∙ sym (filter-same (λ entry. is_between text entry.0) (λ entry. not (is_below (text ++ 0x2F ∷ []) entry) && is_early text entry) (flat blocks) (between-tests text))

pub each-drop : {A : Type 0} (P : A → Type 0) (n : ℕ) (items : List A) → AllByRecursion P items → AllByRecursion P (drop n items)
each-drop P zero items each = each
each-drop P (suc n) [] each = tt
each-drop P (suc n) (x ∷ items) each = each-drop P n items each.1

-- the first of the items that are left
pub early-first : {A : Type 0} (test : A → Bool) (x : A) (items : List A) → test x ≡ true → take_while test (x ∷ items) ≡ x ∷ take_while test items
early-first test x items is =
    ap (λ b. take (cond b (1 + prefix_len test items) 0) (x ∷ items)) is
    ∙ ap (λ n. take n (x ∷ items)) (let e : 1 + prefix_len test items ≡ suc (prefix_len test items) = omega arith in e)
