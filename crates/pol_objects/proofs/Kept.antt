-- How objects are kept under their texts, found, added and taken away.
use Rattle.std.proofs.Common.{◌≡◌, ℕ, Bool, true, false, not, cond, List, [], ◌∷◌, map, filter, None, Some, Ok, Err, Result, refl, ap, sym, subst, ◌∙◌}
use Rattle.std.specs.BTreeMap.{insert_entry}
use Rattle.std.specs.Cmp.Lexicographic.{bytes_decides, texts_ties}
use Rattle.std.specs.List.{AllByRecursion, find}
use Rattle.std.specs.List.Sorted.{IsStrictlySortedBy}
use Rattle.std.specs.Map.{keys_of, lookup, remove_entry}
use Rattle.std.specs.Ordering.{is_eq, is_lt, match_ordering}
use Rattle.std.specs.Prelude.{IfOk, Option, if◌then◌else◌, is_some, length, option_map}
use Rattle.std.specs.declared.cmp.Ordering.{Ordering}
use Rattle.std.specs.declared.cmp.Ordering.TheVariants.{Less, Equal, Greater}
use Rattle.std.proofs.lemmas.Map.Keys.{sorted_head, sorted_tail}
use Rattle.pol_locations.specs.Location.{IsLocation, location_text, parse_refusal, segments_of}
use Rattle.pol_locations.proofs.Texts.{parse_refusal-location_text, segments_of-location_text}
use Rattle.pol_objects.specs.Objects.{IsKept, Object, byte_order, has_text, is_at, kept_objects, keyed, object_at, object_with, order_at, with_object, without_object}

-- texts that compare as equal are equal
pub same_text : (left right : List ℕ) → is_eq (byte_order left right) ≡ true → left ≡ right
same_text left right is = (bytes_decides left right).0 (texts_ties left right ∙ is)

-- different locations have different texts
pub texts_tell : (path other : List (List ℕ)) → IsLocation path → IsLocation other → location_text path ≡ location_text other → path ≡ other
texts_tell path other location located is =
    sym (segments_of-location_text path location) ∙ ap segments_of is ∙ segments_of-location_text other located

-- the objects are those that are kept
pub objects-keyed : (objects : List Object) → AllByRecursion (λ object. IsLocation object.path) objects → kept_objects (map keyed objects) ≡ objects
objects-keyed [] located = refl
objects-keyed (object ∷ objects) located =
    λ i. object_with (segments_of-location_text object.path located.0 i) object.bytes ∷ objects-keyed objects located.1 i

-- what is kept under a text are the bytes of the object whose path has it
lookup-here : (here : Bool) (object : Object) (rest : Option (List ℕ)) (found : Option Object) → rest ≡ option_map (λ object. object.bytes) found →
    cond here (Some object.bytes) rest ≡ option_map (λ object. object.bytes) (cond here (Some object) found)
lookup-here true object rest found same = refl
lookup-here false object rest found same = same

pub lookup-keyed : (text : List ℕ) (objects : List Object) → lookup (λ key. is_eq (byte_order text key)) (map keyed objects) ≡ option_map (λ object. object.bytes) (find (has_text text) objects)
lookup-keyed text [] = refl
lookup-keyed text (object ∷ objects) =
    lookup-here (has_text text object) object (lookup (λ key. is_eq (byte_order text key)) (map keyed objects)) (find (has_text text) objects) (lookup-keyed text objects)

-- and that object is at the path with this text
found-here : (path : List (List ℕ)) (object : Object) (found : Option Object) → IsLocation path → IsLocation object.path → (here : Bool) → is_at path object ≡ here →
    option_map (object_with path) (option_map (λ object. object.bytes) found) ≡ found →
    option_map (object_with path) (option_map (λ object. object.bytes) (cond here (Some object) found)) ≡ cond here (Some object) found
found-here path object found location located true at rest =
    ap (λ own. Some (object_with own object.bytes)) (texts_tell path object.path location located (same_text (location_text path) (location_text object.path) at))
found-here path object found location located false at rest = rest

pub found-at : (path : List (List ℕ)) (objects : List Object) → IsLocation path → AllByRecursion (λ object. IsLocation object.path) objects →
    option_map (object_with path) (option_map (λ object. object.bytes) (object_at objects path)) ≡ object_at objects path
found-at path [] location located = refl
found-at path (object ∷ objects) location located =
    found-here path object (object_at objects path) location located.0 (is_at path object) refl (found-at path objects location located.1)

-- a new object goes to its place
placed : (object first : Object) (objects : List Object) (order : Ordering) → cond (is_eq order) (Some first) (object_at objects object.path) ≡ None →
    (object_at objects object.path ≡ None → insert_entry byte_order (map keyed objects) (location_text object.path) object.bytes ≡ map keyed (with_object object objects)) →
    match_ordering order (keyed object ∷ keyed first ∷ map keyed objects) ((location_text first.path, object.bytes) ∷ map keyed objects)
    (keyed first ∷ insert_entry byte_order (map keyed objects) (location_text object.path) object.bytes)
    ≡ map keyed (if is_lt order then object ∷ first ∷ objects else first ∷ with_object object objects)
placed object first objects Less new rest = refl
placed object first objects Equal new rest = cc
placed object first objects Greater new rest = ap (λ entries. keyed first ∷ entries) (rest new)

pub insert-keyed : (object : Object) (objects : List Object) → object_at objects object.path ≡ None →
    insert_entry byte_order (map keyed objects) (location_text object.path) object.bytes ≡ map keyed (with_object object objects)
insert-keyed object [] new = refl
insert-keyed object (first ∷ objects) new =
    placed object first objects (order_at (location_text object.path) first) new (insert-keyed object objects)

-- where all texts are above this one, none is taken away
pub none_taken : (text : List ℕ) (objects : List Object) → AllByRecursion (λ key. byte_order text key ≡ Less) (map (λ e. e.0) (map keyed objects)) →
    filter (λ object. not (has_text text object)) objects ≡ objects
none_taken text [] above = refl
none_taken text (object ∷ objects) above =
    subst (λ order. cond (not (is_eq order)) (object ∷ filter (λ object. not (has_text text object)) objects) (filter (λ object. not (has_text text object)) objects) ≡ object ∷ objects)
    (sym above.0) (ap (λ kept. object ∷ kept) (none_taken text objects above.1))

taken : (text : List ℕ) (first : Object) (objects : List Object) → AllByRecursion (λ key. byte_order (location_text first.path) key ≡ Less) (map (λ e. e.0) (map keyed objects)) →
    (found : Bool) → has_text text first ≡ found →
    remove_entry (λ key. is_eq (byte_order text key)) (map keyed objects) ≡ map keyed (filter (λ object. not (has_text text object)) objects) →
    cond found (map keyed objects) (keyed first ∷ remove_entry (λ key. is_eq (byte_order text key)) (map keyed objects))
    ≡ map keyed (cond (not found) (first ∷ filter (λ object. not (has_text text object)) objects) (filter (λ object. not (has_text text object)) objects))
taken text first objects above true is rest =
    let same : text ≡ location_text first.path = same_text text (location_text first.path) is in
    let others = subst (λ own. AllByRecursion (λ key. byte_order own key ≡ Less) (map (λ e. e.0) (map keyed objects))) (sym same) above in
    ap (map keyed) (sym (none_taken text objects others))
taken text first objects above false is rest = ap (λ entries. keyed first ∷ entries) rest

-- what is kept under a text is taken away
pub remove-keyed : (text : List ℕ) (objects : List Object) → IsStrictlySortedBy byte_order (keys_of (map keyed objects)) →
    remove_entry (λ key. is_eq (byte_order text key)) (map keyed objects) ≡ map keyed (filter (λ object. not (has_text text object)) objects)
remove-keyed text [] rising = refl
remove-keyed text (first ∷ objects) rising =
    taken text first objects (sorted_head byte_order (location_text first.path) (keys_of (map keyed objects)) rising) (has_text text first) refl
    (remove-keyed text objects (sorted_tail byte_order (location_text first.path) (keys_of (map keyed objects)) rising))

-- what holds of the objects and of a new one holds of all
each-with_object : (P : Object → Type 0) (object : Object) (objects : List Object) → P object → AllByRecursion P objects → AllByRecursion P (with_object object objects)
each-with_object P object [] new each = (new, each)
each-with_object P object (first ∷ objects) new each =
    let rest = each-with_object P object objects new each.1 in
    elim (is_lt (order_at (location_text object.path) first)) as (λ below. AllByRecursion P (if below then object ∷ first ∷ objects else first ∷ with_object object objects))
    [ true ↦ (new, each) | false ↦ (each.0, rest) ]

pub each-filter : {A : Type 0} (P : A → Type 0) (keep : A → Bool) (items : List A) → AllByRecursion P items → AllByRecursion P (filter keep items)
each-filter P keep [] each = tt
each-filter P keep (first ∷ items) each =
    let rest = each-filter P keep items each.1 in
    elim (keep first) as (λ kept. AllByRecursion P (cond kept (first ∷ filter keep items) (filter keep items))) [ true ↦ (each.0, rest) | false ↦ rest ]

-- each text is read back
pub texts_pass : (objects : List Object) → AllByRecursion (λ object. IsLocation object.path) objects → AllByRecursion (λ entry. parse_refusal entry.0 ≡ None) (map keyed objects)
texts_pass [] located = tt
texts_pass (object ∷ objects) located = (parse_refusal-location_text object.path located.0, texts_pass objects located.1)

-- entries that are kept, and the objects in them
pub record Keeps (entries : List (List ℕ × List ℕ)) (objects : List Object) : Type 0 where
  pub kept : IsKept entries
  pub holds : kept_objects entries ≡ objects

keeps : (entries : List (List ℕ × List ℕ)) (objects : List Object) → entries ≡ map keyed objects → IsStrictlySortedBy byte_order (keys_of entries) →
    AllByRecursion (λ object. IsLocation object.path) objects → Keeps entries objects
keeps entries objects under rising located =
    let holds : kept_objects entries ≡ objects = ap kept_objects under ∙ objects-keyed objects located in
    record {
      kept = record {
        under = under ∙ ap (map keyed) (sym holds);
        rising = rising;
        located = subst (λ all. AllByRecursion (λ object. IsLocation object.path) all) (sym holds) located;
      };
      holds = holds;
    }

-- the object whose bytes a look-up by text finds
pub found : (entries : List (List ℕ × List ℕ)) (text : List ℕ) (path : List (List ℕ)) → IsKept entries → IsLocation path → text ≡ location_text path →
    option_map (object_with path) (lookup (λ key. is_eq (byte_order text key)) entries) ≡ object_at (kept_objects entries) path
found entries text path kept location own =
    ap (λ bytes. option_map (object_with path) bytes)
    (ap (lookup (λ key. is_eq (byte_order text key))) kept.under ∙ lookup-keyed text (kept_objects entries)
    ∙ ap (λ text. option_map (λ object. object.bytes) (find (has_text text) (kept_objects entries))) own)
    ∙ found-at path (kept_objects entries) location kept.located

-- the entries after a new object was added
pub added : (entries after : List (List ℕ × List ℕ)) (text : List ℕ) (object : Object) → IsKept entries → text ≡ location_text object.path → IsLocation object.path →
    object_at (kept_objects entries) object.path ≡ None → after ≡ insert_entry byte_order entries text object.bytes → IsStrictlySortedBy byte_order (keys_of after) →
    Keeps after (with_object object (kept_objects entries))
added entries after text object kept own located new is rising =
    keeps after (with_object object (kept_objects entries))
    (is ∙ ap (λ key. insert_entry byte_order entries key object.bytes) own
    ∙ ap (λ old. insert_entry byte_order old (location_text object.path) object.bytes) kept.under ∙ insert-keyed object (kept_objects entries) new)
    rising (each-with_object (λ object. IsLocation object.path) object (kept_objects entries) located kept.located)

-- the entries after what is at a path was taken away
pub removed : (entries after : List (List ℕ × List ℕ)) (text : List ℕ) (path : List (List ℕ)) → IsKept entries → text ≡ location_text path →
    after ≡ remove_entry (λ key. is_eq (byte_order text key)) entries → IsStrictlySortedBy byte_order (keys_of after) →
    Keeps after (without_object path (kept_objects entries))
removed entries after text path kept own is rising =
    let keys : IsStrictlySortedBy byte_order (keys_of (map keyed (kept_objects entries))) = subst (λ all. IsStrictlySortedBy byte_order (keys_of all)) kept.under kept.rising in
    keeps after (without_object path (kept_objects entries))
    (is ∙ ap (remove_entry (λ key. is_eq (byte_order text key))) kept.under ∙ remove-keyed text (kept_objects entries) keys
    ∙ ap (λ text. map keyed (filter (λ object. not (has_text text object)) (kept_objects entries))) own)
    rising (each-filter (λ object. IsLocation object.path) (λ object. not (is_at path object)) (kept_objects entries) kept.located)

-- the same entries hold the same objects
pub unchanged : (entries after : List (List ℕ × List ℕ)) → IsKept entries → after ≡ entries → Keeps after (kept_objects entries)
unchanged entries after kept same =
    record { kept = subst IsKept (sym same) kept; holds = ap kept_objects same }

-- nothing is kept
pub none-kept : IsKept []
unfolding IsStrictlySortedBy
none-kept = record { under = refl; rising = tt; located = tt }

-- whether there is an object, and how many bytes it has, by the bytes that are kept under its text
option-there : (path : List (List ℕ)) (bytes : Option (List ℕ)) → is_some bytes ≡ is_some (option_map (object_with path) bytes)
option-there path None = refl
option-there path (Some bytes) = refl

pub there : (entries : List (List ℕ × List ℕ)) (text : List ℕ) (path : List (List ℕ)) → IsKept entries → IsLocation path → text ≡ location_text path →
    is_some (lookup (λ key. is_eq (byte_order text key)) entries) ≡ is_some (object_at (kept_objects entries) path)
there entries text path kept location own =
    option-there path (lookup (λ key. is_eq (byte_order text key)) entries) ∙ ap is_some (found entries text path kept location own)

option-long : (path : List (List ℕ)) (bytes : Option (List ℕ)) → option_map length bytes ≡ option_map (λ object. length object.bytes) (option_map (object_with path) bytes)
option-long path None = refl
option-long path (Some bytes) = refl

pub long : (entries : List (List ℕ × List ℕ)) (text : List ℕ) (path : List (List ℕ)) → IsKept entries → IsLocation path → text ≡ location_text path →
    option_map length (lookup (λ key. is_eq (byte_order text key)) entries) ≡ option_map (λ object. length object.bytes) (object_at (kept_objects entries) path)
long entries text path kept location own =
    option-long path (lookup (λ key. is_eq (byte_order text key)) entries) ∙ ap (option_map (λ object. length object.bytes)) (found entries text path kept location own)

-- bytes that were found are those of the object
pub if-found : {E : Type 0} (path : List (List ℕ)) (bytes : Option (List ℕ)) (object : Option Object) (result : Result (Option (List ℕ)) E) → option_map (object_with path) bytes ≡ object →
    IfOk result (λ found. found ≡ bytes) → IfOk result (λ found. option_map (object_with path) found ≡ object)
if-found path bytes object (Ok found) is own = ap (option_map (object_with path)) own ∙ is
if-found path bytes object (Err e) is own = tt

-- no object is there, so nothing is kept under its text
no-bytes : (path : List (List ℕ)) (bytes : Option (List ℕ)) → option_map (object_with path) bytes ≡ None → bytes ≡ None
no-bytes path None none = refl
no-bytes path (Some bytes) none = cc

pub new-text : (entries : List (List ℕ × List ℕ)) (text : List ℕ) (path : List (List ℕ)) → IsKept entries → IsLocation path → text ≡ location_text path →
    object_at (kept_objects entries) path ≡ None → lookup (λ key. is_eq (byte_order text key)) entries ≡ None
new-text entries text path kept location own none =
    no-bytes path (lookup (λ key. is_eq (byte_order text key)) entries) (found entries text path kept location own ∙ none)
