-- The forms of names, namespaces, locations and properties: those of texts and lists, under the rules of each.
use Rattle.std.specs.Prelude.{◌≡◌, ℕ, Bool, true, ◌&&◌, List, [], ◌∷◌, Option, Some, None, is_none, refl}
use Rattle.std.specs.Cmp.Lexicographic.{slice_cmp}
use Rattle.std.specs.List.{AllByRecursion, list_all}
use Rattle.std.specs.List.Sorted.{IsStrictlySortedBy}
use Rattle.std.specs.Ordering.{nat_cmp, is_lt}
use Rattle.std.specs.Str.{IsUtf8}
use Rattle.std.specs.declared.cmp.Ordering.{Ordering}
use Rattle.std.specs.declared.cmp.Ordering.TheVariants.{Less, Equal, Greater}
use Rattle.std.proofs.Common.{ap, ◌∙◌}
use Rattle.std.proofs.lemmas.Bool.{and_parts}
use Rattle.std.proofs.lemmas.List.Elements.{All-from_recursion}
use Rattle.pol_locations.specs.Location.{IsLocation, location_refusal}
use Rattle.pol_locations.proofs.Segments.{IsLocation-from_refusal, location_refusal-IsLocation}
use Rattle.pol_names.specs.Namespace.{IsNamespace, namespace_refusal}
use Rattle.pol_names.specs.Plain.{IsPlainName, plain_refusal}
use Rattle.pol_names.proofs.Levels.{IsNamespace-from_refusal, namespace_refusal-IsNamespace}
use Rattle.pol_names.proofs.Refusals.{IsPlainName-from_refusal, plain_refusal-IsPlainName}
use Rattle.pol_properties.specs.Properties.{KeysAscend}
use Rattle.pol_properties.specs.declared.property.Property.{Property}
use Rattle.pol_forms.specs.Form.{Form}
use Rattle.pol_forms.specs.Forms.{ruled, mapped, list, text, ◌&◌}

-- a rule refuses nothing
pub is_none-None : {A : Type 0} (refusal : Option A) → is_none refusal ≡ true → refusal ≡ None
is_none-None None passes = refl
is_none-None (Some why) passes = absurd (cc)

-- a plain name: its text
unfoldable pub plain : Form (List ℕ)
plain = ruled text IsPlainName (λ name. is_none (plain_refusal name))
    (λ name held passes. IsPlainName-from_refusal name (is_none-None (plain_refusal name) passes))
    (λ name right. ap is_none (plain_refusal-IsPlainName name right))

-- each of a list of texts is UTF-8
each_utf8 : (texts : List (List ℕ)) → AllByRecursion text.holds texts → AllByRecursion IsUtf8 texts
unfolding text
each_utf8 [] each = tt
each_utf8 (first ∷ texts) each = (each.0.1, each_utf8 texts each.1)

pub namespace_told : (levels : List (List ℕ)) → (list text).holds levels → is_none (namespace_refusal levels) ≡ true → IsNamespace levels
unfolding list
namespace_told levels held passes =
    IsNamespace-from_refusal levels (All-from_recursion IsUtf8 levels (each_utf8 levels held.1)) (is_none-None (namespace_refusal levels) passes)

-- a namespace: the list of its levels
unfoldable pub namespace : Form (List (List ℕ))
namespace = ruled (list text) IsNamespace (λ levels. is_none (namespace_refusal levels))
    namespace_told
    (λ levels right. ap is_none (namespace_refusal-IsNamespace levels right))

-- a location: the list of its segments
unfoldable pub location : Form (List (List ℕ))
location = ruled (list text) IsLocation (λ segments. is_none (location_refusal segments))
    (λ segments held passes. IsLocation-from_refusal segments (is_none-None (location_refusal segments) passes))
    (λ segments right. ap is_none (location_refusal-IsLocation segments right))

-- a text under a key: the key, then the text
unfoldable pub property : Form Property
property = mapped (text & text) (λ fields. record { key = fields.0; value = fields.1 }) (λ pair. (pair.key, pair.value)) (λ pair. refl) (λ fields. refl)

-- whether each key is below those after it
abbrev pub is_below : Property → Property → Bool
is_below pair later = is_lt (slice_cmp nat_cmp pair.key later.key)

abbrev pub keys_ascend : List Property → Bool
keys_ascend [] = true
keys_ascend (pair ∷ pairs) = list_all (is_below pair) pairs && keys_ascend pairs

less : (order : Ordering) → is_lt order ≡ true → order ≡ Less
less Less is = refl
less Equal is = absurd (cc)
less Greater is = absurd (cc)

all_below : (pair : Property) (pairs : List Property) → list_all (is_below pair) pairs ≡ true → AllByRecursion (λ later. slice_cmp nat_cmp pair.key later.key ≡ Less) pairs
all_below pair [] all = tt
all_below pair (later ∷ pairs) all =
    let both = and_parts (is_below pair later) (list_all (is_below pair) pairs) all in
    (less (slice_cmp nat_cmp pair.key later.key) both.0, all_below pair pairs both.1)

below_all : (pair : Property) (pairs : List Property) → AllByRecursion (λ later. slice_cmp nat_cmp pair.key later.key ≡ Less) pairs → list_all (is_below pair) pairs ≡ true
below_all pair [] all = refl
below_all pair (later ∷ pairs) all =
    ap (λ (o : Ordering). is_lt o && list_all (is_below pair) pairs) all.0 ∙ below_all pair pairs all.1

pub KeysAscend-tested : (pairs : List Property) → keys_ascend pairs ≡ true → KeysAscend pairs
unfolding IsStrictlySortedBy
KeysAscend-tested [] test = tt
KeysAscend-tested (pair ∷ pairs) test =
    let both = and_parts (list_all (is_below pair) pairs) (keys_ascend pairs) test in
    (all_below pair pairs both.0, KeysAscend-tested pairs both.1)

pub tested-KeysAscend : (pairs : List Property) → KeysAscend pairs → keys_ascend pairs ≡ true
unfolding IsStrictlySortedBy
tested-KeysAscend [] ascend = refl
tested-KeysAscend (pair ∷ pairs) ascend =
    ap (λ (b : Bool). b && keys_ascend pairs) (below_all pair pairs ascend.0) ∙ tested-KeysAscend pairs ascend.1

-- a map from texts to texts: the list of its pairs, whose keys ascend in byte order
unfoldable pub properties : Form (List Property)
properties = ruled (list property) KeysAscend keys_ascend (λ pairs held passes. KeysAscend-tested pairs passes) (λ pairs right. tested-KeysAscend pairs right)
