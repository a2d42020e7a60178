-- Maps of texts that are read of objects, and the text under a key.
use Rattle.std.proofs.Common.{◌≡◌, ℕ, Bool, true, false, cond, List, [], ◌∷◌, map, Option, Some, None, option_map, find, bytes_eq, Ordering, Less, Equal, Greater, refl, sym, ap, subst, ◌∙◌}
use Rattle.std.specs.Cmp.Lexicographic.{nat_list_cmp_total, slice_cmp}
use Rattle.std.specs.Option.{option_or}
use Rattle.std.specs.Ordering.{is_eq, match_ordering, nat_cmp, ordering_reverse}
use Rattle.std.proofs.lemmas.Map.Text.{is_eq-slice_cmp}
use Rattle.serde_json.specs.Data.{Data, Members, no_members, member, object, string}
use Rattle.serde_json.specs.Find.{get, get_member}
use Rattle.pol_properties.specs.Properties.{has_key, of_pairs, value_of}
use Rattle.pol_properties.specs.declared.property.Property.{Property}
use Rattle.pol_properties.proofs.LookUpLemmas.{values_are_updated}
use Rattle.pol_readers.specs.Grammar.{AreMembers, IsText}
use Rattle.pol_metajson.specs.Table.{property_of, text_map}
use Rattle.pol_metaread.proofs.OrderLemmas.{IsOrdered, made_rise}

-- the members that items make
abbrev pub listing : {A : Type 0} → (A → List ℕ) → (A → Data) → List A → Members
listing key json [] = no_members
listing key json (x ∷ xs) = member (key x) (json x) (listing key json xs)

-- the members that pairs make
abbrev pub pair_members : List Property → Members
pair_members pairs = listing (λ (pair : Property). pair.key) (λ pair. string pair.value) pairs

-- the text under a key
reversed_eq : (o : Ordering) → is_eq (ordering_reverse o) ≡ is_eq o
reversed_eq Less = refl
reversed_eq Equal = refl
reversed_eq Greater = refl

at_equal : (o : Ordering) (here : Data) (later : Option Data)
    → match_ordering o later (Some here) later ≡ cond (is_eq o) (Some here) later
at_equal Less here later = refl
at_equal Equal here later = refl
at_equal Greater here later = refl

text_of_first : (b : Bool) (pair : Property) (rest : Option Property)
    → cond b (Some (string pair.value)) (option_map string (option_map (λ (other : Property). other.value) rest))
    ≡ option_map string (option_map (λ (other : Property). other.value) (cond b (Some pair) rest))
text_of_first true pair rest = refl
text_of_first false pair rest = refl

pub text_under : (key : List ℕ) (pairs : List Property)
    → get_member key (pair_members pairs) ≡ option_map string (value_of key pairs)
text_under key [] = refl
text_under key (pair ∷ pairs) =
    let flipped : is_eq (slice_cmp nat_cmp key pair.key) ≡ bytes_eq pair.key key =
    ap is_eq (nat_list_cmp_total.antisymm key pair.key) ∙ reversed_eq (slice_cmp nat_cmp pair.key key) ∙
    is_eq-slice_cmp pair.key key in
    at_equal (slice_cmp nat_cmp key pair.key) (string pair.value) (get_member key (pair_members pairs))
    ∙ rw (flipped, text_under key pairs) (text_of_first (bytes_eq pair.key key) pair (find (has_key key) pairs))

-- the same of a map that is read
members_are : (ms : Members) (entries : List (List ℕ × List ℕ)) → AreMembers IsText ms entries
    → ms ≡ pair_members (map property_of entries)
members_are no_members [] so = refl
members_are no_members (entry ∷ entries) so = absurd so
members_are (member key d ms) [] so = absurd so
members_are (member key d ms) (entry ∷ entries) so = rw (so.0, so.1, members_are ms entries so.2) refl

or_none : {A : Type 0} (o : Option A) → option_or o None ≡ o
or_none None = refl
or_none (Some a) = refl

only_text : (o : Option (List ℕ)) (word : List ℕ) → option_map string o ≡ Some (string word) → o ≡ Some word
only_text None word is = absurd (cc)
only_text (Some other) word is = cc

pub text_held : (key : List ℕ) (d : Data) (pairs : List Property) (word : List ℕ) → IsOrdered d
    → text_map.stands d pairs → get key d ≡ Some (string word) → value_of key pairs ≡ Some word
unfolding text_map
text_held key d pairs word ordered so is =
    let entries = so.0 in
    let ms = so.1.0 in
    let made = map property_of entries in
    let there : get key (object ms) ≡ Some (string word) =
    subst (λ other. get key other ≡ Some (string word)) so.1.1 is in
    let order = subst IsOrdered so.1.1 ordered in
    let rise = made_rise IsText property_of (λ (pair : Property). pair.key) (λ entry. refl) ms entries order.0 so.1.2 in
    let among : get_member key (pair_members made) ≡ Some (string word) =
    subst (λ all. get_member key all ≡ Some (string word)) (members_are ms entries so.1.2) there in
    let told : value_of key made ≡ Some word = only_text (value_of key made) word (sym (text_under key made) ∙ among) in
    let kept : value_of key (of_pairs made) ≡ value_of key made =
    values_are_updated key [] made [] rise ∙ or_none (value_of key made) in
    subst (λ all. value_of key all ≡ Some word) (sym so.2) (kept ∙ told)
