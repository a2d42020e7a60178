-- JSON that is read has each key of an object once, in byte order.
use Rattle.std.proofs.Common.{◌≡◌, ℕ, List, [], ◌∷◌, map, Option, Some, None, option_map, option_and_then, IfSome, Ordering, Less, Equal, Greater, refl, sym, ap, subst, ◌∙◌}
use Rattle.std.specs.Bool.{⊤}
use Rattle.std.specs.Cmp.Lexicographic.{nat_list_cmp_total, slice_cmp}
use Rattle.std.specs.List.{AllByRecursion}
use Rattle.std.specs.List.Sorted.{IsStrictlySortedBy}
use Rattle.std.specs.Ordering.{match_ordering, nat_cmp, ordering_reverse}
use Rattle.json.specs.Json as json
use Rattle.json.specs.Lex.{tokens}
use Rattle.serde_json.specs.Data.{Data, null, boolean, number, string, array, object, Items, no_items, item, Members, no_members, member, put}
use Rattle.serde_json.specs.Find.{get, get_member}
use Rattle.serde_json.specs.Read.{max_depth, number_of, of_items, of_json, of_members, read}
use Rattle.pol_readers.specs.Grammar.{AreMembers}

-- all keys are above one
abbrev pub AreAbove : List ℕ → Members → Type 0
AreAbove low no_members = ⊤
AreAbove low (member key d ms) = (slice_cmp nat_cmp low key ≡ Less) × AreAbove low ms

-- each key is below those after it
abbrev pub KeysRise : Members → Type 0
KeysRise no_members = ⊤
KeysRise (member key d ms) = AreAbove key ms × KeysRise ms

abbrev mutual
  pub IsOrdered : Data → Type 0
  IsOrdered null = ⊤
  IsOrdered (boolean b) = ⊤
  IsOrdered (number n) = ⊤
  IsOrdered (string s) = ⊤
  IsOrdered (array ds) = AreOrdered ds
  IsOrdered (object ms) = KeysRise ms × AreMembersOrdered ms

  pub AreOrdered : Items → Type 0
  AreOrdered no_items = ⊤
  AreOrdered (item d ds) = IsOrdered d × AreOrdered ds

  pub AreMembersOrdered : Members → Type 0
  AreMembersOrdered no_members = ⊤
  AreMembersOrdered (member key d ms) = IsOrdered d × AreMembersOrdered ms

abbrev pub HasOrder : Members → Type 0
HasOrder ms = KeysRise ms × AreMembersOrdered ms

-- one more member
above_at : (o : Ordering) (low key other : List ℕ) (d e : Data) (ms more : Members) → slice_cmp nat_cmp low key ≡ Less
    → AreAbove low (member other e ms) → AreAbove low more
    → AreAbove low (match_ordering o (member key d (member other e ms)) (member other d ms) (member other e more))
above_at Less low key other d e ms more here all later = (here, all)
above_at Equal low key other d e ms more here all later = all
above_at Greater low key other d e ms more here all later = (all.0, later)

above_put : (low key : List ℕ) (d : Data) (ms : Members) → slice_cmp nat_cmp low key ≡ Less → AreAbove low ms
    → AreAbove low (put key d ms)
above_put low key d no_members here all = (here, tt)
above_put low key d (member other e ms) here all =
    above_at (slice_cmp nat_cmp key other) low key other d e ms (put key d ms) here all
    (above_put low key d ms here all.1)

above_all : (low high : List ℕ) (ms : Members) → slice_cmp nat_cmp low high ≡ Less → AreAbove high ms → AreAbove low ms
above_all low high no_members here all = tt
above_all low high (member key d ms) here all =
    (nat_list_cmp_total.trans low high key here all.0, above_all low high ms here all.1)

rise_at : (o : Ordering) (key other : List ℕ) (d e : Data) (ms : Members) → slice_cmp nat_cmp key other ≡ o
    → KeysRise (member other e ms) → KeysRise (put key d ms)
    → KeysRise (match_ordering o (member key d (member other e ms)) (member other d ms) (member other e (put key d ms)))
rise_at Less key other d e ms is rise later = ((is, above_all key other ms is rise.0), rise)
rise_at Equal key other d e ms is rise later = rise
rise_at Greater key other d e ms is rise later =
    let below : slice_cmp nat_cmp other key ≡ Less = nat_list_cmp_total.antisymm other key ∙ ap ordering_reverse is in
    (above_put other key d ms below rise.0, later)

rise_put : (key : List ℕ) (d : Data) (ms : Members) → KeysRise ms → KeysRise (put key d ms)
rise_put key d no_members rise = (tt, tt)
rise_put key d (member other e ms) rise =
    rise_at (slice_cmp nat_cmp key other) key other d e ms refl rise (rise_put key d ms rise.1)

members_at : (o : Ordering) (key other : List ℕ) (d e : Data) (ms more : Members) → IsOrdered d
    → AreMembersOrdered (member other e ms) → AreMembersOrdered more
    → AreMembersOrdered (match_ordering o (member key d (member other e ms)) (member other d ms) (member other e more))
members_at Less key other d e ms more here all later = (here, all)
members_at Equal key other d e ms more here all later = (here, all.1)
members_at Greater key other d e ms more here all later = (all.0, later)

members_put : (key : List ℕ) (d : Data) (ms : Members) → IsOrdered d → AreMembersOrdered ms
    → AreMembersOrdered (put key d ms)
members_put key d no_members here all = (here, tt)
members_put key d (member other e ms) here all =
    members_at (slice_cmp nat_cmp key other) key other d e ms (put key d ms) here all (members_put key d ms here all.1)

-- what is made of what may be there
if_mapped : {A B : Type 0} (P : A → Type 0) (Q : B → Type 0) (f : A → B) → ((a : A) → P a → Q (f a)) → (o : Option A)
    → IfSome o P → IfSome (option_map f o) Q
if_mapped P Q f each None so = tt
if_mapped P Q f each (Some a) so = each a so

if_followed : {A B : Type 0} (P : A → Type 0) (Q : B → Type 0) (f : A → Option B) → ((a : A) → P a → IfSome (f a) Q)
    → (o : Option A) → IfSome o P → IfSome (option_and_then f o) Q
if_followed P Q f each None so = tt
if_followed P Q f each (Some a) so = each a so

anything : {A : Type 0} (o : Option A) → IfSome o (λ a. ⊤)
anything None = tt
anything (Some a) = tt

mutual
  json_ordered : (j : json.Json) → IfSome (of_json j) IsOrdered
  json_ordered json.null = tt
  json_ordered (json.boolean b) = tt
  json_ordered (json.number s) =
      if_mapped (λ n. ⊤) IsOrdered number (λ n so. tt) (number_of s) (anything (number_of s))
  json_ordered (json.string s) = tt
  json_ordered (json.array js) = if_mapped AreOrdered IsOrdered array (λ ds so. so) (of_items js) (items_ordered js)
  json_ordered (json.object ms) =
      if_mapped HasOrder IsOrdered object (λ all so. so) (of_members ms no_members)
      (members_ordered ms no_members (tt, tt))

  items_ordered : (js : json.Items) → IfSome (of_items js) AreOrdered
  items_ordered json.no_items = tt
  items_ordered (json.item j js) =
      if_followed IsOrdered AreOrdered (λ d. option_map (item d) (of_items js))
      (λ d here. if_mapped AreOrdered AreOrdered (item d) (λ ds so. (here, so)) (of_items js) (items_ordered js))
      (of_json j) (json_ordered j)

  members_ordered : (ms : json.Members) (all : Members) → HasOrder all → IfSome (of_members ms all) HasOrder
  members_ordered json.no_members all so = so
  members_ordered (json.member key j ms) all so =
      if_followed IsOrdered HasOrder (λ d. of_members ms (put key d all))
      (λ d here. members_ordered ms (put key d all) (rise_put key d all so.0, members_put key d all here so.1))
      (of_json j) (json_ordered j)

from_json : (o : Option json.Json) (d : Data) → option_and_then of_json o ≡ Some d → IsOrdered d
from_json None d is = absurd (cc)
from_json (Some j) d is = subst (λ o. IfSome o IsOrdered) is (json_ordered j)

pub read_ordered : (text : List ℕ) (d : Data) → read text ≡ Some d → IsOrdered d
read_ordered text d is =
    from_json (option_and_then (λ p. json.if_last p.0 p.1) (json.value max_depth (tokens text))) d is

-- the member of a key
held_at : (o : Ordering) (d : Data) (rest : Option Data) → IsOrdered d → IfSome rest IsOrdered
    → IfSome (match_ordering o rest (Some d) rest) IsOrdered
held_at Less d rest here later = later
held_at Equal d rest here later = here
held_at Greater d rest here later = later

member_ordered : (key : List ℕ) (ms : Members) → AreMembersOrdered ms → IfSome (get_member key ms) IsOrdered
member_ordered key no_members all = tt
member_ordered key (member other d ms) all =
    held_at (slice_cmp nat_cmp key other) d (get_member key ms) all.0 (member_ordered key ms all.1)

get_ordered : (key : List ℕ) (d : Data) → IsOrdered d → IfSome (get key d) IsOrdered
get_ordered key null so = tt
get_ordered key (boolean b) so = tt
get_ordered key (number n) so = tt
get_ordered key (string s) so = tt
get_ordered key (array ds) so = tt
get_ordered key (object ms) so = member_ordered key ms so.1

pub held_ordered : (key : List ℕ) (d held : Data) → IsOrdered d → get key d ≡ Some held → IsOrdered held
held_ordered key d held so is = subst (λ o. IfSome o IsOrdered) is (get_ordered key d so)

-- what is made of the members of an object stands in the order of their keys
module _ {A B : Type 0} (grammar : Data → A → Type 0) (make : List ℕ × A → B) (name : B → List ℕ)
    (named : (entry : List ℕ × A) → name (make entry) ≡ entry.0) where
  made_above : (low : List ℕ) (ms : Members) (entries : List (List ℕ × A)) → AreAbove low ms
      → AreMembers grammar ms entries
      → AllByRecursion (λ made. slice_cmp nat_cmp low (name made) ≡ Less) (map make entries)
  made_above low no_members [] above so = tt
  made_above low no_members (entry ∷ entries) above so = absurd so
  made_above low (member key d ms) [] above so = absurd so
  made_above low (member key d ms) (entry ∷ entries) above so = (
    subst (λ other. slice_cmp nat_cmp low other ≡ Less) (sym (named entry ∙ so.0)) above.0,
    made_above low ms entries above.1 so.2,
  )

  pub made_rise : (ms : Members) (entries : List (List ℕ × A)) → KeysRise ms → AreMembers grammar ms entries
      → IsStrictlySortedBy (λ left right. slice_cmp nat_cmp (name left) (name right)) (map make entries)
  unfolding IsStrictlySortedBy
  made_rise no_members [] rise so = tt
  made_rise no_members (entry ∷ entries) rise so = absurd so
  made_rise (member key d ms) [] rise so = absurd so
  made_rise (member key d ms) (entry ∷ entries) rise so = (
    subst (λ low. AllByRecursion (λ made. slice_cmp nat_cmp low (name made) ≡ Less) (map make entries))
        (sym (named entry ∙ so.0)) (made_above key ms entries rise.0 so.2),
    made_rise ms entries rise.1 so.2,
  )
