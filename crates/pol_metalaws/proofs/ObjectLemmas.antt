-- Printed lists and objects of entries are read member by member.
use Rattle.std.proofs.Common.{◌≡◌, ◌≤◌, ℕ, List, [], ◌∷◌, ◌++◌, map, filter, Option, Some, None, option_map, IfSome, All, Ordering, Less, Greater, refl, sym, ap, subst, ◌∙◌, append_assoc, arith, inl}
use Rattle.std.specs.Cmp.Lexicographic.{slice_cmp}
use Rattle.std.specs.List.{AllByRecursion, fold}
use Rattle.std.specs.List.Sorted.{IsStrictlySortedBy}
use Rattle.std.specs.Ordering.{is_gt, is_lt, nat_cmp, ordering_reverse}
use Rattle.std.proofs.lemmas.Cmp.{nat_list_cmp_total}
use Rattle.std.proofs.lemmas.List.{append-nil}
use Rattle.std.proofs.lemmas.List.Elements.{All-head, All-tail}
use Rattle.serde_json.specs.Data.{Data, no_members, member, object, put, string}
use Rattle.serde_json.specs.View.{items_of}
use Rattle.pol_properties.specs.Properties.{KeysAscend, compared, of_pairs, with_value}
use Rattle.pol_properties.specs.declared.property.Property.{Property}
use Rattle.pol_meta.specs.Valid.{IsLong}
use Rattle.pol_readers.specs.Grammar.{AreItems, AreMembers, IsList, IsText, IsWhole, MayHold}
use Rattle.pol_metajson.specs.Table.{text_map}
use Rattle.pol_metaread.proofs.PairLemmas.{listing, pair_members}
use Rattle.pol_metaprint.specs.Json.{list_json, number_json, pairs_json}

-- a number within its bounds
pub within : (low high n : ℕ) → low ≤ n → n ≤ high → IsWhole low high (number_json n) n
within low high n least most = (refl, least, most)

pub up_to : (high n : ℕ) → n ≤ high → IsWhole 0 high (number_json n) n
up_to high n most = (refl, omega arith, most)

pub long : (n : ℕ) → IsLong n → IsWhole 0 9223372036854775807 (number_json n) n
long n most = (refl, omega arith, omega arith)

-- a number that may be absent
pub may_hold : (grammar : Data → ℕ → Type 0) (P : ℕ → Type 0) → ((n : ℕ) → P n → grammar (number_json n) n)
    → (held : Option Data) (o : Option ℕ) → held ≡ option_map number_json o → IfSome o P → MayHold grammar held o
may_hold grammar P each held None is valid = inl is
may_hold grammar P each held (Some n) is valid = (number_json n, is, (λ e. cc), each n valid)

module _ {A : Type 0} (grammar : Data → A → Type 0) (json : A → Data) (P : A → Type 0)
    (each : (a : A) → P a → grammar (json a) a) where
  items_read : (xs : List A) → All P xs → AreItems grammar (items_of (map json xs)) xs
  items_read [] all = tt
  items_read (x ∷ xs) all = (each x (All-head P x xs all), items_read xs (All-tail P x xs all))

  -- a list whose members are read
  pub list_read : (xs : List A) → All P xs → IsList grammar (list_json json xs) xs
  list_read xs all = (items_of (map json xs), refl, items_read xs all)

-- what is built step by step of items that rise
module _ {A B : Type 0} (c : A → A → Ordering) (step : B → A → B) (built : List A → B)
    (more : (done : List A) (x : A) → AllByRecursion (λ y. c y x ≡ Less) done → step (built done) x ≡ built
    (done ++ x ∷ [])) where
  middle : (y : A) (done : List A) (x : A) (xs : List A) → AllByRecursion (λ z. c y z ≡ Less) (done ++ x ∷ xs)
      → c y x ≡ Less
  middle y [] x xs all = all.0
  middle y (z ∷ done) x xs all = middle y done x xs all.1

  earlier : (done : List A) (x : A) (xs : List A) → IsStrictlySortedBy c (done ++ x ∷ xs)
      → AllByRecursion (λ y. c y x ≡ Less) done
  unfolding IsStrictlySortedBy
  earlier [] x xs sorted = tt
  earlier (y ∷ done) x xs sorted = (middle y done x xs sorted.0, earlier done x xs sorted.1)

  pub folded : (done xs : List A) → IsStrictlySortedBy c (done ++ xs) → fold step (built done) xs ≡ built (done ++ xs)
  folded done [] sorted = ap built (sym (append-nil done))
  folded done (x ∷ xs) sorted =
      let regrouped : (done ++ x ∷ []) ++ xs ≡ done ++ x ∷ xs = append_assoc done (x ∷ []) xs in
      rw (more done x (earlier done x xs sorted))
      (folded (done ++ x ∷ []) xs (subst (IsStrictlySortedBy c) (sym regrouped) sorted) ∙ ap built regrouped)

-- entries under rising keys stand in their order
module _ {A : Type 0} (key : A → List ℕ) (json : A → Data) where
  put_last : (done : List A) (x : A) → AllByRecursion (λ y. slice_cmp nat_cmp (key y) (key x) ≡ Less) done
      → put (key x) (json x) (listing key json done) ≡ listing key json (done ++ x ∷ [])
  put_last [] x all = refl
  put_last (y ∷ done) x all =
      let above : slice_cmp nat_cmp (key x) (key y) ≡ Greater =
      nat_list_cmp_total.antisymm (key x) (key y) ∙ ap ordering_reverse all.0 in
      rw above (ap (member (key y) (json y)) (put_last done x all.1))

  pub put_all : (xs : List A) → IsStrictlySortedBy (λ left right. slice_cmp nat_cmp (key left) (key right)) xs
      → fold (λ members x. put (key x) (json x) members) no_members xs ≡ listing key json xs
  put_all xs sorted =
      folded (λ left right. slice_cmp nat_cmp (key left) (key right)) (λ members x. put (key x) (json x) members)
      (listing key json) put_last [] xs sorted

  pub entries_read : {B : Type 0} (value : A → B) (of : Data → B → Type 0) (P : A → Type 0)
      → ((x : A) → P x → of (json x) (value x))
      → (xs : List A) → All P xs → AreMembers of (listing key json xs) (map (λ x. (key x, value x)) xs)
  entries_read value of P each [] all = tt
  entries_read value of P each (x ∷ xs) all =
      (refl, each x (All-head P x xs all), entries_read value of P each xs (All-tail P x xs all))

-- pairs under rising keys are a map already
kept_below : (done : List Property) (x : Property) → AllByRecursion (λ y. slice_cmp nat_cmp y.key x.key ≡ Less) done
    → filter (λ kept. is_lt (compared x.key kept)) done ≡ done
kept_below [] x all = refl
kept_below (y ∷ done) x all = rw (all.0, kept_below done x all.1) refl

none_above : (done : List Property) (x : Property) → AllByRecursion (λ y. slice_cmp nat_cmp y.key x.key ≡ Less) done
    → filter (λ kept. is_gt (compared x.key kept)) done ≡ []
none_above [] x all = refl
none_above (y ∷ done) x all = rw (all.0, none_above done x all.1) refl

set_last : (done : List Property) (x : Property) → AllByRecursion (λ y. slice_cmp nat_cmp y.key x.key ≡ Less) done
    → with_value x done ≡ done ++ x ∷ []
unfolding with_value
set_last done x all = rw (kept_below done x all, none_above done x all) refl

pub of_rising_pairs : (pairs : List Property) → KeysAscend pairs → of_pairs pairs ≡ pairs
of_rising_pairs pairs rise =
    folded (λ left right. slice_cmp nat_cmp left.key right.key) (λ made pair. with_value pair made) (λ done. done)
    set_last [] pairs rise

pub pairs_put : (pairs : List Property) → KeysAscend pairs → pairs_json pairs ≡ object (pair_members pairs)
unfolding pairs_json
pairs_put pairs rise = ap object (put_all (λ (pair : Property). pair.key) (λ pair. string pair.value) pairs rise)

texts_read : (pairs : List Property)
    → AreMembers IsText (pair_members pairs) (map (λ (pair : Property). (pair.key, pair.value)) pairs)
texts_read [] = tt
texts_read (pair ∷ pairs) = (refl, refl, texts_read pairs)

same_pairs : (pairs : List Property)
    → map (λ (entry : List ℕ × List ℕ). record { key = entry.0; value = entry.1 })
    (map (λ (pair : Property). (pair.key, pair.value)) pairs) ≡ pairs
same_pairs [] = refl
same_pairs (pair ∷ pairs) = ap (λ rest. pair ∷ rest) (same_pairs pairs)

pub pairs_read : (pairs : List Property) → KeysAscend pairs → text_map.stands (pairs_json pairs) pairs
unfolding text_map
pairs_read pairs rise = (
  map (λ (pair : Property). (pair.key, pair.value)) pairs,
  (pair_members pairs, pairs_put pairs rise, texts_read pairs),
  sym (rw (same_pairs pairs) (of_rising_pairs pairs rise)),
)
