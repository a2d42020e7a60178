-- Members of a list that are read one after another.
use Rattle.std.specs.Prelude.{◌≡◌, ℕ, suc, List, [], ◌++◌, Ok, refl}
use Rattle.serde_json.specs.Data.{Data, null, boolean, number, string, array, object, Items, no_items, item}
use Rattle.serde_json.specs.Find.{as_array}
use Rattle.pol_readers.specs.Exactness.{next_ok, under_ok}
use Rattle.pol_readers.specs.Grammar.{Exact}
use Rattle.pol_readers.specs.Reading.{Reading, ◌>>=◌, found, under}
use Rattle.pol_readers.specs.Shape.{Shape}
use Rattle.pol_readers.specs.declared.path.Step.TheVariants.{Place}

-- the members of a list, from a place on: each is read by what those before it made, and adds what it makes
abbrev pub chained_items : {A : Type 0} → (List A → Data → Reading (List A)) → ℕ → List A → Items → Reading (List A)
chained_items next place made no_items = Ok made
chained_items next place made (item d ds) = do
  more ← under (Place place) (next made d)
  chained_items next (suc place) (made ++ more) ds

unfoldable pub chained : {A : Type 0} → (List A → Data → Reading (List A)) → Data → Reading (List A)
chained next d = do
  ds ← found (as_array d)
  chained_items next 0 [] ds

-- the same as a relation
abbrev pub AreChained : {A : Type 0} → (List A → Data → List A → Type 0) → List A → Items → List A → Type 0
AreChained grammar made no_items all = all ≡ made
AreChained {A} grammar made (item d ds) all = (more : List A) × grammar made d more × AreChained grammar (made ++ more) ds all

abbrev pub IsChained : {A : Type 0} → (List A → Data → List A → Type 0) → Data → List A → Type 0
IsChained grammar d all = (ds : Items) × (d ≡ array ds) × AreChained grammar [] ds all

module _ {A : Type 0} {next : List A → Data → Reading (List A)} {P : List A → Data → List A → Type 0} (exact : (made : List A) → Exact (next made) (P made)) where
  items_sound : (place : ℕ) (made : List A) (ds : Items) (all : List A) → chained_items next place made ds ≡ Ok all → AreChained P made ds all
  items_sound place made no_items all is = cc
  items_sound place made (item d ds) all is =
      let parts = next_ok (under (Place place) (next made d)) (λ more. chained_items next (suc place) (made ++ more) ds) all is in
      let one = (exact made).sound d parts.0 (under_ok (Place place) (next made d) parts.0 parts.1) in
      (parts.0, one, items_sound (suc place) (made ++ parts.0) ds all parts.2)

  items_complete : (place : ℕ) (made : List A) (ds : Items) (all : List A) → AreChained P made ds all → chained_items next place made ds ≡ Ok all
  items_complete place made no_items all so = cc
  items_complete place made (item d ds) all so =
      rw ((exact made).complete d so.0 so.1) (items_complete (suc place) (made ++ so.0) ds all so.2)

  sound : (d : Data) (all : List A) → chained next d ≡ Ok all → IsChained P d all
  unfolding chained
  sound (array ds) all is = (ds, refl, items_sound 0 [] ds all is)
  sound null all is = absurd (cc)
  sound (boolean b) all is = absurd (cc)
  sound (number n) all is = absurd (cc)
  sound (string s) all is = absurd (cc)
  sound (object ms) all is = absurd (cc)

  complete : (d : Data) (all : List A) → IsChained P d all → chained next d ≡ Ok all
  unfolding chained
  complete d all so = rw so.1 (items_complete 0 [] so.0 all so.2)

  pub chained_exact : Exact (chained next) (IsChained P)
  chained_exact = record { sound = sound; complete = complete }

-- the members of a list, each read by what those before it made
abbrev pub in_turn : {A : Type 0} → (List A → Shape (List A)) → Shape (List A)
in_turn next = record {
  read = chained (λ made. (next made).read);
  stands = IsChained (λ made. (next made).stands);
  exact = chained_exact (λ made. (next made).exact);
}
