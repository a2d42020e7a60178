-- The names of the fields of a struct: they differ, and none is empty.
use Rattle.std.specs.Prelude.{◌≡◌, ◌≢◌, ◌||◌, ℕ, Bool, true, false, not, ◌&&◌, nat_lt, List, [], ◌∷◌, All, Option, None, if◌then◌else◌, refl}
use Rattle.std.specs.Cmp.Lexicographic.{nat_list_eq_equiv}
use Rattle.std.specs.List.{AllByRecursion, IsDistinct, filter_map, list_any}
use Rattle.std.specs.Str.{bytes_eq}
use Rattle.std.proofs.lemmas.Bool.{and_from, and_parts, not-true}
use Rattle.std.proofs.lemmas.List.Elements.{All-from_recursion, recursion_from_All}
use Rattle.pol_meta.specs.Columns.{name_of}
use Rattle.pol_meta.specs.declared.column.Column.{Column}
use Rattle.pol_columnforms.specs.Distinct.{are_distinct, distinct-told, told-distinct}

pub record AreNamed (names : List (List ℕ)) : Type 0 where
  pub named : All (λ name. name ≢ []) names
  pub differ : IsDistinct bytes_eq names

-- the names of the fields that stand in so many others
abbrev pub name_at : ℕ → Column → Option (List ℕ)
name_at depth column = if nat_lt depth column.depth then None else name_of column.part

abbrev pub names_in : ℕ → List Column → List (List ℕ)
names_in depth columns = filter_map (name_at depth) columns

-- the same as tests
abbrev pub is_no_name : List ℕ → Bool
is_no_name [] = true
is_no_name (byte ∷ bytes) = false

abbrev pub are_named : List (List ℕ) → Bool
are_named names = not (list_any is_no_name names) && are_distinct bytes_eq names

neither : (a b : Bool) → (a || b) ≡ false → (a ≡ false) × (b ≡ false)
neither false b is = (refl, is)
neither true b is = absurd (cc)

some_name : (name : List ℕ) → is_no_name name ≡ false → name ≢ []
some_name [] is = absurd (cc)
some_name (byte ∷ bytes) is = λ none. absurd (cc)

named_some : (name : List ℕ) → name ≢ [] → is_no_name name ≡ false
named_some [] is = absurd (is refl)
named_some (byte ∷ bytes) is = refl

each_some : (names : List (List ℕ)) → list_any is_no_name names ≡ false → AllByRecursion (λ name. name ≢ []) names
each_some [] none = tt
each_some (name ∷ names) none =
    let both = neither (is_no_name name) (list_any is_no_name names) none in
    (some_name name both.0, each_some names both.1)

some_each : (names : List (List ℕ)) → AllByRecursion (λ name. name ≢ []) names → list_any is_no_name names ≡ false
some_each [] each = refl
some_each (name ∷ names) each = rw (named_some name each.0, some_each names each.1) refl

pub named-told : (names : List (List ℕ)) → are_named names ≡ true → AreNamed names
named-told names passes =
    let both = and_parts (not (list_any is_no_name names)) (are_distinct bytes_eq names) passes in record {
      named = All-from_recursion (λ name. name ≢ []) names (each_some names (not-true (list_any is_no_name names) both.0));
      differ = distinct-told nat_list_eq_equiv names both.1;
    }

pub told-named : (names : List (List ℕ)) → AreNamed names → are_named names ≡ true
told-named names right =
    let some : list_any is_no_name names ≡ false = some_each names (recursion_from_All (λ name. name ≢ []) names right.named) in
    and_from (not (list_any is_no_name names)) (are_distinct bytes_eq names) (rw some refl) (told-distinct nat_list_eq_equiv names right.differ)
