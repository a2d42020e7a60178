-- What worked examples tell of values: of a struct its fields in their order, between single spaces; of a list the number
-- of its members, and behind a mark each of them.
use Rattle.std.specs.Prelude.{ℕ, Bool, true, false, List, ◌++◌, codes, decimal, flat_map, length}
use Rattle.pol_properties.specs.declared.property.Property.{Property}

abbrev pub list_text : {T : Type 0} → List ℕ → (T → List ℕ) → List T → List ℕ
list_text mark text items = decimal (length items) ++ flat_map (λ item. mark ++ text item) items

abbrev pub named_text : {T : Type 0} → List ℕ → (T → List ℕ) → T → List ℕ
named_text name text value = name ++ (codes " " ++ text value)

-- a key, and the text under it
abbrev pub property_text : Property → List ℕ
property_text pair = pair.key ++ (codes " " ++ pair.value)

abbrev pub truth_text : Bool → List ℕ
truth_text false = codes "false"
truth_text true = codes "true"
