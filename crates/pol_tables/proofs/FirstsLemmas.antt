-- The map of the first ids as a list of them, and that list once one is put or taken.
use Rattle.std.proofs.Common.{◌≡◌, ℕ, cond, List, [], ◌∷◌, map, Option, None, Some, nat_eq, refl, sym, ap, subst, ◌∙◌, inl, inr}
use Rattle.std.specs.List.{IsDistinct}
use Rattle.std.specs.Map.{keys_of, values_of, lookup}
use Rattle.std.specs.Cmp.{nat_eq_equiv}
use Rattle.std.proofs.lemmas.Bool.{cases_Bool, eq-eqb, eqb-true}
use Rattle.std.proofs.lemmas.Map.{lookup-none}
use Rattle.std.proofs.lemmas.Map.Entries.{lookup_head, lookup_tail, none_past_head}
use Rattle.std.proofs.lemmas.Map.Keys.{IsDistinct-tail}
use Rattle.pol_tables.specs.Index.{entry_number, StandByNumber}
use Rattle.pol_tables.specs.Table.{row_of, IdsDiffer}
use Rattle.pol_tables.specs.declared.index.IndexEntry.{IndexEntry}

abbrev Unique : List (ℕ × IndexEntry) → Type 0
Unique entries = IsDistinct nat_eq (keys_of entries)

-- the keys are the numbers of the ids
abbrev Numbered : List (ℕ × IndexEntry) → Type 0
Numbered entries = keys_of entries ≡ map entry_number (values_of entries)

stand_past : (entry : ℕ × IndexEntry) (entries : List (ℕ × IndexEntry)) → Unique (entry ∷ entries) → StandByNumber (entry ∷ entries) → StandByNumber entries
stand_past entry entries unique stand number noted found = elim (cases_Bool (nat_eq number entry.0)) [
  | inl here ↦
      let none = lookup-none (nat_eq number) entries (none_past_head nat_eq_equiv number entry entries unique here) in
      let contrary : None ≡ Some noted = sym none ∙ found in cc
  | inr apart ↦ stand number noted (lookup_tail (nat_eq number) entry entries apart ∙ found)
]

numbered_from : (entries : List (ℕ × IndexEntry)) → Unique entries → StandByNumber entries → Numbered entries
numbered_from [] unique stand = refl
numbered_from (entry ∷ entries) unique stand =
    let itself : entry.0 ≡ entry.1.number = stand entry.0 entry.1 (lookup_head (nat_eq entry.0) entry entries (eq-eqb entry.0 entry.0 refl)) in
    let rest = numbered_from entries (IsDistinct-tail nat_eq entry.0 (keys_of entries) unique) (stand_past entry entries unique stand) in
    λ i. itself i ∷ rest i

found_by : (number : ℕ) (entries : List (ℕ × IndexEntry)) → Numbered entries → lookup (nat_eq number) entries ≡ row_of entry_number number (values_of entries)
found_by number [] numbered = refl
found_by number (entry ∷ entries) numbered =
    let itself : entry.0 ≡ entry.1.number = cc in
    let others : Numbered entries = cc in
    let rest = found_by number entries others in
    λ i. cond (nat_eq number (itself i)) (Some entry.1) (rest i)

module _ (entries : List (ℕ × IndexEntry)) (stand : StandByNumber entries) (unique : Unique entries) where
  -- what the map finds is the first of the number
  pub lookup-firsts : (number : ℕ) → lookup (nat_eq number) entries ≡ row_of entry_number number (values_of entries)
  lookup-firsts number = found_by number entries (numbered_from entries unique stand)

  pub differ-firsts : IdsDiffer entry_number (values_of entries)
  differ-firsts = subst (λ numbers. IsDistinct nat_eq numbers) (numbered_from entries unique stand) unique

  -- a map that finds the same has the same firsts
  module _ (after : List (ℕ × IndexEntry)) (alike : (n : ℕ) → lookup (nat_eq n) after ≡ lookup (nat_eq n) entries) where
    pub stand-alike : StandByNumber after
    stand-alike n noted found = stand n noted (sym (alike n) ∙ found)

    pub firsts-alike : Unique after → (n : ℕ) → row_of entry_number n (values_of after) ≡ row_of entry_number n (values_of entries)
    firsts-alike unique_ n =
        sym (found_by n after (numbered_from after unique_ stand-alike)) ∙ alike n ∙ lookup-firsts n

  module _ (after : List (ℕ × IndexEntry)) (number : ℕ) (put : Option IndexEntry) (updates : (n : ℕ) → lookup (nat_eq n) after ≡ cond (nat_eq number n) put (lookup (nat_eq n) entries)) where
    -- ids still stand by their numbers once one is put under its own, or none
    pub stand-after : ((noted : IndexEntry) → put ≡ Some noted → number ≡ noted.number) → StandByNumber after
    stand-after own n noted found = elim (cases_Bool (nat_eq number n)) [
      | inl here ↦
          let is : put ≡ Some noted = sym (ap (λ b. cond b put (lookup (nat_eq n) entries)) here) ∙ sym (updates n) ∙ found in
          sym (eqb-true number n here) ∙ own noted is
      | inr apart ↦ stand n noted (sym (ap (λ b. cond b put (lookup (nat_eq n) entries)) apart) ∙ sym (updates n) ∙ found)
    ]

    -- and the map's update is one of the firsts
    pub firsts-after : StandByNumber after → Unique after → (n : ℕ) → row_of entry_number n (values_of after) ≡ cond (nat_eq number n) put (row_of entry_number n (values_of entries))
    firsts-after stand_ unique_ n =
        sym (found_by n after (numbered_from after unique_ stand_)) ∙ updates n ∙ ap (λ found. cond (nat_eq number n) put found) (lookup-firsts n)
