-- Tables and sets of facts that are made from nothing.
use Rattle.std.proofs.Common.{◌≡◌, ℕ, true, false, not, cond, ◌||◌, List, [], ◌∷◌, ◌++◌, map, length, refl, sym, ap, subst, ◌∙◌, inl, inr, true≢false, append-nil, suc}
use Rattle.std.specs.Coded.{Coded}
use Rattle.std.specs.List.{AllByRecursion, IsDistinct, fold}
use Rattle.std.specs.Ordering.{is_lt}
use Rattle.std.specs.declared.cmp.Ordering.{Ordering}
use Rattle.std.proofs.lemmas.Bool.{cases_Bool}
use Rattle.std.proofs.lemmas.List.{append_assoc}
use Rattle.std.proofs.lemmas.Map.Keys.{IsDistinct-head, IsDistinct-tail, IsDistinct-IsPermutation}
use Rattle.pol_tables.specs.Changes.{fact_changes, gone_ids, new_rows, table_changes}
use Rattle.pol_tables.specs.Facts.{facts_with, holds}
use Rattle.pol_tables.specs.Order.{in_order, placed}
use Rattle.pol_tables.specs.Rising.{KeysBelow, KeysRise}
use Rattle.pol_tables.specs.Same.{same}
use Rattle.pol_tables.specs.Table.{knows, rows_with}
use Rattle.pol_tables.proofs.FactsLemmas.{facts_with-new}
use Rattle.pol_tables.proofs.ListLemmas.{each-all, filter-every}
use Rattle.pol_tables.proofs.OrderLemmas.{moved-in_order}
use Rattle.pol_tables.proofs.ReplayLemmas.{rebuilt-new}
use Rattle.pol_tables.proofs.SameLemmas.{same-symmetric}

-- of no rows, all are new
fresh : {R : Type 0} (code : Coded R) (rows : List R) → new_rows code [] rows ≡ rows
unfolding new_rows
fresh code rows =
    filter-every (λ row. not (holds code row [])) rows (each-all (λ row. not (holds code row []) ≡ true) rows (λ row. refl))

pub table-made : {R Change : Type 0} (code : Coded R) (key : R → ℕ) (put : R → Change) (drop : ℕ → Change) (rows : List R) → table_changes code key put drop [] rows ≡ map put rows
unfolding table_changes gone_ids
table-made code key put drop rows = append-nil (map put (new_rows code [] rows)) ∙ ap (map put) (fresh code rows)

pub facts-made : {T Change : Type 0} (code : Coded T) (cmp : T → T → Ordering) (put drop : T → Change) (facts : List T) → fact_changes code cmp put drop [] facts ≡ map put (in_order cmp facts)
unfolding fact_changes new_rows in_order
facts-made code cmp put drop facts =
    append-nil (map put (in_order cmp (new_rows code [] facts))) ∙ ap (λ rows. map put (in_order cmp rows)) (fresh code facts)

pub rows-made : {R Change : Type 0} (code : Coded R) (put : R → Change) (rows : List R) → map put (new_rows code [] rows) ≡ map put rows
rows-made code put rows = ap (map put) (fresh code rows)

-- rows whose keys rise, put one after the other
pub all-put : {R : Type 0} (code : Coded R) (key : R → ℕ) (rows : List R) → KeysRise key rows → fold (λ kept row. rows_with key row kept) [] rows ≡ rows
unfolding KeysRise gone_ids
all-put {R = R} code key rows rise =
    let none : List R = [] in
    ap (λ more. fold (λ kept row. rows_with key row kept) none more) (sym (fresh code rows))
    ∙ rebuilt-new key code none rows tt rise (each-all (λ row. knows key (key row) none ≡ false → KeysBelow key (key row) none) rows (λ row unknown. tt))

module _ {T : Type 0} (code : Coded T) where
  unseen : (done : List T) (fact : T) (rest : List T) → IsDistinct (same code) (done ++ fact ∷ rest) → holds code fact done ≡ false
  unseen [] fact rest differ = refl
  unseen (first ∷ done) fact rest differ = elim (cases_Bool (same code fact first)) [
    | inl here ↦
        absurd (true≢false (sym here ∙ same-symmetric code fact first ∙ at done (IsDistinct-head (same code) first (done ++ fact ∷ rest) differ)))
    | inr other ↦
        ap (λ b. b || holds code fact done) other ∙ unseen done fact rest (IsDistinct-tail (same code) first (done ++ fact ∷ rest) differ)
  ]
    where
      at : (between : List T) → AllByRecursion (λ later. same code first later ≡ false) (between ++ fact ∷ rest) → same code first fact ≡ false
      at [] all = all.0
      at (next ∷ between) all = at between all.1

  put-after : (done rest : List T) → IsDistinct (same code) (done ++ rest) → fold (λ kept fact. facts_with code fact kept) done rest ≡ done ++ rest
  put-after done [] differ = sym (append-nil done)
  put-after done (fact ∷ rest) differ =
      let moved = append_assoc done (fact ∷ []) rest in
      ap (λ kept. fold (λ kept fact. facts_with code fact kept) kept rest) (facts_with-new code fact done (unseen done fact rest differ))
      ∙ put-after (done ++ fact ∷ []) rest (subst (IsDistinct (same code)) (sym moved) differ)
      ∙ moved

  -- facts that differ, put one after the other in rising order
  pub distinct-in_order : (cmp : T → T → Ordering) (facts : List T) → IsDistinct (same code) facts → IsDistinct (same code) (in_order cmp facts)
  distinct-in_order cmp facts differ =
      IsDistinct-IsPermutation (same code) (same-symmetric code) facts (in_order cmp facts) (moved-in_order cmp facts) differ

  pub all-facts-put : (cmp : T → T → Ordering) (facts : List T) → IsDistinct (same code) facts → fold (λ kept fact. facts_with code fact kept) [] (in_order cmp facts) ≡ in_order cmp facts
  all-facts-put cmp facts differ = put-after [] (in_order cmp facts) (distinct-in_order cmp facts differ)

-- what holds of each item holds of each in order, and there are as many
module _ {T : Type 0} (cmp : T → T → Ordering) where
  each-placed : (P : T → Type 0) (item : T) (items : List T) → P item → AllByRecursion P items → AllByRecursion P (placed cmp item items)
  unfolding placed
  each-placed P item [] here all = (here, tt)
  each-placed P item (next ∷ items) here all =
      let rest = each-placed P item items here all.1 in
      elim (is_lt (cmp next item)) as (λ b. AllByRecursion P (cond b (next ∷ placed cmp item items) (item ∷ next ∷ items))) [
        | true ↦ (all.0, rest)
        | false ↦ (here, all)
      ]

  pub each-in_order : (P : T → Type 0) (items : List T) → AllByRecursion P items → AllByRecursion P (in_order cmp items)
  unfolding in_order
  each-in_order P [] all = tt
  each-in_order P (item ∷ items) all = each-placed P item (in_order cmp items) all.0 (each-in_order P items all.1)

  length-placed : (item : T) (items : List T) → length (placed cmp item items) ≡ suc (length items)
  unfolding placed
  length-placed item [] = refl
  length-placed item (next ∷ items) =
      let rest = length-placed item items in
      elim (is_lt (cmp next item)) as (λ b. length (cond b (next ∷ placed cmp item items) (item ∷ next ∷ items)) ≡ suc (suc (length items))) [
        | true ↦ ap suc rest
        | false ↦ refl
      ]

  pub length-in_order : (items : List T) → length (in_order cmp items) ≡ length items
  unfolding in_order
  length-in_order [] = refl
  length-in_order (item ∷ items) = length-placed item (in_order cmp items) ∙ ap suc (length-in_order items)
