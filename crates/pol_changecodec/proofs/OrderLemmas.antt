-- Rows that stand in their order stand by rising bytes of their forms.
use Rattle.std.proofs.Common.{◌≡◌, ℕ, Bool, true, false, cond, not, List, [], ◌∷◌, ◌++◌, map, filter, refl, ◌∙◌}
use Rattle.std.specs.Coded.{Coded}
use Rattle.std.specs.List.{AllByRecursion, IsDistinct}
use Rattle.std.specs.List.Sorted.{IsPermutation, IsStrictlySortedBy}
use Rattle.std.specs.Ordering.{is_lt}
use Rattle.std.specs.declared.cmp.Ordering.{Ordering}
use Rattle.std.specs.declared.cmp.Ordering.TheVariants.{Less}
use Rattle.std.proofs.lemmas.Map.Keys.{IsDistinct-head, IsDistinct-tail, IsDistinct-cons}
use Rattle.pol_access.specs.Laws.{AreListedInOrder, FactsAreInOrder}
use Rattle.pol_access.specs.Order.{grant_cmp, join_cmp, member_cmp}
use Rattle.pol_access.specs.contracts.rows.GrantRow as grant_row
use Rattle.pol_access.specs.contracts.rows.JoinRow as join_row
use Rattle.pol_access.specs.contracts.rows.MemberRow as member_row
use Rattle.pol_codec.specs.Laws.{FactsAreInByteOrder, IsOrderOfBytes}
use Rattle.pol_codec.specs.Rows.{grant, join, member}
use Rattle.pol_content.specs.declared.change.Change.{Change}
use Rattle.pol_content.specs.declared.change.Change.TheVariants.{PutMember, DropMember, PutJoin, DropJoin, PutGrant, DropGrant}
use Rattle.pol_forms.specs.Form.{Form}
use Rattle.pol_tables.specs.Changes.{fact_changes, new_rows}
use Rattle.pol_tables.specs.Facts.{holds}
use Rattle.pol_tables.specs.Order.{in_order, placed}
use Rattle.pol_tables.specs.Same.{same}
use Rattle.pol_tables.proofs.ListLemmas.{each-filter}
use Rattle.pol_changecodec.specs.Laws.{AreFacts, ChangesRise, FactsRiseByBytes, bytes_cmp}

-- what holds of an item and of each of a list holds of each of the list in order
module _ {T : Type 0} (cmp : T → T → Ordering) (P : T → Type 0) where
  each_placed : (item : T) (items : List T) → P item → AllByRecursion P items → AllByRecursion P (placed cmp item items)
  unfolding placed
  each_placed item [] here all = (here, tt)
  each_placed item (next ∷ items) here all =
      let rest = each_placed item items here all.1 in
      elim (is_lt (cmp next item)) as (λ b. AllByRecursion P (cond b (next ∷ placed cmp item items) (item ∷ next ∷ items))) [
        | true ↦ (all.0, rest)
        | false ↦ (here, all)
      ]

  each_in_order : (items : List T) → AllByRecursion P items → AllByRecursion P (in_order cmp items)
  unfolding in_order
  each_in_order [] all = tt
  each_in_order (item ∷ items) all = each_placed item (in_order cmp items) all.0 (each_in_order items all.1)

-- rows of which no two are the same, and those among them that are kept
module _ {T : Type 0} (code : Coded T) where
  chosen : (keep : T → Bool) (rows : List T) → IsDistinct (same code) rows → IsDistinct (same code) (filter keep rows)
  chosen keep [] differ = differ
  chosen keep (row ∷ rows) differ =
      let rest = chosen keep rows (IsDistinct-tail (same code) row rows differ) in
      let apart = each-filter (λ later. same code row later ≡ false) keep rows (IsDistinct-head (same code) row rows differ) in
      elim (keep row) as (λ b. IsDistinct (same code) (cond b (row ∷ filter keep rows) (filter keep rows))) [
        | true ↦ IsDistinct-cons (same code) row (filter keep rows) apart rest
        | false ↦ rest
      ]

-- rows of one form, whose order is that of their bytes
module _ {T : Type 0} (form : Form T) (code : Coded T) (cmp : T → T → Ordering) (by_bytes : IsOrderOfBytes form cmp) (listed : AreListedInOrder code cmp) where
  below : (row : T) (rows : List T) → form.holds row → AllByRecursion form.holds rows → AllByRecursion (λ later. cmp row later ≡ Less) rows
      → AllByRecursion (λ later. bytes_cmp form row later ≡ Less) rows
  below row [] held each less = tt
  below row (later ∷ rows) held each less = (by_bytes row later held each.0 ∙ less.0, below row rows held each.1 less.1)

  rising : (rows : List T) → AllByRecursion form.holds rows → IsStrictlySortedBy cmp rows → IsStrictlySortedBy (bytes_cmp form) rows
  unfolding IsStrictlySortedBy
  rising [] each sorted = tt
  rising (row ∷ rows) each sorted = (below row rows each.0 each.1 sorted.0, rising rows each.1 sorted.1)

  -- those that are new
  new_rise : (old new : List T) → AreFacts form code new → IsStrictlySortedBy (bytes_cmp form) (in_order cmp (new_rows code old new))
  unfolding new_rows
  new_rise old new facts =
      let keep : T → Bool = λ row. not (holds code row old) in
      rising (in_order cmp (filter keep new)) (each_in_order cmp form.holds (filter keep new) (each-filter form.holds keep new facts.0))
      ((listed (filter keep new)).1 (chosen code keep new facts.1))

  rise : (put drop : T → Change) → ChangesRise form code cmp put drop
  unfolding fact_changes
  rise put drop old new facts facts_too = (in_order cmp (new_rows code old new), in_order cmp (new_rows code new old), refl, new_rise old new facts_too, new_rise new old facts)

pub facts_rise : FactsAreInOrder → FactsAreInByteOrder → FactsRiseByBytes
facts_rise listed by_bytes = (
  rise member member_row.the_row.coded member_cmp by_bytes.0 listed.0 PutMember DropMember,
  rise join join_row.the_row.coded join_cmp by_bytes.1 listed.1 PutJoin DropJoin,
  rise grant grant_row.the_row.coded grant_cmp by_bytes.2 listed.2 PutGrant DropGrant,
)
