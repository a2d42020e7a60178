-- The numbers of the namespaces in which one stands.
use Rattle.std.proofs.Common.{◌≡◌, ◌≢◌, ℕ, ◌+◌, ◌-◌, ◌<◌, ◌≤◌, suc, zero, Bool, true, false, ◌&&◌, ◌||◌, List, [], ◌∷◌, get_or, length, map, take, nat_eq, nat_lt, refl, sym, ap, subst, ◌∙◌, inl, inr, true≢false, arith}
use Rattle.std.specs.List.{list_any, range_with_len}
use Rattle.std.proofs.lemmas.Bool.{and_parts, cases_Bool, eq-eqb, eqb-true, ltb-true}
use Rattle.std.proofs.lemmas.List.FromFn.{get_or-map-range_with_len, length-map-range_with_len}
use Rattle.pol_tables.proofs.ListLemmas.{or_true}
use Rattle.pol_tallies.specs.Grouped.{is_of}
use Rattle.pol_content.specs.Content.{lies_below, same_levels}
use Rattle.pol_content.specs.Numbers.{namespace_number, numbers_above}
use Rattle.pol_content.specs.declared.rows.NamespaceRow.{NamespaceRow}
use Rattle.pol_content.proofs.ChainLemmas.{levels-are}

-- what is made of a number within a range is among what is made of the range
made-there : (made : ℕ → ℕ) (first count place : ℕ) → first ≤ place → place < first + count → list_any (nat_eq (made place)) (map made (range_with_len first count)) ≡ true
made-there made first zero place above below = absurd (omega (arith, above, below))
made-there made first (suc count) place above below = elim (cases_Bool (nat_eq place first)) [
  | inl here ↦ rw (ap (nat_eq (made place)) (sym (ap made (eqb-true place first here))) ∙ eq-eqb (made place) (made place) refl) refl
  | inr apart ↦
      let differ : place ≢ first = λ is. true≢false (sym (eq-eqb place first is) ∙ apart) in
      rw (made-there made (first + 1) count place (omega (arith, above, differ)) (omega (arith, below))) (or_true (nat_eq (made place) (made first)))
]

-- where what passes one test passes another, the one passes somewhere only where the other does
any-both : {X : Type 0} (one other : X → Bool) → ((x : X) → one x ≡ true → other x ≡ true) → (xs : List X) → (list_any other xs && list_any one xs) ≡ list_any one xs
any-both one other so [] = refl
any-both one other so (x ∷ xs) = elim (cases_Bool (one x)) [
  | inl is ↦ rw (is, so x is) refl
  | inr no_ ↦ rw no_ (shared (other x) (list_any other xs) (list_any one xs) (any-both one other so xs))
]
  where
    shared : (a b c : Bool) → (b && c) ≡ c → ((a || b) && c) ≡ c
    shared true b c both = refl
    shared false b c both = both

filled-length : (levels : List (List ℕ)) → levels ≢ [] → 1 ≤ length levels
filled-length [] filled = absurd (filled refl)
filled-length (level ∷ levels) filled = omega arith

-- a namespace stands in one below which it lies
stands-in : (upper row : NamespaceRow) → upper.levels ≢ [] → lies_below upper row ≡ true → is_of numbers_above (namespace_number upper.catalog upper.levels) row ≡ true
stands-in upper row filled below =
    let parts = and_parts (nat_eq row.catalog upper.catalog && nat_lt (length upper.levels) (length row.levels)) (same_levels upper.levels (take (length upper.levels) row.levels)) below in
    let firsts = and_parts (nat_eq row.catalog upper.catalog) (nat_lt (length upper.levels) (length row.levels)) parts.0 in
    let depth = length upper.levels in
    let lower = ltb-true depth (length row.levels) firsts.1 in
    let some = filled-length upper.levels filled in
    let same : namespace_number row.catalog (take depth row.levels) ≡ namespace_number upper.catalog upper.levels =
    λ i. namespace_number (eqb-true row.catalog upper.catalog firsts.0 i) (sym (levels-are upper.levels (take depth row.levels) parts.1) i) in
    subst (λ number. is_of numbers_above number row ≡ true) same (made-there (λ n. namespace_number row.catalog (take n row.levels)) 1 (length row.levels - 1) depth some (omega (arith, lower)))

-- where no namespace stands in one of the upper's number, none lies below it
pub none-stands : (upper : NamespaceRow) (rows : List NamespaceRow) → upper.levels ≢ [] → list_any (is_of numbers_above (namespace_number upper.catalog upper.levels)) rows ≡ false → list_any (lies_below upper) rows ≡ false
none-stands upper rows filled none =
    sym (any-both (lies_below upper) (is_of numbers_above (namespace_number upper.catalog upper.levels)) (λ row below. stands-in upper row filled below) rows)
    ∙ ap (λ b. b && list_any (lies_below upper) rows) none

-- a namespace stands in one fewer than it has levels
pub count-above : (row : NamespaceRow) → length (numbers_above row) ≡ length row.levels - 1
count-above row = length-map-range_with_len (λ depth. namespace_number row.catalog (take depth row.levels)) 1 (length row.levels - 1)

-- and the number at a place is that of one level more
pub number-above : (row : NamespaceRow) (place : ℕ) → place < length (numbers_above row) → get_or (numbers_above row) place 0 ≡ namespace_number row.catalog (take (place + 1) row.levels)
number-above row place within =
    get_or-map-range_with_len (λ depth. namespace_number row.catalog (take depth row.levels)) 1 (length row.levels - 1) place (place + 1) 0 (omega (arith, within, count-above row)) (omega arith)
