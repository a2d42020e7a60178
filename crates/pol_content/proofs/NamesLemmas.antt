-- Rows whose names differ: a look-up by name finds the one row of the name.
use Rattle.std.proofs.Common.{◌≡◌, ℕ, ◌+◌, Bool, true, false, not, cond, List, map, Option, Some, None, is_none, is_some, nat_eq, refl, sym, ap, ◌∙◌, true≢false, suc}
use Rattle.std.specs.Borrow.{Bor}
use Rattle.std.specs.Option.{option_copied, option_map}
use Rattle.std.specs.Cmp.{IsEquivalence, nat_eq_equiv}
use Rattle.std.specs.Cmp.Lexicographic.{lists_equiv, nat_list_eq_equiv}
use Rattle.std.specs.List.{find, range_with_len}
use Rattle.std.proofs.lemmas.Bool.{and_from, and_parts}
use Rattle.pol_tables.specs.Named.{Finds}
use Rattle.pol_tables.specs.Table.{has_id, row_of}
use Rattle.pol_content.specs.Content.{is_catalog_named, is_namespace_named, same_levels}
use Rattle.pol_content.specs.declared.rows.CatalogRow.{CatalogRow}
use Rattle.pol_content.specs.declared.rows.NamespaceRow.{NamespaceRow}
use Rattle.pol_access.proofs.KeptLemmas.{found-holds}
use Rattle.pol_access.proofs.KeptLemmas as kept
use Rattle.pol_content.proofs.SoundLemmas.{each-fails}

module _ {R : Type 0} (key : R → ℕ) where
  module _ (test : R → Bool) where
    found-some : (id : ℕ) (row : R) (rows : List R) → row_of key id rows ≡ Some row → test row ≡ true → is_none (find test rows) ≡ false
    found-some id row rows found passes = by (find test rows) refl
      where
        by : (first : Option R) → find test rows ≡ first → is_none first ≡ false
        by (Some first) is = refl
        by None none =
            absurd (true≢false (sym passes ∙ found-holds (has_id key id) (λ kept. test kept ≡ false) rows row (each-fails test rows (kept.none-found test rows none)) found))

    none-alike : (rows : List R) (found : Option (Bor R)) → Finds key test rows (option_copied found) → is_none found ≡ is_none (find test rows)
    none-alike rows None none = sym (ap is_none none)
    none-alike rows (Some row) found = sym (found-some (key row.now) row.now rows found.0 found.1)

    -- a look-up that may find any row of a name tells whether there is one
    pub none-found : (rows : List R) (found : Option (Bor R)) (none : Bool) → is_some found ≡ not none → Finds key test rows (option_copied found) → none ≡ is_none (find test rows)
    none-found rows found none so finds = twice none ∙ ap not (sym so) ∙ none-alike rows found finds
      where
        twice : (b : Bool) → b ≡ not (not b)
        twice true = refl
        twice false = refl

-- what is found first along a row of numbers
module _ {X : Type 0} (test : X → Bool) (at : ℕ → X) where
  pub first-fails : (first many rest : ℕ) → many ≡ suc rest → test (at first) ≡ false → find test (map at (range_with_len first many)) ≡ find test (map at (range_with_len (first + 1) rest))
  first-fails first many rest more fails =
      ap (λ n. find test (map at (range_with_len first n))) more ∙ ap (λ b. cond b (Some (at first)) (find test (map at (range_with_len (first + 1) rest)))) fails

-- rows of one name have the same name
pub catalogs_alike : (name : List ℕ) (left right : CatalogRow) → is_catalog_named name left ≡ true → is_catalog_named name right ≡ true → is_catalog_named left.name right ≡ true
catalogs_alike name left right one other = sym (nat_list_eq_equiv.congr name left.name right.name one) ∙ other

levels_equiv : IsEquivalence same_levels
levels_equiv = lists_equiv nat_list_eq_equiv

pub namespaces_alike : (catalog : ℕ) (levels : List (List ℕ)) (left right : NamespaceRow) → is_namespace_named catalog levels left ≡ true → is_namespace_named catalog levels right ≡ true → is_namespace_named left.catalog left.levels right ≡ true
namespaces_alike catalog levels left right one other =
    let ones = and_parts (nat_eq catalog left.catalog) (same_levels levels left.levels) one in
    let others = and_parts (nat_eq catalog right.catalog) (same_levels levels right.levels) other in
    and_from (nat_eq left.catalog right.catalog) (same_levels left.levels right.levels) (sym (nat_eq_equiv.congr catalog left.catalog right.catalog ones.0) ∙ others.0) (sym (levels_equiv.congr levels left.levels right.levels ones.1) ∙ others.1)

-- something is made of what was found exactly where something was
pub mapped_some : {X Y : Type 0} (f : X → Y) (found : Option X) → is_some (option_map f found) ≡ is_some found
mapped_some f None = refl
mapped_some f (Some x) = refl
