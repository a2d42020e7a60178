-- Chains of securables.
use Rattle.std.proofs.Common.{◌≡◌, ◌⊎◌, ℕ, zero, suc, ◌+◌, ◌-◌, ◌<◌, ◌≤◌, true, cond, ◌&&◌, List, [], ◌∷◌, ◌++◌, map, reverse, filter_map, take, length, Option, None, Some, option_map, option_to_list, nat_eq, nat_lt, refl, sym, ap, subst, ◌∙◌, inl, inr, arith, length-take-le}
use Rattle.std.specs.Cmp.Lexicographic.{lists_equiv, nat_list_eq_equiv, same_text}
use Rattle.std.specs.List.{cons_option, range_with_len, AllByRecursion, Contains}
use Rattle.std.proofs.lemmas.Bool.{and_from, and_parts, lt-ltb, ltb-true}
use Rattle.std.proofs.lemmas.List.{append_assoc, reverse-append, take-take, take_all}
use Rattle.std.proofs.lemmas.List.Elements.{Contains-append_cases, Contains-append_left, Contains-append_right, Contains-push, Contains-push_cases}
use Rattle.std.proofs.lemmas.List.FromFn.{map-range_with_len_more}
use Rattle.pol_types.specs.Exact.{pointwise_exact}
use Rattle.pol_access.specs.declared.securable.Securable.{Securable}
use Rattle.pol_access.specs.declared.securable.Securable.TheVariants.{Realm, Catalog, Namespace, Table, View}
use Rattle.pol_names.specs.Namespace.{parent_of}
use Rattle.pol_tables.specs.Table.{row_of, IdsDiffer, has_id}
use Rattle.pol_tables.proofs.TableLemmas.{key-row_of, some_is}
use Rattle.pol_table_rows.specs.Tables.{table_id}
use Rattle.pol_table_rows.specs.declared.row.TableRow.{TableRow}
use Rattle.pol_view_rows.specs.Views.{view_id}
use Rattle.pol_view_rows.specs.declared.row.ViewRow.{ViewRow}
use Rattle.pol_content.specs.Chain.{first_or, namespace_at, namespace_chain, parents_out, table_uppers, view_uppers, Encloses, EnclosesNamespace, EnclosesRow, uppers_of_found}
use Rattle.pol_content.specs.Content.{is_namespace_named, lies_below, namespace_id, namespace_named, same_levels, ContentRows, NamespaceNamesDiffer}
use Rattle.pol_content.specs.Laws.{ChainsHaveWhatContains, DeepestPartsAreFirst}
use Rattle.pol_content.specs.declared.rows.NamespaceRow.{NamespaceRow}
use Rattle.pol_content.proofs.NamesLemmas.{namespaces_alike}
use Rattle.pol_content.proofs.SoundLemmas.{parent_front}
use Rattle.pol_content.proofs.TiesLemmas.{found-own}
use Rattle.pol_access.proofs.KeptLemmas.{found-holds, found-passes}
use Rattle.pol_access.proofs.NamesLemmas.{first_found}

-- a list of one item has no other
only : {X : Type 0} (x y : X) → Contains (x ∷ []) y → x ≡ y
only x y has = elim (Contains-push_cases [] x y has) [ inl before ↦ absurd (omega (arith, before.1)) | inr is ↦ is ]

-- what is there at falling numbers
module _ {X Y : Type 0} (h : X → Option Y) (at : ℕ → X) where
  abbrev pub falling : ℕ → List Y
  falling many = filter_map h (reverse (map at (range_with_len 1 many)))

  pub falling-more : (many rest : ℕ) → many ≡ suc rest → falling many ≡ cons_option (h (at many)) (falling rest)
  falling-more many rest more =
      let last = map-range_with_len_more at 1 rest many (omega (arith, more)) in
      let size : many ≡ rest + 1 = omega (arith, more) in
      ap falling size ∙ ap (λ xs. filter_map h (reverse xs)) last ∙ ap (filter_map h) (reverse-append (map at (range_with_len 1 rest)) (at many ∷ []))

  pub none-falling : (many rest : ℕ) → many ≡ suc rest → h (at many) ≡ None → falling many ≡ falling rest
  none-falling many rest more none = falling-more many rest more ∙ ap (λ found. cons_option found (falling rest)) none

  -- what is found is pushed before those that are left
  pub push-falling : (many rest : ℕ) → many ≡ suc rest → (found : Option Y) → found ≡ h (at many) → (before after : List Y) → after ≡ before ++ option_to_list found → after ++ falling rest ≡ before ++ falling many
  push-falling many rest more found is before after pushed =
      ap (λ xs. xs ++ falling rest) pushed ∙ append_assoc before (option_to_list found) (falling rest) ∙ ap (λ xs. before ++ xs) (onto found (falling rest) ∙ ap (λ one. cons_option one (falling rest)) is ∙ sym (falling-more many rest more))
    where
      onto : (one : Option Y) (ys : List Y) → option_to_list one ++ ys ≡ cons_option one ys
      onto None ys = refl
      onto (Some y) ys = refl

  -- they are what is there at some number from one on
  abbrev pub IsAt : ℕ → Y → Type 0
  IsAt many y = (n : ℕ) × (0 < n) × (n ≤ many) × (h (at n) ≡ Some y)

  pub falling-at : (many : ℕ) (y : Y) → Contains (falling many) y → IsAt many y
  falling-at zero y has = absurd (omega (arith, has.1))
  falling-at (suc rest) y has = by (falling-at rest y) (h (at (suc rest))) refl (subst (λ ys. Contains ys y) (falling-more (suc rest) rest refl) has)
    where
      by : (Contains (falling rest) y → IsAt rest y) → (found : Option Y) → h (at (suc rest)) ≡ found → Contains (cons_option found (falling rest)) y → IsAt (suc rest) y
      by later None is has = let less = later has in (less.0, less.1, omega (arith, less.2), less.3)
      by later (Some first) is has = elim (Contains-append_cases (first ∷ []) (falling rest) y has) [
        | inl here ↦ (suc rest, omega arith, omega arith, is ∙ ap Some (only first y here))
        | inr rest_has ↦ let less = later rest_has in (less.0, less.1, omega (arith, less.2), less.3)
      ]

  pub falling-has : (many n : ℕ) (y : Y) → 0 < n → n ≤ many → h (at n) ≡ Some y → Contains (falling many) y
  falling-has many n y some within is = by (many - n) many refl within
    where
      onto : (found : Option Y) (ys : List Y) → Contains ys y → Contains (cons_option found ys) y
      onto None ys has = has
      onto (Some first) ys has = Contains-append_right (first ∷ []) ys y has

      by : (more top : ℕ) → top - n ≡ more → n ≤ top → Contains (falling top) y
      by zero top size under =
          let same : top ≡ n = omega (arith, size, under) in
          let here = falling-more top (n - 1) (omega (arith, same, some)) ∙ ap (λ found. cons_option found (falling (n - 1))) (ap (λ one. h (at one)) same ∙ is) in
          subst (λ ys. Contains ys y) (sym here) (Contains-append_left (y ∷ []) (falling (n - 1)) y (Contains-push [] y))
      by (suc more) top size under =
          let rest = by more (top - 1) (omega (arith, size)) (omega (arith, size)) in
          subst (λ ys. Contains ys y) (sym (falling-more top (top - 1) (omega (arith, size)))) (onto (h (at top)) (falling (top - 1)) rest)

-- the first that is there
pub first-falling : (h : List (List ℕ) → Option Securable) (at : ℕ → List (List ℕ)) (many rest : ℕ) → many ≡ suc rest → (found : Securable) → h (at many) ≡ Some found → (catalog : ℕ) → found ≡ first_or catalog (falling h at many)
first-falling h at many rest more found is catalog =
    sym (ap (first_or catalog) (falling-more h at many rest more ∙ ap (λ one. cons_option one (falling h at rest)) is))

-- what is there of the levels of a front is what is there of those of the whole, as far as the front goes
falling-front : {Y : Type 0} (h : List (List ℕ) → Option Y) (levels : List (List ℕ)) (size many : ℕ) → many ≤ size → falling h (λ n. take n levels) many ≡ falling h (λ n. take n (take size levels)) many
falling-front h levels size zero within = refl
falling-front h levels size (suc rest) within =
    falling-more h (λ n. take n levels) (suc rest) rest refl ∙ (λ i. cons_option (h (sym (take-take (suc rest) size levels within) i)) (falling-front h levels size rest (omega (arith, within)) i)) ∙ sym (falling-more h (λ n. take n (take size levels)) (suc rest) rest refl)

pub deepest_first : DeepestPartsAreFirst
deepest_first catalog levels content = (
  λ some row found. sym (first-falling (namespace_at catalog content) (λ n. take n levels) (length levels) (length levels - 1) (omega (arith, some)) (Namespace row.id) (ap (namespace_at catalog content) (take_all (length levels) levels (omega arith)) ∙ ap (option_map (λ (one : NamespaceRow). Namespace one.id)) found) catalog),
  λ some none.
      let front = take (length levels - 1) levels in
      let size : length front ≡ length levels - 1 = length-take-le (length levels - 1) levels (omega arith) in
      ap (first_or catalog) (none-falling (namespace_at catalog content) (λ n. take n levels) (length levels) (length levels - 1) (omega (arith, some)) (ap (namespace_at catalog content) (take_all (length levels) levels (omega arith)) ∙ ap (option_map (λ (one : NamespaceRow). Namespace one.id)) none) ∙ falling-front (namespace_at catalog content) levels (length levels - 1) (length levels - 1) (omega arith) ∙ ap (falling (namespace_at catalog content) (λ n. take n front)) (sym size)),
  refl,
)

-- levels that are the same are equal
pub levels-are : (left right : List (List ℕ)) → same_levels left right ≡ true → left ≡ right
levels-are = pointwise_exact (λ x y same. same_text x y (sym same))

-- a row that an option gives something of
mapped : {R X : Type 0} (f : R → X) (found : Option R) (x : X) → option_map f found ≡ Some x → (row : R) × (found ≡ Some row) × (f row ≡ x)
mapped f None x is = let contrary : None ≡ Some x = is in cc
mapped f (Some row) x is = (row, refl, some_is (f row) x is)

module _ (content : ContentRows) (ids : IdsDiffer namespace_id content.namespaces) where
  -- a namespace of the first levels of a parent lies above the row
  upper-lies : (row upper : NamespaceRow) (parent : List (List ℕ)) (depth : ℕ) → parent_of row.levels ≡ Some parent → 0 < depth → depth ≤ length parent → namespace_named row.catalog (take depth parent) content ≡ Some upper → lies_below upper row ≡ true
  upper-lies row upper parent depth is some within found =
      let front = parent_front row.levels parent is in
      let named = and_parts (nat_eq row.catalog upper.catalog) (same_levels (take depth parent) upper.levels) (found-passes (is_namespace_named row.catalog (take depth parent)) content.namespaces upper found) in
      let levels : upper.levels ≡ take depth row.levels = sym (levels-are (take depth parent) upper.levels named.1) ∙ ap (take depth) front.levels_is ∙ take-take depth (length row.levels - 1) row.levels (omega (arith, within, front.size)) in
      let size : length upper.levels ≡ depth = ap length levels ∙ length-take-le depth row.levels (omega (arith, within, front.size)) in
      and_from (nat_eq row.catalog upper.catalog && nat_lt (length upper.levels) (length row.levels)) (same_levels upper.levels (take (length upper.levels) row.levels)) (and_from (nat_eq row.catalog upper.catalog) (nat_lt (length upper.levels) (length row.levels)) named.0 (lt-ltb (length upper.levels) (length row.levels) (omega (arith, size, within, front.deep, front.size)))) (ap (same_levels upper.levels) (ap (λ n. take n row.levels) size ∙ sym levels) ∙ (lists_equiv nat_list_eq_equiv).refl upper.levels)

  parents-enclose : (row : NamespaceRow) (one : Securable) (parent : Option (List (List ℕ))) → parent_of row.levels ≡ parent → Contains (parents_out row.catalog parent content) one → EnclosesRow content one row
  parents-enclose row one None is has = absurd (omega (arith, has.1))
  parents-enclose row one (Some parent) is has =
      let there = falling-at (namespace_at row.catalog content) (λ depth. take depth parent) (length parent) one has in
      let found = mapped (λ (upper : NamespaceRow). Namespace upper.id) (namespace_named row.catalog (take there.0 parent) content) one there.3 in
      subst (λ of. EnclosesRow content of row) found.2 (found.0, found-own namespace_id (is_namespace_named row.catalog (take there.0 parent)) found.0 content.namespaces ids found.1, upper-lies row found.0 parent there.0 is there.1 there.2 found.1)

  module _ (names : NamespaceNamesDiffer content.namespaces) (filled : AllByRecursion (λ row. 0 < length row.levels) content.namespaces) where
    -- a namespace above the row is one of the first levels of its parent
    parents-have : (row upper : NamespaceRow) (id : ℕ) → row_of namespace_id id content.namespaces ≡ Some upper → lies_below upper row ≡ true → Contains (parents_out row.catalog (parent_of row.levels) content) (Namespace id)
    parents-have row upper id there below =
        let parts = and_parts (nat_eq row.catalog upper.catalog && nat_lt (length upper.levels) (length row.levels)) (same_levels upper.levels (take (length upper.levels) row.levels)) below in
        let firsts = and_parts (nat_eq row.catalog upper.catalog) (nat_lt (length upper.levels) (length row.levels)) parts.0 in
        let depth = length upper.levels in
        let some : 0 < depth = found-holds (has_id namespace_id id) (λ one. 0 < length one.levels) content.namespaces upper filled there in
        let deeper : depth < length row.levels = ltb-true depth (length row.levels) firsts.1 in
        let parent = take (length row.levels - 1) row.levels in
        let has_parent : parent_of row.levels ≡ Some parent = ap (λ b. cond b (Some parent) None) (lt-ltb 1 (length row.levels) (omega (arith, some, deeper))) in
        let size : length parent ≡ length row.levels - 1 = length-take-le (length row.levels - 1) row.levels (omega arith) in
        let levels : take depth parent ≡ upper.levels = take-take depth (length row.levels - 1) row.levels (omega (arith, deeper)) ∙ sym (levels-are upper.levels (take depth row.levels) parts.1) in
        let same_id = key-row_of namespace_id id upper content.namespaces there in
        let own = ap (λ n. row_of namespace_id n content.namespaces) (sym same_id) ∙ there in
        let passes = and_from (nat_eq row.catalog upper.catalog) (same_levels (take depth parent) upper.levels) firsts.0 (ap (λ one. same_levels one upper.levels) levels ∙ (lists_equiv nat_list_eq_equiv).refl upper.levels) in
        let found = first_found namespace_id (is_namespace_named row.catalog (take depth parent)) (λ left right. is_namespace_named left.catalog left.levels right) (namespaces_alike row.catalog (take depth parent)) content.namespaces names (Some upper) (own, passes) in
        let at_depth = ap (option_map (λ (one : NamespaceRow). Namespace one.id)) (sym found) ∙ ap (λ n. Some (Namespace n)) (sym same_id) in
        subst (λ one. Contains (parents_out row.catalog one content) (Namespace id)) (sym has_parent) (falling-has (namespace_at row.catalog content) (λ n. take n parent) (length parent) depth (Namespace id) some (omega (arith, size, deeper)) at_depth)

    uppers-have : (row : NamespaceRow) (one : Securable) → EnclosesRow content one row → Contains (parents_out row.catalog (parent_of row.levels) content ++ Catalog row.catalog ∷ []) one
    uppers-have row Realm has = absurd has
    uppers-have row (Catalog id) has =
        subst (λ n. Contains (parents_out row.catalog (parent_of row.levels) content ++ Catalog row.catalog ∷ []) (Catalog n)) (sym has) (Contains-push (parents_out row.catalog (parent_of row.levels) content) (Catalog row.catalog))
    uppers-have row (Namespace id) has =
        Contains-append_left (parents_out row.catalog (parent_of row.levels) content) (Catalog row.catalog ∷ []) (Namespace id) (parents-have row has.0 id has.1 has.2)
    uppers-have row (Table id) has = absurd has
    uppers-have row (View id) has = absurd has

  uppers-enclose : (row : NamespaceRow) (one : Securable) → Contains (parents_out row.catalog (parent_of row.levels) content ++ Catalog row.catalog ∷ []) one → EnclosesRow content one row
  uppers-enclose row one has = elim (Contains-push_cases (parents_out row.catalog (parent_of row.levels) content) (Catalog row.catalog) one has) [
    | inl parents ↦ parents-enclose row one (parent_of row.levels) refl parents
    | inr is ↦ subst (λ of. EnclosesRow content of row) is refl
  ]

-- the first of a list, and one of its rest
first-or-later : {X : Type 0} (x y : X) (xs : List X) → Contains (x ∷ xs) y → (y ≡ x) ⊎ Contains xs y
first-or-later x y xs has = elim (Contains-append_cases (x ∷ []) xs y has) [ inl here ↦ inl (sym (only x y here)) | inr later ↦ inr later ]

first-has : {X : Type 0} (x y : X) (xs : List X) → y ≡ x → Contains (x ∷ xs) y
first-has x y xs is = subst (Contains (x ∷ xs)) (sym is) (Contains-append_left (x ∷ []) xs x (Contains-push [] x))

-- a namespace's chain has it and what contains it
module _ (content : ContentRows) (ids : IdsDiffer namespace_id content.namespaces) (names : NamespaceNamesDiffer content.namespaces) (filled : AllByRecursion (λ row. 0 < length row.levels) content.namespaces) (id : ℕ) (one : Securable) where
  encloses : (found : Option NamespaceRow) → row_of namespace_id id content.namespaces ≡ found → Contains (uppers_of_found found content) one → EnclosesNamespace content one id
  encloses None is has = absurd (omega (arith, has.1))
  encloses (Some row) is has = (row, is, uppers-enclose content ids row one has)

  namespace-out : Contains (namespace_chain id content) one → (one ≡ Namespace id) ⊎ EnclosesNamespace content one id
  namespace-out has = elim (first-or-later (Namespace id) one (uppers_of_found (row_of namespace_id id content.namespaces) content) has) [
    | inl is ↦ inl is
    | inr later ↦ inr (encloses (row_of namespace_id id content.namespaces) refl later)
  ]

  namespace-in : (one ≡ Namespace id) ⊎ EnclosesNamespace content one id → Contains (namespace_chain id content) one
  namespace-in either = elim either [
    | inl is ↦ first-has (Namespace id) one (uppers_of_found (row_of namespace_id id content.namespaces) content) is
    | inr has ↦
        Contains-append_right (Namespace id ∷ []) (uppers_of_found (row_of namespace_id id content.namespaces) content) one (subst (λ found. Contains (uppers_of_found found content) one) (sym has.1) (uppers-have content ids names filled has.0 one has.2))
  ]

pub chains_have : ChainsHaveWhatContains
chains_have content Realm one ids names filled = (λ has. inl (sym (only Realm one has)), λ either. elim either [ inl is ↦ first-has Realm one [] is | inr none ↦ absurd none ])
chains_have content (Catalog id) one ids names filled = (λ has. inl (sym (only (Catalog id) one has)), λ either. elim either [ inl is ↦ first-has (Catalog id) one [] is | inr none ↦ absurd none ])
chains_have content (Namespace id) one ids names filled =
    (namespace-out content ids names filled id one, namespace-in content ids names filled id one)
chains_have content (Table id) one ids names filled = (
  λ has. elim (first-or-later (Table id) one (table_uppers (row_of table_id id content.tables) content) has) [
    | inl is ↦ inl is
    | inr later ↦ inr (table-encloses (row_of table_id id content.tables) refl later)
  ],
  λ either. elim either [
    | inl is ↦ first-has (Table id) one (table_uppers (row_of table_id id content.tables) content) is
    | inr has ↦
        Contains-append_right (Table id ∷ []) (table_uppers (row_of table_id id content.tables) content) one (subst (λ found. Contains (table_uppers found content) one) (sym has.1) (namespace-in content ids names filled has.0.namespace one has.2))
  ],
)
  where
    table-encloses : (found : Option TableRow) → row_of table_id id content.tables ≡ found → Contains (table_uppers found content) one → Encloses content one (Table id)
    table-encloses None is has = absurd (omega (arith, has.1))
    table-encloses (Some row) is has = (row, is, namespace-out content ids names filled row.namespace one has)
chains_have content (View id) one ids names filled = (
  λ has. elim (first-or-later (View id) one (view_uppers (row_of view_id id content.views) content) has) [
    | inl is ↦ inl is
    | inr later ↦ inr (view-encloses (row_of view_id id content.views) refl later)
  ],
  λ either. elim either [
    | inl is ↦ first-has (View id) one (view_uppers (row_of view_id id content.views) content) is
    | inr has ↦
        Contains-append_right (View id ∷ []) (view_uppers (row_of view_id id content.views) content) one (subst (λ found. Contains (view_uppers found content) one) (sym has.1) (namespace-in content ids names filled has.0.namespace one has.2))
  ],
)
  where
    view-encloses : (found : Option ViewRow) → row_of view_id id content.views ≡ found → Contains (view_uppers found content) one → Encloses content one (View id)
    view-encloses None is has = absurd (omega (arith, has.1))
    view-encloses (Some row) is has = (row, is, namespace-out content ids names filled row.namespace one has)
