-- Sound catalogues, namespaces, tables and views stay sound once a row is pushed, altered or taken away.
use Rattle.std.proofs.Common.{◌≡◌, ℕ, ◌+◌, ◌-◌, ◌<◌, ◌≤◌, Bool, true, false, not, cond, ◌&&◌, ◌||◌, List, [], ◌∷◌, ◌++◌, map, filter, take, length, Option, Some, None, is_none, is_some, nat_eq, nat_lt, refl, sym, ap, subst, ◌∙◌, inl, inr, true≢false, arith, length-take-le, suc, zero}
use Rattle.std.specs.Cmp.{IsEquivalence, and_equiv, nat_eq_equiv, on_equiv}
use Rattle.std.specs.Cmp.Lexicographic.{lists_equiv, nat_list_eq_equiv, same_text}
use Rattle.std.specs.List.{find, list_any, range_with_len, AllByRecursion, IsDistinct}
use Rattle.std.specs.Option.{option_map, option_or}
use Rattle.std.proofs.lemmas.List.Folds.{list_any-append}
use Rattle.std.proofs.lemmas.Bool.{and_from, and_parts, cases_Bool, eq-eqb, eqb-true, lt-ltb, ltb-true, ne_eqb, or_parts}
use Rattle.std.proofs.Math.Bool.{or_comm}
use Rattle.std.proofs.lemmas.List.{take_all}
use Rattle.std.proofs.lemmas.Map.Keys.{IsDistinct-cons, IsDistinct-head, IsDistinct-push, IsDistinct-tail}
use Rattle.pol_types.specs.Exact.{pointwise_exact}
use Rattle.pol_names.specs.Namespace.{parent_of}
use Rattle.pol_tables.specs.Table.{has_id, knows, row_of, rows_with, rows_without, IdsDiffer}
use Rattle.pol_locations.specs.LocationSet.{is_clash}
use Rattle.pol_locations.specs.Location.{is_cover, is_overlap}
use Rattle.pol_tables.proofs.ListLemmas.{and_true, each-all, each-filter, each-join, each-map, each-push, each-weaken}
use Rattle.pol_tables.proofs.NamedLemmas.{each-own}
use Rattle.pol_tables.proofs.NumberedLemmas.{AreNumbered-filter, AreNumbered-map, AreNumbered-more, AreNumbered-push, below-next}
use Rattle.pol_tables.proofs.RisingLemmas.{IdsDiffer-rising, knows-below}
use Rattle.pol_tables.proofs.TableLemmas.{differ_past, is_some-row_of, lacks_past, map-lacks, replaced, rows_with-known, some_is}
use Rattle.pol_table_rows.specs.Sound.{IsSoundTable, LocationsApart}
use Rattle.pol_table_rows.specs.Tables.{TableNamesDiffer, holds_table, is_table_named, member_of, overlapping, table_id, table_named}
use Rattle.pol_table_rows.specs.declared.row.TableRow.{TableRow}
use Rattle.pol_view_rows.specs.Views.{holds_view, is_view_named, view_id, view_named}
use Rattle.pol_view_rows.specs.declared.row.ViewRow.{ViewRow}
use Rattle.pol_content.specs.Content.{catalog_id, first_missing, is_catalog_named, is_missing, is_namespace_named, ContentRows, lies_below, namespace_id, none_below, same_levels, catalog_is_empty, catalog_named, is_empty, namespace_named, part_named}
use Rattle.pol_content.specs.Sound.{is_taken, AreSoundTables, AreSoundViews, HasParent, IsParentThere, IsSoundContent}
use Rattle.pol_content.specs.declared.rows.CatalogRow.{CatalogRow}
use Rattle.pol_content.specs.declared.rows.NamespaceRow.{NamespaceRow}
use Rattle.pol_access.proofs.KeptLemmas.{any-push, any-kept, any-fewer, knows-push, not-true, map-each, goes-last, distinct-kept}

module _ {X : Type 0} (test : X → Bool) where
  -- where none is found, no item passes
  pub none-found : (xs : List X) → find test xs ≡ None → list_any test xs ≡ false
  none-found [] none = refl
  none-found (x ∷ xs) none = elim (cases_Bool (test x)) [
    | inl passes ↦ let contrary : Some x ≡ None = sym (ap (λ b. cond b (Some x) (find test xs)) passes) ∙ none in cc
    | inr fails ↦ ap (λ b. b || list_any test xs) fails ∙ none-found xs (sym (ap (λ b. cond b (Some x) (find test xs)) fails) ∙ none)
  ]

  -- where no item passes, each fails
  pub each-fails : (xs : List X) → list_any test xs ≡ false → AllByRecursion (λ x. test x ≡ false) xs
  each-fails [] none = tt
  each-fails (x ∷ xs) none = elim (cases_Bool (test x)) [
    | inl passes ↦ absurd (true≢false (sym (ap (λ b. b || list_any test xs) passes) ∙ none))
    | inr fails ↦ (fails, each-fails xs (sym (ap (λ b. b || list_any test xs) fails) ∙ none))
  ]

module _ {X : Type 0} (equal : X → X → Bool) where
  pub distinct-map : (alter : X → X) → ((left right : X) → equal (alter left) (alter right) ≡ equal left right) → (xs : List X) → IsDistinct equal xs → IsDistinct equal (map alter xs)
  distinct-map alter alike [] differ = differ
  distinct-map alter alike (x ∷ xs) differ =
      IsDistinct-cons equal (alter x) (map alter xs) (each-map (λ other. equal (alter x) other ≡ false) alter xs (each-weaken (λ other. equal x other ≡ false) (λ other. equal (alter x) (alter other) ≡ false) xs (λ other apart. alike x other ∙ apart) (IsDistinct-head equal x xs differ))) (distinct-map alter alike xs (IsDistinct-tail equal x xs differ))

  -- one more that is like none may be pushed, where likeness goes both ways
  distinct-push : ((left right : X) → equal left right ≡ equal right left) → (xs : List X) (x : X) → IsDistinct equal xs → list_any (equal x) xs ≡ false → IsDistinct equal (xs ++ x ∷ [])
  distinct-push symmetric [] x differ none = IsDistinct-cons equal x [] tt differ
  distinct-push symmetric (y ∷ ys) x differ none =
      let parts = or_parts (equal x y) (list_any (equal x) ys) none in
      IsDistinct-cons equal y (ys ++ x ∷ []) (each-push (λ other. equal y other ≡ false) ys x (IsDistinct-head equal y ys differ) (symmetric y x ∙ parts.0)) (distinct-push symmetric ys x (IsDistinct-tail equal y ys differ) parts.1)

abbrev same_catalog : CatalogRow → CatalogRow → Bool
same_catalog left right = is_catalog_named left.name right

abbrev same_namespace : NamespaceRow → NamespaceRow → Bool
same_namespace left right = is_namespace_named left.catalog left.levels right

same_catalog-equiv : IsEquivalence same_catalog
same_catalog-equiv = on_equiv (λ row. row.name) nat_list_eq_equiv

same_namespace-equiv : IsEquivalence same_namespace
same_namespace-equiv = and_equiv (on_equiv (λ row. row.catalog) nat_eq_equiv) (on_equiv (λ row. row.levels) (lists_equiv nat_list_eq_equiv))

abbrev same_table : TableRow → TableRow → Bool
same_table left right = is_table_named left.namespace left.name right

same_table-equiv : IsEquivalence same_table
same_table-equiv = and_equiv (on_equiv (λ row. row.namespace) nat_eq_equiv) (on_equiv (λ row. row.name) nat_list_eq_equiv)

overlap-symmetric : (a b : List (List ℕ)) → is_overlap a b ≡ is_overlap b a
overlap-symmetric a b = or_comm (is_cover a b) (is_cover b a)

abbrev overlap_rows : TableRow → TableRow → Bool
overlap_rows left right = is_overlap left.location right.location

module _ {X : Type 0} (test : X → Bool) where
  any-alike : (alter : X → X) → ((x : X) → test (alter x) ≡ test x) → (xs : List X) → list_any test (map alter xs) ≡ list_any test xs
  any-alike alter alike [] = refl
  any-alike alter alike (x ∷ xs) = λ i. alike x i || any-alike alter alike xs i

-- a row of another id than one that goes stays
other-stays : {R : Type 0} (key : R → ℕ) (id gone : ℕ) → nat_eq id gone ≡ false → (row : R) → has_id key id row ≡ true → not (has_id key gone row) ≡ true
other-stays key id gone apart row has =
    ap not (nat_eq_equiv.symm gone (key row) ∙ ap (λ n. nat_eq n gone) (sym (eqb-true id (key row) has)) ∙ apart)

-- one more that fails a test leaves none that passes it
pub none-push : {X : Type 0} (test : X → Bool) (xs : List X) (x : X) → list_any test xs ≡ false → test x ≡ false → list_any test (xs ++ x ∷ []) ≡ false
none-push test xs x none fails = list_any-append test xs (x ∷ []) ∙ (λ i. none i || (fails i || false))

-- a table has the name of a view exactly where the view has that of the table
pub name-swap : (row : TableRow) (view : ViewRow) → is_table_named view.namespace view.name row ≡ is_view_named row.namespace row.name view
name-swap row view = λ i. nat_eq_equiv.symm view.namespace row.namespace i && nat_list_eq_equiv.symm view.name row.name i

-- where no table and no view of a namespace has a name, neither is found by it
pub part-free : (namespace : ℕ) (name : List ℕ) (content : ContentRows) → part_named namespace name content ≡ None → (table_named namespace name content.tables ≡ None) × (view_named namespace name content.views ≡ None)
part-free namespace name content free = by (table_named namespace name content.tables) (view_named namespace name content.views) free
  where
    by : (table : Option TableRow) (view : Option ViewRow) → option_or (option_map table_id table) (option_map view_id view) ≡ None → (table ≡ None) × (view ≡ None)
    by None None none = (refl, refl)
    by (Some row) view none = let contrary : Some row.id ≡ None = none in cc
    by None (Some row) none = let contrary : Some row.id ≡ None = none in cc

-- tables stay sound where more ids are given out, none of theirs is taken, and each one's namespace is there
module _ (low high : ℕ) (content : ContentRows) (catalogs : List CatalogRow) (namespaces : List NamespaceRow) (views : List ViewRow) where
  abbrev is_held : ℕ → Bool
  is_held id = knows catalog_id id content.catalogs || knows namespace_id id content.namespaces

  abbrev is_held_after : ℕ → Bool
  is_held_after id = knows catalog_id id catalogs || knows namespace_id id namespaces

  pub tables_kept : low ≤ high → ((id : ℕ) → id < low → is_held id ≡ false → is_held_after id ≡ false)
      → AllByRecursion (λ row. knows namespace_id row.namespace content.namespaces ≡ true → knows namespace_id row.namespace namespaces ≡ true) content.tables
      → AreSoundTables low content → AreSoundTables high (record { catalogs = catalogs; namespaces = namespaces; tables = content.tables; views = views })
  tables_kept within apart there sound = record {
    numbered = AreNumbered-more table_id low high within content.tables sound.numbered;
    ids_differ = each-join (λ row. table_id row < low) (λ row. is_held row.id ≡ false) (λ row. is_held_after row.id ≡ false) content.tables (λ row under none. apart row.id under none) (below-next table_id low content.tables sound.numbered) sound.ids_differ;
    names_differ = sound.names_differ;
    namespaces = each-join (λ row. knows namespace_id row.namespace content.namespaces ≡ true → knows namespace_id row.namespace namespaces ≡ true) (λ row. knows namespace_id row.namespace content.namespaces ≡ true) (λ row. knows namespace_id row.namespace namespaces ≡ true) content.tables (λ row stays known. stays known) there sound.namespaces;
    apart = sound.apart;
    each = sound.each;
  }

-- and so do views, where besides no table has the name of one
module _ (low high : ℕ) (content : ContentRows) (catalogs : List CatalogRow) (namespaces : List NamespaceRow) (tables : List TableRow) where
  abbrev others : ContentRows
  others = record { catalogs = catalogs; namespaces = namespaces; tables = tables; views = content.views }

  pub views_kept : low ≤ high → ((id : ℕ) → id < low → is_taken id content ≡ false → is_taken id others ≡ false)
      → AllByRecursion (λ row. knows namespace_id row.namespace content.namespaces ≡ true → knows namespace_id row.namespace namespaces ≡ true) content.views
      → AllByRecursion (λ row. list_any (is_table_named row.namespace row.name) tables ≡ false) content.views
      → AreSoundViews low content → AreSoundViews high others
  views_kept within apart there names sound = record {
    numbered = AreNumbered-more view_id low high within content.views sound.numbered;
    ids_differ = each-join (λ row. view_id row < low) (λ row. is_taken row.id content ≡ false) (λ row. is_taken row.id others ≡ false) content.views (λ row under none. apart row.id under none) (below-next view_id low content.views sound.numbered) sound.ids_differ;
    names_differ = sound.names_differ;
    names_apart = names;
    namespaces = each-join (λ row. knows namespace_id row.namespace content.namespaces ≡ true → knows namespace_id row.namespace namespaces ≡ true) (λ row. knows namespace_id row.namespace content.namespaces ≡ true) (λ row. knows namespace_id row.namespace namespaces ≡ true) content.views (λ row stays known. stays known) there sound.namespaces;
    each = sound.each;
  }

-- an id that no catalogue and no namespace has from now on, and no table as before
untaken-more : (low : ℕ) (content : ContentRows) (catalogs : List CatalogRow) (namespaces : List NamespaceRow)
    → ((id : ℕ) → id < low → (knows catalog_id id content.catalogs || knows namespace_id id content.namespaces) ≡ false → (knows catalog_id id catalogs || knows namespace_id id namespaces) ≡ false)
    → (id : ℕ) → id < low → is_taken id content ≡ false → is_taken id (record content { catalogs = catalogs; namespaces = namespaces }) ≡ false
untaken-more low content catalogs namespaces so id under none =
    let parts = or_parts (knows catalog_id id content.catalogs || knows namespace_id id content.namespaces) (knows table_id id content.tables) none in
    λ i. so id under parts.0 i || parts.1 i

-- rows stay sound where more ids are given out
pub more_ids : (low high : ℕ) (content : ContentRows) → low ≤ high → IsSoundContent low content → IsSoundContent high content
more_ids low high content within sound = record {
  catalogs = AreNumbered-more catalog_id low high within content.catalogs sound.catalogs;
  namespaces = AreNumbered-more namespace_id low high within content.namespaces sound.namespaces;
  ids_differ = sound.ids_differ;
  catalog_names_differ = sound.catalog_names_differ;
  namespace_names_differ = sound.namespace_names_differ;
  namespace_catalogs = sound.namespace_catalogs;
  namespace_parents = sound.namespace_parents;
  tables = record {
    numbered = AreNumbered-more table_id low high within content.tables sound.tables.numbered;
    ids_differ = sound.tables.ids_differ;
    names_differ = sound.tables.names_differ;
    namespaces = sound.tables.namespaces;
    apart = sound.tables.apart;
    each = sound.tables.each;
  };
  views = record {
    numbered = AreNumbered-more view_id low high within content.views sound.views.numbered;
    ids_differ = sound.views.ids_differ;
    names_differ = sound.views.names_differ;
    names_apart = sound.views.names_apart;
    namespaces = sound.views.namespaces;
    each = sound.views.each;
  };
}

one_more : (n : ℕ) → n ≤ n + 1
one_more n = omega arith

-- a catalogue with the next id and a new name may be pushed
pub pushed_catalog : (next_id : ℕ) (content : ContentRows) (row : CatalogRow) → IsSoundContent next_id content → 1 ≤ next_id → row.id ≡ next_id
    → catalog_named row.name content ≡ None
    → IsSoundContent (next_id + 1) (record content { catalogs = content.catalogs ++ row ∷ [] })
pushed_catalog next_id content row sound first is new = record {
  catalogs = AreNumbered-push catalog_id next_id row content.catalogs first is sound.catalogs;
  namespaces = AreNumbered-more namespace_id next_id (next_id + 1) (one_more next_id) content.namespaces sound.namespaces;
  ids_differ = each-join (λ kept. namespace_id kept < next_id) (λ kept. knows catalog_id kept.id content.catalogs ≡ false) (λ kept. knows catalog_id kept.id (content.catalogs ++ row ∷ []) ≡ false) content.namespaces (λ kept under unknown. knows-push catalog_id kept.id row content.catalogs ∙ (λ i. unknown i || apart kept under i)) (below-next namespace_id next_id content.namespaces sound.namespaces) sound.ids_differ;
  catalog_names_differ = IsDistinct-push same_catalog-equiv content.catalogs row sound.catalog_names_differ (none-found (is_catalog_named row.name) content.catalogs new);
  namespace_names_differ = sound.namespace_names_differ;
  namespace_catalogs = each-weaken (λ kept. knows catalog_id kept.catalog content.catalogs ≡ true) (λ kept. knows catalog_id kept.catalog (content.catalogs ++ row ∷ []) ≡ true) content.namespaces (λ kept there. any-push (has_id catalog_id kept.catalog) content.catalogs row there) sound.namespace_catalogs;
  namespace_parents = sound.namespace_parents;
  tables = tables_kept next_id (next_id + 1) content (content.catalogs ++ row ∷ []) content.namespaces content.views (one_more next_id) untaken (each-all (λ kept. knows namespace_id kept.namespace content.namespaces ≡ true → knows namespace_id kept.namespace content.namespaces ≡ true) content.tables (λ kept known. known)) sound.tables;
  views = views_kept next_id (next_id + 1) content (content.catalogs ++ row ∷ []) content.namespaces content.tables (one_more next_id) (untaken-more next_id content (content.catalogs ++ row ∷ []) content.namespaces untaken) (each-all (λ kept. knows namespace_id kept.namespace content.namespaces ≡ true → knows namespace_id kept.namespace content.namespaces ≡ true) content.views (λ kept known. known)) sound.views.names_apart sound.views;
}
  where
    apart : (kept : NamespaceRow) → namespace_id kept < next_id → has_id catalog_id kept.id row ≡ false
    apart kept under = ne_eqb kept.id row.id (λ same. omega (arith, under, is, same))

    untaken : (id : ℕ) → id < next_id → (knows catalog_id id content.catalogs || knows namespace_id id content.namespaces) ≡ false → (knows catalog_id id (content.catalogs ++ row ∷ []) || knows namespace_id id content.namespaces) ≡ false
    untaken id under none =
        let parts = or_parts (knows catalog_id id content.catalogs) (knows namespace_id id content.namespaces) none in
        let new : has_id catalog_id id row ≡ false = ne_eqb id row.id (λ same. omega (arith, under, is, same)) in
        λ i. (knows-push catalog_id id row content.catalogs ∙ (λ j. parts.0 j || new j)) i || parts.1 i

parent-push : (row : NamespaceRow) (rows : List NamespaceRow) (catalog : ℕ) (parent : Option (List (List ℕ))) → IsParentThere rows catalog parent → IsParentThere (rows ++ row ∷ []) catalog parent
parent-push row rows catalog None there = tt
parent-push row rows catalog (Some parent) there = any-push (is_namespace_named catalog parent) rows row there

-- a namespace with the next id, new levels, a catalogue and a parent may be pushed
pub pushed_namespace : (next_id : ℕ) (content : ContentRows) (row : NamespaceRow) → IsSoundContent next_id content → 1 ≤ next_id → row.id ≡ next_id
    → knows catalog_id row.catalog content.catalogs ≡ true → HasParent content.namespaces row
    → namespace_named row.catalog row.levels content ≡ None
    → IsSoundContent (next_id + 1) (record content { namespaces = content.namespaces ++ row ∷ [] })
pushed_namespace next_id content row sound first is there parent new = record {
  catalogs = AreNumbered-more catalog_id next_id (next_id + 1) (one_more next_id) content.catalogs sound.catalogs;
  namespaces = AreNumbered-push namespace_id next_id row content.namespaces first is sound.namespaces;
  ids_differ = each-push (λ kept. knows catalog_id kept.id content.catalogs ≡ false) content.namespaces row sound.ids_differ (ap (λ id. knows catalog_id id content.catalogs) is ∙ knows-below catalog_id next_id content.catalogs (below-next catalog_id next_id content.catalogs sound.catalogs));
  catalog_names_differ = sound.catalog_names_differ;
  namespace_names_differ = IsDistinct-push same_namespace-equiv content.namespaces row sound.namespace_names_differ (none-found (is_namespace_named row.catalog row.levels) content.namespaces new);
  namespace_catalogs = each-push (λ kept. knows catalog_id kept.catalog content.catalogs ≡ true) content.namespaces row sound.namespace_catalogs there;
  namespace_parents = each-push (HasParent (content.namespaces ++ row ∷ [])) content.namespaces row (each-weaken (HasParent content.namespaces) (HasParent (content.namespaces ++ row ∷ [])) content.namespaces (λ kept. parent-push row content.namespaces kept.catalog (parent_of kept.levels)) sound.namespace_parents) (parent-push row content.namespaces row.catalog (parent_of row.levels) parent);
  tables = tables_kept next_id (next_id + 1) content content.catalogs (content.namespaces ++ row ∷ []) content.views (one_more next_id) untaken (each-all (λ kept. knows namespace_id kept.namespace content.namespaces ≡ true → knows namespace_id kept.namespace (content.namespaces ++ row ∷ []) ≡ true) content.tables (λ kept known. any-push (has_id namespace_id kept.namespace) content.namespaces row known)) sound.tables;
  views = views_kept next_id (next_id + 1) content content.catalogs (content.namespaces ++ row ∷ []) content.tables (one_more next_id) (untaken-more next_id content content.catalogs (content.namespaces ++ row ∷ []) untaken) (each-all (λ kept. knows namespace_id kept.namespace content.namespaces ≡ true → knows namespace_id kept.namespace (content.namespaces ++ row ∷ []) ≡ true) content.views (λ kept known. any-push (has_id namespace_id kept.namespace) content.namespaces row known)) sound.views.names_apart sound.views;
}
  where
    untaken : (id : ℕ) → id < next_id → (knows catalog_id id content.catalogs || knows namespace_id id content.namespaces) ≡ false → (knows catalog_id id content.catalogs || knows namespace_id id (content.namespaces ++ row ∷ [])) ≡ false
    untaken id under none =
        let parts = or_parts (knows catalog_id id content.catalogs) (knows namespace_id id content.namespaces) none in
        let fresh : has_id namespace_id id row ≡ false = ne_eqb id row.id (λ same. omega (arith, under, is, same)) in
        λ i. parts.0 i || (knows-push namespace_id id row content.namespaces ∙ (λ j. parts.1 j || fresh j)) i

-- a table with the next id and a new name may be pushed into a namespace that is there, where no table overlaps it
pub pushed_table : (next_id : ℕ) (content : ContentRows) (row : TableRow) → IsSoundContent next_id content → 1 ≤ next_id → row.id ≡ next_id
    → knows namespace_id row.namespace content.namespaces ≡ true → part_named row.namespace row.name content ≡ None
    → overlapping row.location [] content.tables ≡ None → IsSoundTable row
    → IsSoundContent (next_id + 1) (record content { tables = content.tables ++ row ∷ [] })
pushed_table next_id content row sound first is there new free itself = record {
  catalogs = AreNumbered-more catalog_id next_id (next_id + 1) (one_more next_id) content.catalogs sound.catalogs;
  namespaces = AreNumbered-more namespace_id next_id (next_id + 1) (one_more next_id) content.namespaces sound.namespaces;
  ids_differ = sound.ids_differ;
  catalog_names_differ = sound.catalog_names_differ;
  namespace_names_differ = sound.namespace_names_differ;
  namespace_catalogs = sound.namespace_catalogs;
  namespace_parents = sound.namespace_parents;
  tables = record {
    numbered = AreNumbered-push table_id next_id row content.tables first is sound.tables.numbered;
    ids_differ = each-push (λ kept. (knows catalog_id kept.id content.catalogs || knows namespace_id kept.id content.namespaces) ≡ false) content.tables row sound.tables.ids_differ untaken;
    names_differ = IsDistinct-push same_table-equiv content.tables row sound.tables.names_differ (none-found (is_table_named row.namespace row.name) content.tables (part-free row.namespace row.name content new).0);
    namespaces = each-push (λ kept. knows namespace_id kept.namespace content.namespaces ≡ true) content.tables row sound.tables.namespaces there;
    apart = distinct-push overlap_rows (λ left right. overlap-symmetric left.location right.location) content.tables row sound.tables.apart (none-overlaps content.tables (none-found (λ kept. is_clash row.location [] (member_of kept)) content.tables free));
    each = each-push IsSoundTable content.tables row sound.tables.each itself;
  };
  views = views_kept next_id (next_id + 1) content content.catalogs content.namespaces (content.tables ++ row ∷ []) (one_more next_id) views-untaken (each-all (λ kept. knows namespace_id kept.namespace content.namespaces ≡ true → knows namespace_id kept.namespace content.namespaces ≡ true) content.views (λ kept known. known)) views-apart sound.views;
}
  where
    views-untaken : (id : ℕ) → id < next_id → is_taken id content ≡ false → is_taken id (record content { tables = content.tables ++ row ∷ [] }) ≡ false
    views-untaken id under none =
        let parts = or_parts (knows catalog_id id content.catalogs || knows namespace_id id content.namespaces) (knows table_id id content.tables) none in
        let fresh : has_id table_id id row ≡ false = ne_eqb id row.id (λ same. omega (arith, under, is, same)) in
        λ i. parts.0 i || (knows-push table_id id row content.tables ∙ (λ j. parts.1 j || fresh j)) i

    views-apart : AllByRecursion (λ kept. list_any (is_table_named kept.namespace kept.name) (content.tables ++ row ∷ []) ≡ false) content.views
    views-apart =
        each-join (λ kept. list_any (is_table_named kept.namespace kept.name) content.tables ≡ false) (λ kept. is_view_named row.namespace row.name kept ≡ false) (λ kept. list_any (is_table_named kept.namespace kept.name) (content.tables ++ row ∷ []) ≡ false) content.views (λ kept none other. none-push (is_table_named kept.namespace kept.name) content.tables row none (name-swap row kept ∙ other)) sound.views.names_apart (each-fails (is_view_named row.namespace row.name) content.views (none-found (is_view_named row.namespace row.name) content.views (part-free row.namespace row.name content new).1))

    untaken : (knows catalog_id row.id content.catalogs || knows namespace_id row.id content.namespaces) ≡ false
    untaken =
        let catalogs : knows catalog_id row.id content.catalogs ≡ false = ap (λ id. knows catalog_id id content.catalogs) is ∙ knows-below catalog_id next_id content.catalogs (below-next catalog_id next_id content.catalogs sound.catalogs) in
        let namespaces : knows namespace_id row.id content.namespaces ≡ false = ap (λ id. knows namespace_id id content.namespaces) is ∙ knows-below namespace_id next_id content.namespaces (below-next namespace_id next_id content.namespaces sound.namespaces) in
        λ i. catalogs i || namespaces i

    -- with no id left out a clash is an overlap
    none-overlaps : (rows : List TableRow) → list_any (λ kept. is_clash row.location [] (member_of kept)) rows ≡ false → list_any (overlap_rows row) rows ≡ false
    none-overlaps [] none = refl
    none-overlaps (kept ∷ rows) none =
        let parts = or_parts (is_clash row.location [] (member_of kept)) (list_any (λ one. is_clash row.location [] (member_of one)) rows) none in
        let clear : overlap_rows row kept ≡ false = overlap-symmetric row.location kept.location ∙ sym (and_true (is_overlap kept.location row.location)) ∙ parts.0 in
        λ i. clear i || none-overlaps rows parts.1 i

parent-map : (alter : NamespaceRow → NamespaceRow) → ((row : NamespaceRow) → (alter row).catalog ≡ row.catalog) → ((row : NamespaceRow) → (alter row).levels ≡ row.levels) → (rows : List NamespaceRow) (catalog : ℕ) (parent : Option (List (List ℕ))) → IsParentThere rows catalog parent → IsParentThere (map alter rows) catalog parent
parent-map alter catalogs levels rows catalog None there = tt
parent-map alter catalogs levels rows catalog (Some parent) there =
    any-alike (is_namespace_named catalog parent) alter (λ row i. nat_eq catalog (catalogs row i) && same_levels parent (levels row i)) rows ∙ there

-- namespaces may be altered where they keep their ids, catalogues and levels
pub altered_namespaces : (next_id : ℕ) (content : ContentRows) (alter : NamespaceRow → NamespaceRow) → ((row : NamespaceRow) → (alter row).id ≡ row.id) → ((row : NamespaceRow) → (alter row).catalog ≡ row.catalog) → ((row : NamespaceRow) → (alter row).levels ≡ row.levels)
    → IsSoundContent next_id content → IsSoundContent next_id (record content { namespaces = map alter content.namespaces })
altered_namespaces next_id content alter ids catalogs levels sound = record {
  catalogs = sound.catalogs;
  namespaces = AreNumbered-map namespace_id next_id alter ids content.namespaces sound.namespaces;
  ids_differ = each-map (λ kept. knows catalog_id kept.id content.catalogs ≡ false) alter content.namespaces (each-weaken (λ kept. knows catalog_id kept.id content.catalogs ≡ false) (λ kept. knows catalog_id (alter kept).id content.catalogs ≡ false) content.namespaces (λ kept unknown. ap (λ id. knows catalog_id id content.catalogs) (ids kept) ∙ unknown) sound.ids_differ);
  catalog_names_differ = sound.catalog_names_differ;
  namespace_names_differ = distinct-map same_namespace alter (λ left right i. nat_eq (catalogs left i) (catalogs right i) && same_levels (levels left i) (levels right i)) content.namespaces sound.namespace_names_differ;
  namespace_catalogs = each-map (λ kept. knows catalog_id kept.catalog content.catalogs ≡ true) alter content.namespaces (each-weaken (λ kept. knows catalog_id kept.catalog content.catalogs ≡ true) (λ kept. knows catalog_id (alter kept).catalog content.catalogs ≡ true) content.namespaces (λ kept there. ap (λ id. knows catalog_id id content.catalogs) (catalogs kept) ∙ there) sound.namespace_catalogs);
  namespace_parents = each-map (HasParent (map alter content.namespaces)) alter content.namespaces (each-weaken (HasParent content.namespaces) (λ kept. HasParent (map alter content.namespaces) (alter kept)) content.namespaces parent sound.namespace_parents);
  tables = tables_kept next_id next_id content content.catalogs (map alter content.namespaces) content.views (omega arith) untaken (each-all (λ kept. knows namespace_id kept.namespace content.namespaces ≡ true → knows namespace_id kept.namespace (map alter content.namespaces) ≡ true) content.tables (λ kept known. known-alike kept.namespace ∙ known)) sound.tables;
  views = views_kept next_id next_id content content.catalogs (map alter content.namespaces) content.tables (omega arith) (untaken-more next_id content content.catalogs (map alter content.namespaces) untaken) (each-all (λ kept. knows namespace_id kept.namespace content.namespaces ≡ true → knows namespace_id kept.namespace (map alter content.namespaces) ≡ true) content.views (λ kept known. known-alike kept.namespace ∙ known)) sound.views.names_apart sound.views;
}
  where
    known-alike : (id : ℕ) → knows namespace_id id (map alter content.namespaces) ≡ knows namespace_id id content.namespaces
    known-alike id = any-alike (has_id namespace_id id) alter (λ row i. nat_eq id (ids row i)) content.namespaces

    untaken : (id : ℕ) → id < next_id → (knows catalog_id id content.catalogs || knows namespace_id id content.namespaces) ≡ false → (knows catalog_id id content.catalogs || knows namespace_id id (map alter content.namespaces)) ≡ false
    untaken id under none = (λ i. knows catalog_id id content.catalogs || known-alike id i) ∙ none

    parent : (kept : NamespaceRow) → HasParent content.namespaces kept → HasParent (map alter content.namespaces) (alter kept)
    parent kept there =
        subst (λ catalog. IsParentThere (map alter content.namespaces) catalog (parent_of (alter kept).levels)) (sym (catalogs kept)) (subst (λ names. IsParentThere (map alter content.namespaces) kept.catalog (parent_of names)) (sym (levels kept)) (parent-map alter catalogs levels content.namespaces kept.catalog (parent_of kept.levels) there))

-- a row of the id, catalogue and levels of one that is there differs from it in its properties alone, so to put it is
-- to alter the properties under its id
module _ (row : NamespaceRow) where
  abbrev with_properties : Bool → NamespaceRow → NamespaceRow
  with_properties has kept = record {
    id = kept.id;
    catalog = kept.catalog;
    levels = kept.levels;
    properties = cond has row.properties kept.properties;
  }

  abbrev alter_one : NamespaceRow → NamespaceRow
  alter_one kept = with_properties (has_id namespace_id row.id kept) kept

  is_altered : (old : NamespaceRow) (rows : List NamespaceRow) → row_of namespace_id row.id rows ≡ Some old → row.catalog ≡ old.catalog → row.levels ≡ old.levels
      → (kept : NamespaceRow) → row_of namespace_id kept.id rows ≡ Some kept → (has : Bool) → has_id namespace_id row.id kept ≡ has → cond has row kept ≡ with_properties has kept
  is_altered old rows found catalogs levels kept own false apart = refl
  is_altered old rows found catalogs levels kept own true has =
      let ids = eqb-true row.id kept.id has in
      let is : old ≡ kept = some_is old kept (sym found ∙ ap (λ id. row_of namespace_id id rows) ids ∙ own) in
      λ i. record {
        id = ids i;
        catalog = (catalogs ∙ ap (λ kept. kept.catalog) is) i;
        levels = (levels ∙ ap (λ kept. kept.levels) is) i;
        properties = row.properties;
      }

-- one namespace may be replaced by a row of its id, catalogue and levels
pub replaced_namespace : (next_id : ℕ) (content : ContentRows) (old row : NamespaceRow) → IsSoundContent next_id content → row_of namespace_id row.id content.namespaces ≡ Some old
    → row.catalog ≡ old.catalog → row.levels ≡ old.levels
    → IsSoundContent next_id (record content { namespaces = rows_with namespace_id row content.namespaces })
replaced_namespace next_id content old row sound found catalogs levels =
    let rows = content.namespaces in
    let known : knows namespace_id row.id rows ≡ true = sym (is_some-row_of namespace_id row.id rows) ∙ ap is_some found in
    let owns = each-own namespace_id rows (IdsDiffer-rising namespace_id rows sound.namespaces.rise) in
    let alike = map-each (λ kept. cond (has_id namespace_id row.id kept) row kept) (alter_one row) rows (each-weaken (λ kept. row_of namespace_id kept.id rows ≡ Some kept) (λ kept. cond (has_id namespace_id row.id kept) row kept ≡ alter_one row kept) rows (λ kept own. is_altered row old rows found catalogs levels kept own (has_id namespace_id row.id kept) refl) owns) in
    subst (λ after. IsSoundContent next_id (record content { namespaces = after })) (sym (rows_with-known namespace_id row rows known ∙ alike)) (altered_namespaces next_id content (alter_one row) (λ kept. refl) (λ kept. refl) (λ kept. refl) sound)

-- a row with the next id goes last
pub new_rows_last : (next_id : ℕ) (content : ContentRows) → IsSoundContent next_id content
    → ((row : CatalogRow) → row.id ≡ next_id → rows_with catalog_id row content.catalogs ≡ content.catalogs ++ row ∷ [])
    × ((row : NamespaceRow) → row.id ≡ next_id → rows_with namespace_id row content.namespaces ≡ content.namespaces ++ row ∷ [])
    × ((row : TableRow) → row.id ≡ next_id → rows_with table_id row content.tables ≡ content.tables ++ row ∷ [])
    × ((row : ViewRow) → row.id ≡ next_id → rows_with view_id row content.views ≡ content.views ++ row ∷ [])
new_rows_last next_id content sound = (
  goes-last catalog_id next_id content.catalogs sound.catalogs,
  goes-last namespace_id next_id content.namespaces sound.namespaces,
  goes-last table_id next_id content.tables sound.tables.numbered,
  goes-last view_id next_id content.views sound.views.numbered,
)

-- where none is found along a row of numbers, the last fails the test
last-fails : {X : Type 0} (test : X → Bool) (at : ℕ → X) (many first : ℕ) → find test (map at (range_with_len first (suc many))) ≡ None → test (at (first + many)) ≡ false
last-fails test at zero first none = elim (cases_Bool (test (at first))) [
  | inl passes ↦ let contrary : Some (at first) ≡ None = sym (ap (λ b. cond b (Some (at first)) None) passes) ∙ none in cc
  | inr fails ↦ ap (λ n. test (at n)) (omega arith) ∙ fails
]
last-fails test at (suc many) first none = elim (cases_Bool (test (at first))) [
  | inl passes ↦
      let contrary : Some (at first) ≡ None = sym (ap (λ b. cond b (Some (at first)) (find test (map at (range_with_len (first + 1) (suc many))))) passes) ∙ none in cc
  | inr fails ↦
      ap (λ n. test (at n)) (omega arith) ∙ last-fails test at many (first + 1) (sym (ap (λ b. cond b (Some (at first)) (find test (map at (range_with_len (first + 1) (suc many))))) fails) ∙ none)
]

any-found : {X : Type 0} (test : X → Bool) (xs : List X) → is_none (find test xs) ≡ false → list_any test xs ≡ true
any-found test [] some = sym some
any-found test (x ∷ xs) some = elim (cases_Bool (test x)) [
  | inl passes ↦ ap (λ b. b || list_any test xs) passes
  | inr fails ↦
      ap (λ b. b || list_any test xs) fails ∙ any-found test xs (sym (ap (λ b. is_none (cond b (Some x) (find test xs))) fails) ∙ some)
]

-- a parent has all levels but the last, and there are at least two
pub record Front (levels parent : List (List ℕ)) : Type 0 where
  pub deep : 1 < length levels
  pub levels_is : parent ≡ take (length levels - 1) levels
  pub size : length parent ≡ length levels - 1

pub parent_front : (levels parent : List (List ℕ)) → parent_of levels ≡ Some parent → Front levels parent
parent_front levels parent is = elim (cases_Bool (nat_lt 1 (length levels))) [
  | inr single ↦ let contrary : None ≡ Some parent = sym (ap (λ b. cond b (Some (take (length levels - 1) levels)) None) single) ∙ is in cc
  | inl more ↦
      let above : 1 < length levels = ltb-true 1 (length levels) more in
      let front : parent ≡ take (length levels - 1) levels = some_is parent (take (length levels - 1) levels) (sym is ∙ ap (λ b. cond b (Some (take (length levels - 1) levels)) None) more) in
      record {
        deep = above;
        levels_is = front;
        size = ap length front ∙ length-take-le (length levels - 1) levels (omega arith);
      }
]

-- a path on which none is missing is there
path_there : (catalog : ℕ) (path : List (List ℕ)) (content : ContentRows) → 0 < length path → first_missing catalog path content ≡ None → list_any (is_namespace_named catalog path) content.namespaces ≡ true
path_there catalog path content filled none =
    let at : ℕ → List (List ℕ) = (λ depth. take depth path) in
    let size : length path ≡ suc (length path - 1) = omega (arith, filled) in
    let last = last-fails (is_missing catalog content) at (length path - 1) 1 (ap (λ n. find (is_missing catalog content) (map at (range_with_len 1 n))) (sym size) ∙ none) in
    let whole : take (1 + (length path - 1)) path ≡ path = take_all (1 + (length path - 1)) path (omega (arith, filled)) in
    any-found (is_namespace_named catalog path) content.namespaces (ap (is_missing catalog content) (sym whole) ∙ last)

-- a namespace has its parent where none is missing on the way to that one
pub whole_path : (content : ContentRows) (row : NamespaceRow) → ((parent : List (List ℕ)) → parent_of row.levels ≡ Some parent → first_missing row.catalog parent content ≡ None)
    → HasParent content.namespaces row
whole_path content row whole = by (parent_of row.levels) refl
  where
    by : (parent : Option (List (List ℕ))) → parent_of row.levels ≡ parent → IsParentThere content.namespaces row.catalog parent
    by None is = tt
    by (Some parent) is =
        let front = parent_front row.levels parent is in
        path_there row.catalog parent content (omega (arith, front.deep, front.size)) (whole parent is)

-- a catalogue without namespaces may be taken away
pub dropped_catalog : (next_id id : ℕ) (content : ContentRows) → IsSoundContent next_id content → catalog_is_empty id content ≡ true
    → IsSoundContent next_id (record content { catalogs = rows_without catalog_id id content.catalogs })
unfolding rows_without
dropped_catalog next_id id content sound empty = record {
  catalogs = AreNumbered-filter catalog_id next_id (λ row. not (has_id catalog_id id row)) content.catalogs sound.catalogs;
  namespaces = sound.namespaces;
  ids_differ = each-weaken (λ kept. knows catalog_id kept.id content.catalogs ≡ false) (λ kept. knows catalog_id kept.id (filter (λ row. not (has_id catalog_id id row)) content.catalogs) ≡ false) content.namespaces (λ kept unknown. any-fewer (has_id catalog_id kept.id) (λ row. not (has_id catalog_id id row)) content.catalogs unknown) sound.ids_differ;
  catalog_names_differ = distinct-kept same_catalog (λ row. not (has_id catalog_id id row)) content.catalogs sound.catalog_names_differ;
  namespace_names_differ = sound.namespace_names_differ;
  namespace_catalogs = each-join (λ kept. nat_eq kept.catalog id ≡ false) (λ kept. knows catalog_id kept.catalog content.catalogs ≡ true) (λ kept. knows catalog_id kept.catalog (filter (λ row. not (has_id catalog_id id row)) content.catalogs) ≡ true) content.namespaces (λ kept apart there. any-kept (has_id catalog_id kept.catalog) (λ row. not (has_id catalog_id id row)) content.catalogs (each-all (λ row. has_id catalog_id kept.catalog row ≡ true → not (has_id catalog_id id row) ≡ true) content.catalogs (other-stays catalog_id kept.catalog id apart)) there) (each-fails (λ row. nat_eq row.catalog id) content.namespaces (not-true (list_any (λ row. nat_eq row.catalog id) content.namespaces) empty)) sound.namespace_catalogs;
  namespace_parents = sound.namespace_parents;
  tables = tables_kept next_id next_id content (filter (λ row. not (has_id catalog_id id row)) content.catalogs) content.namespaces content.views (omega arith) untaken (each-all (λ kept. knows namespace_id kept.namespace content.namespaces ≡ true → knows namespace_id kept.namespace content.namespaces ≡ true) content.tables (λ kept known. known)) sound.tables;
  views = views_kept next_id next_id content (filter (λ row. not (has_id catalog_id id row)) content.catalogs) content.namespaces content.tables (omega arith) (untaken-more next_id content (filter (λ row. not (has_id catalog_id id row)) content.catalogs) content.namespaces untaken) (each-all (λ kept. knows namespace_id kept.namespace content.namespaces ≡ true → knows namespace_id kept.namespace content.namespaces ≡ true) content.views (λ kept known. known)) sound.views.names_apart sound.views;
}
  where
    untaken : (one : ℕ) → one < next_id → (knows catalog_id one content.catalogs || knows namespace_id one content.namespaces) ≡ false → (knows catalog_id one (filter (λ row. not (has_id catalog_id id row)) content.catalogs) || knows namespace_id one content.namespaces) ≡ false
    untaken one under none =
        let parts = or_parts (knows catalog_id one content.catalogs) (knows namespace_id one content.namespaces) none in
        λ i. any-fewer (has_id catalog_id one) (λ row. not (has_id catalog_id id row)) content.catalogs parts.0 i || parts.1 i

-- levels are more than their parent's, which they begin with
below_parent : (levels parent : List (List ℕ)) → parent_of levels ≡ Some parent → (nat_lt (length parent) (length levels) ≡ true) × (same_levels parent (take (length parent) levels) ≡ true)
below_parent levels parent is =
    let front = parent_front levels parent is in (
      lt-ltb (length parent) (length levels) (omega (arith, front.deep, front.size)),
      ap (same_levels parent) (ap (λ n. take n levels) front.size ∙ sym front.levels_is) ∙ (lists_equiv nat_list_eq_equiv).refl parent,
    )

-- a namespace whose parent is another one lies below it
lies_below-parent : (upper row : NamespaceRow) → parent_of row.levels ≡ Some upper.levels → upper.catalog ≡ row.catalog → lies_below upper row ≡ true
lies_below-parent upper row is same =
    let parts = below_parent row.levels upper.levels is in
    and_from (nat_eq row.catalog upper.catalog && nat_lt (length upper.levels) (length row.levels)) (same_levels upper.levels (take (length upper.levels) row.levels)) (and_from (nat_eq row.catalog upper.catalog) (nat_lt (length upper.levels) (length row.levels)) (eq-eqb row.catalog upper.catalog (sym same)) parts.0) parts.1

module _ (id : ℕ) (rows : List NamespaceRow) (differ : IdsDiffer namespace_id rows) where
  abbrev keep : NamespaceRow → Bool
  keep row = not (has_id namespace_id id row)

  -- the namespace of the id is the parent of none
  parent_stays : (kept : NamespaceRow) (parent : List (List ℕ)) → parent_of kept.levels ≡ Some parent → (upper : Option NamespaceRow) → row_of namespace_id id rows ≡ upper → none_below upper rows ≡ true
      → (none : (row : NamespaceRow) → upper ≡ Some row → lies_below row kept ≡ false)
      → (other : NamespaceRow) → row_of namespace_id other.id rows ≡ Some other → is_namespace_named kept.catalog parent other ≡ true → keep other ≡ true
  parent_stays kept parent is upper found empty none other own named = elim (cases_Bool (has_id namespace_id id other)) [
    | inr apart ↦ ap not apart
    | inl has ↦
        let there : upper ≡ Some other = sym found ∙ ap (λ n. row_of namespace_id n rows) (eqb-true id other.id has) ∙ own in
        let parts = and_parts (nat_eq kept.catalog other.catalog) (same_levels parent other.levels) named in
        let one = pointwise_exact (λ x y same. same_text x y (sym same)) parent other.levels parts.1 in
        absurd (true≢false (sym (lies_below-parent other kept (is ∙ ap Some one) (sym (eqb-true kept.catalog other.catalog parts.0))) ∙ none other there))
  ]

  parents_stay : none_below (row_of namespace_id id rows) rows ≡ true → (kept : NamespaceRow) → ((row : NamespaceRow) → row_of namespace_id id rows ≡ Some row → lies_below row kept ≡ false) → (parent : Option (List (List ℕ))) → parent_of kept.levels ≡ parent → IsParentThere rows kept.catalog parent → IsParentThere (filter keep rows) kept.catalog parent
  parents_stay empty kept none None is there = tt
  parents_stay empty kept none (Some parent) is there =
      any-kept (is_namespace_named kept.catalog parent) keep rows (each-weaken (λ other. row_of namespace_id other.id rows ≡ Some other) (λ other. is_namespace_named kept.catalog parent other ≡ true → keep other ≡ true) rows (λ other own named. parent_stays kept parent is (row_of namespace_id id rows) refl empty none other own named) (each-own namespace_id rows differ)) there

  -- no namespace lies below one that is empty
  none_lies_below : (upper : Option NamespaceRow) → none_below upper rows ≡ true → AllByRecursion (λ kept. (row : NamespaceRow) → upper ≡ Some row → lies_below row kept ≡ false) rows
  none_lies_below None empty = each-all (λ kept. (row : NamespaceRow) → None ≡ Some row → lies_below row kept ≡ false) rows (λ kept row is. cc)
  none_lies_below (Some upper) empty =
      each-weaken (λ kept. lies_below upper kept ≡ false) (λ kept. (row : NamespaceRow) → Some upper ≡ Some row → lies_below row kept ≡ false) rows (λ kept apart row is. ap (λ other. lies_below other kept) (sym (some_is upper row is)) ∙ apart) (each-fails (lies_below upper) rows (not-true (list_any (lies_below upper) rows) empty))

-- an empty namespace has none below it, no table and no view
pub no-parts : (id : ℕ) (content : ContentRows) → is_empty id content ≡ true
    → (none_below (row_of namespace_id id content.namespaces) content.namespaces ≡ true) × (holds_table id content.tables ≡ false) × (holds_view id content.views ≡ false)
no-parts id content empty =
    let below = none_below (row_of namespace_id id content.namespaces) content.namespaces in
    let last = and_parts (below && not (holds_table id content.tables)) (not (holds_view id content.views)) empty in
    let first = and_parts below (not (holds_table id content.tables)) last.0 in
    (first.0, not-true (holds_table id content.tables) first.1, not-true (holds_view id content.views) last.1)

-- a namespace without deeper ones, without tables and without views may be taken away
pub dropped_namespace : (next_id id : ℕ) (content : ContentRows) → IsSoundContent next_id content → is_empty id content ≡ true
    → IsSoundContent next_id (record content { namespaces = rows_without namespace_id id content.namespaces })
unfolding rows_without
dropped_namespace next_id id content sound empty =
    let differ = IdsDiffer-rising namespace_id content.namespaces sound.namespaces.rise in
    let upper = row_of namespace_id id content.namespaces in
    let parts = no-parts id content empty in
    record {
      catalogs = sound.catalogs;
      namespaces = AreNumbered-filter namespace_id next_id (λ row. not (has_id namespace_id id row)) content.namespaces sound.namespaces;
      ids_differ = each-filter (λ kept. knows catalog_id kept.id content.catalogs ≡ false) (λ row. not (has_id namespace_id id row)) content.namespaces sound.ids_differ;
      catalog_names_differ = sound.catalog_names_differ;
      namespace_names_differ = distinct-kept same_namespace (λ row. not (has_id namespace_id id row)) content.namespaces sound.namespace_names_differ;
      namespace_catalogs = each-filter (λ kept. knows catalog_id kept.catalog content.catalogs ≡ true) (λ row. not (has_id namespace_id id row)) content.namespaces sound.namespace_catalogs;
      namespace_parents = each-filter (HasParent (filter (λ row. not (has_id namespace_id id row)) content.namespaces)) (λ row. not (has_id namespace_id id row)) content.namespaces (each-join (λ kept. (row : NamespaceRow) → row_of namespace_id id content.namespaces ≡ Some row → lies_below row kept ≡ false) (HasParent content.namespaces) (HasParent (filter (λ row. not (has_id namespace_id id row)) content.namespaces)) content.namespaces (λ kept none there. parents_stay id content.namespaces differ parts.0 kept none (parent_of kept.levels) refl there) (none_lies_below id content.namespaces differ upper parts.0) sound.namespace_parents);
      tables = tables_kept next_id next_id content content.catalogs (filter (λ row. not (has_id namespace_id id row)) content.namespaces) content.views (omega arith) untaken (each-weaken (λ kept. nat_eq kept.namespace id ≡ false) (λ kept. knows namespace_id kept.namespace content.namespaces ≡ true → knows namespace_id kept.namespace (filter (λ row. not (has_id namespace_id id row)) content.namespaces) ≡ true) content.tables (λ kept apart known. stays kept.namespace apart known) (each-fails (λ row. nat_eq row.namespace id) content.tables parts.1)) sound.tables;
      views = views_kept next_id next_id content content.catalogs (filter (λ row. not (has_id namespace_id id row)) content.namespaces) content.tables (omega arith) (untaken-more next_id content content.catalogs (filter (λ row. not (has_id namespace_id id row)) content.namespaces) untaken) (each-weaken (λ kept. nat_eq kept.namespace id ≡ false) (λ kept. knows namespace_id kept.namespace content.namespaces ≡ true → knows namespace_id kept.namespace (filter (λ row. not (has_id namespace_id id row)) content.namespaces) ≡ true) content.views (λ kept apart known. stays kept.namespace apart known) (each-fails (λ row. nat_eq row.namespace id) content.views parts.2)) sound.views.names_apart sound.views;
    }
  where
    untaken : (one : ℕ) → one < next_id → (knows catalog_id one content.catalogs || knows namespace_id one content.namespaces) ≡ false → (knows catalog_id one content.catalogs || knows namespace_id one (filter (λ row. not (has_id namespace_id id row)) content.namespaces)) ≡ false
    untaken one under none =
        let parts = or_parts (knows catalog_id one content.catalogs) (knows namespace_id one content.namespaces) none in
        λ i. parts.0 i || any-fewer (has_id namespace_id one) (λ row. not (has_id namespace_id id row)) content.namespaces parts.1 i

    stays : (namespace : ℕ) → nat_eq namespace id ≡ false → knows namespace_id namespace content.namespaces ≡ true → knows namespace_id namespace (filter (λ row. not (has_id namespace_id id row)) content.namespaces) ≡ true
    stays namespace apart known =
        any-kept (has_id namespace_id namespace) (λ row. not (has_id namespace_id id row)) content.namespaces (each-all (λ row. has_id namespace_id namespace row ≡ true → not (has_id namespace_id id row) ≡ true) content.namespaces (other-stays namespace_id namespace id apart)) known

-- a table may be taken away
pub dropped_table : (next_id id : ℕ) (content : ContentRows) → IsSoundContent next_id content
    → IsSoundContent next_id (record content { tables = rows_without table_id id content.tables })
unfolding rows_without
dropped_table next_id id content sound =
    let keep : TableRow → Bool = (λ row. not (has_id table_id id row)) in
    record {
      catalogs = sound.catalogs;
      namespaces = sound.namespaces;
      ids_differ = sound.ids_differ;
      catalog_names_differ = sound.catalog_names_differ;
      namespace_names_differ = sound.namespace_names_differ;
      namespace_catalogs = sound.namespace_catalogs;
      namespace_parents = sound.namespace_parents;
      tables = record {
        numbered = AreNumbered-filter table_id next_id keep content.tables sound.tables.numbered;
        ids_differ = each-filter (λ kept. (knows catalog_id kept.id content.catalogs || knows namespace_id kept.id content.namespaces) ≡ false) keep content.tables sound.tables.ids_differ;
        names_differ = distinct-kept same_table keep content.tables sound.tables.names_differ;
        namespaces = each-filter (λ kept. knows namespace_id kept.namespace content.namespaces ≡ true) keep content.tables sound.tables.namespaces;
        apart = distinct-kept overlap_rows keep content.tables sound.tables.apart;
        each = each-filter IsSoundTable keep content.tables sound.tables.each;
      };
      views = views_kept next_id next_id content content.catalogs content.namespaces (filter keep content.tables) (omega arith) untaken (each-all (λ kept. knows namespace_id kept.namespace content.namespaces ≡ true → knows namespace_id kept.namespace content.namespaces ≡ true) content.views (λ kept known. known)) (each-weaken (λ kept. list_any (is_table_named kept.namespace kept.name) content.tables ≡ false) (λ kept. list_any (is_table_named kept.namespace kept.name) (filter keep content.tables) ≡ false) content.views (λ kept none. any-fewer (is_table_named kept.namespace kept.name) keep content.tables none) sound.views.names_apart) sound.views;
    }
  where
    untaken : (one : ℕ) → one < next_id → is_taken one content ≡ false → is_taken one (record content { tables = filter (λ row. not (has_id table_id id row)) content.tables }) ≡ false
    untaken one under none =
        let parts = or_parts (knows catalog_id one content.catalogs || knows namespace_id one content.namespaces) (knows table_id one content.tables) none in
        λ i. parts.0 i || any-fewer (has_id table_id one) (λ row. not (has_id table_id id row)) content.tables parts.1 i

-- no catalogue and no namespace has an id
abbrev Untaken : ContentRows → ℕ → Type 0
Untaken content id = (knows catalog_id id content.catalogs || knows namespace_id id content.namespaces) ≡ false

-- tables may be altered under their ids, where their names differ then, from those of views too, their namespaces are
-- there, no two overlap and each is sound by itself
pub altered_tables : (next_id : ℕ) (content : ContentRows) (alter : TableRow → TableRow) → ((row : TableRow) → (alter row).id ≡ row.id) → TableNamesDiffer (map alter content.tables)
    → AllByRecursion (λ row. knows namespace_id row.namespace content.namespaces ≡ true) (map alter content.tables) → LocationsApart (map alter content.tables) → AllByRecursion IsSoundTable (map alter content.tables)
    → AllByRecursion (λ row. list_any (is_table_named row.namespace row.name) (map alter content.tables) ≡ false) content.views
    → IsSoundContent next_id content → IsSoundContent next_id (record content { tables = map alter content.tables })
altered_tables next_id content alter ids names namespaces apart each views sound = record {
  catalogs = sound.catalogs;
  namespaces = sound.namespaces;
  ids_differ = sound.ids_differ;
  catalog_names_differ = sound.catalog_names_differ;
  namespace_names_differ = sound.namespace_names_differ;
  namespace_catalogs = sound.namespace_catalogs;
  namespace_parents = sound.namespace_parents;
  tables = record {
    numbered = AreNumbered-map table_id next_id alter ids content.tables sound.tables.numbered;
    ids_differ = each-map (λ kept. Untaken content kept.id) alter content.tables (each-weaken (λ kept. Untaken content kept.id) (λ kept. Untaken content (alter kept).id) content.tables (λ kept none. subst (Untaken content) (sym (ids kept)) none) sound.tables.ids_differ);
    names_differ = names;
    namespaces = namespaces;
    apart = apart;
    each = each;
  };
  views = views_kept next_id next_id content content.catalogs content.namespaces (map alter content.tables) (omega arith) untaken (each-all (λ kept. knows namespace_id kept.namespace content.namespaces ≡ true → knows namespace_id kept.namespace content.namespaces ≡ true) content.views (λ kept known. known)) views sound.views;
}
  where
    untaken : (id : ℕ) → id < next_id → is_taken id content ≡ false → is_taken id (record content { tables = map alter content.tables }) ≡ false
    untaken id under none =
        (λ i. (knows catalog_id id content.catalogs || knows namespace_id id content.namespaces) || any-alike (has_id table_id id) alter (λ row i. nat_eq id (ids row i)) content.tables i) ∙ none

-- where one row is put in the place of that of its id, and is like none of the others, no two are alike
module _ {X : Type 0} (equal : X → X → Bool) (symmetric : (left right : X) → equal left right ≡ equal right left) (key : X → ℕ) where
  pub distinct-replaced : (row : X) (rows : List X) → IdsDiffer key rows → list_any (equal row) rows ≡ false → IsDistinct equal rows → IsDistinct equal (map (replaced key row) rows)
  distinct-replaced row [] ids none differ = differ
  distinct-replaced row (first ∷ rest) ids none differ =
      let parts = or_parts (equal row first) (list_any (equal row) rest) none in
      let later = distinct-replaced row rest (differ_past key first rest ids) parts.1 (IsDistinct-tail equal first rest differ) in
      elim (cases_Bool (has_id key (key row) first)) [
        | inl here ↦
            let stay = map-lacks key (key row) row rest (lacks_past key (key row) first rest ids here) in
            rw here (IsDistinct-cons equal row (map (replaced key row) rest) (subst (λ others. AllByRecursion (λ other. equal row other ≡ false) others) (sym stay) (each-fails (equal row) rest parts.1)) later)
        | inr apart ↦
            rw apart (IsDistinct-cons equal first (map (replaced key row) rest) (each-map (λ other. equal first other ≡ false) (replaced key row) rest (each-weaken (λ other. equal first other ≡ false) (λ other. equal first (replaced key row other) ≡ false) rest (λ other old. by other (has_id key (key row) other) (symmetric first row ∙ parts.0) old) (IsDistinct-head equal first rest differ))) later)
      ]
    where
      by : (other : X) (b : Bool) → equal first row ≡ false → equal first other ≡ false → equal first (cond b row other) ≡ false
      by other true new old = new
      by other false new old = old

-- a row of the id of one that is there, which differs from it in its name and namespace alone: to put it is to alter these
-- under its id
module _ (row : TableRow) where
  abbrev with_name : Bool → TableRow → TableRow
  with_name has kept = record {
    id = kept.id;
    namespace = cond has row.namespace kept.namespace;
    name = cond has row.name kept.name;
    version = kept.version;
    moves = kept.moves;
    location = kept.location;
    metadata = kept.metadata;
  }

  abbrev rename_one : TableRow → TableRow
  rename_one kept = with_name (has_id table_id row.id kept) kept

  is_renamed : (old : TableRow) (rows : List TableRow) → row_of table_id row.id rows ≡ Some old → row ≡ record old { namespace = row.namespace; name = row.name }
      → (kept : TableRow) → row_of table_id kept.id rows ≡ Some kept → (has : Bool) → has_id table_id row.id kept ≡ has → cond has row kept ≡ with_name has kept
  is_renamed old rows found so kept own false apart = refl
  is_renamed old rows found so kept own true has =
      let ids = eqb-true row.id kept.id has in
      let is : old ≡ kept = some_is old kept (sym found ∙ ap (λ id. row_of table_id id rows) ids ∙ own) in
      so ∙ ap (λ (one : TableRow). record one { namespace = row.namespace; name = row.name }) is

-- one table may get a name that is free, in a namespace that is there
pub renamed_table : (next_id : ℕ) (content : ContentRows) (old row : TableRow) → IsSoundContent next_id content → row_of table_id row.id content.tables ≡ Some old
    → row ≡ record old { namespace = row.namespace; name = row.name } → knows namespace_id row.namespace content.namespaces ≡ true → part_named row.namespace row.name content ≡ None
    → IsSoundContent next_id (record content { tables = rows_with table_id row content.tables })
renamed_table next_id content old row sound found so there free =
    let rows = content.tables in
    let differ = IdsDiffer-rising table_id rows sound.tables.numbered.rise in
    let known : knows table_id row.id rows ≡ true = sym (is_some-row_of table_id row.id rows) ∙ ap is_some found in
    let alike = map-each (λ kept. cond (has_id table_id row.id kept) row kept) (rename_one row) rows (each-weaken (λ kept. row_of table_id kept.id rows ≡ Some kept) (λ kept. cond (has_id table_id row.id kept) row kept ≡ rename_one row kept) rows (λ kept own. is_renamed row old rows found so kept own (has_id table_id row.id kept) refl) (each-own table_id rows differ)) in
    let names = subst TableNamesDiffer alike (distinct-replaced same_table same_table-equiv.symm table_id row rows differ (none-found (is_table_named row.namespace row.name) rows (part-free row.namespace row.name content free).0) sound.tables.names_differ) in
    let namespaces = each-map (λ one. knows namespace_id one.namespace content.namespaces ≡ true) (rename_one row) rows (each-weaken (λ kept. knows namespace_id kept.namespace content.namespaces ≡ true) (λ kept. knows namespace_id (rename_one row kept).namespace content.namespaces ≡ true) rows (λ kept before. by kept (has_id table_id row.id kept) before) sound.tables.namespaces) in
    let apart = distinct-map overlap_rows (rename_one row) (λ left right. refl) rows sound.tables.apart in
    let each = each-map IsSoundTable (rename_one row) rows (each-weaken IsSoundTable (λ kept. IsSoundTable (rename_one row kept)) rows (λ kept itself. record { metadata = itself.metadata; placed = itself.placed; moved = itself.moved }) sound.tables.each) in
    subst (λ after. IsSoundContent next_id (record content { tables = after })) (sym (rows_with-known table_id row rows known ∙ alike)) (altered_tables next_id content (rename_one row) (λ kept. refl) names namespaces apart each views-apart sound)
  where
    views-apart : AllByRecursion (λ kept. list_any (is_table_named kept.namespace kept.name) (map (rename_one row) content.tables) ≡ false) content.views
    views-apart =
        each-join (λ kept. list_any (is_table_named kept.namespace kept.name) content.tables ≡ false) (λ kept. is_view_named row.namespace row.name kept ≡ false) (λ kept. list_any (is_table_named kept.namespace kept.name) (map (rename_one row) content.tables) ≡ false) content.views (λ kept none other. none-renamed kept (name-swap row kept ∙ other) content.tables none) sound.views.names_apart (each-fails (is_view_named row.namespace row.name) content.views (none-found (is_view_named row.namespace row.name) content.views (part-free row.namespace row.name content free).1))
      where
        one-renamed : (kept : ViewRow) (table : TableRow) (has : Bool) → is_table_named kept.namespace kept.name row ≡ false → is_table_named kept.namespace kept.name table ≡ false → is_table_named kept.namespace kept.name (with_name row has table) ≡ false
        one-renamed kept table true other none = other
        one-renamed kept table false other none = none

        none-renamed : (kept : ViewRow) → is_table_named kept.namespace kept.name row ≡ false → (tables : List TableRow) → list_any (is_table_named kept.namespace kept.name) tables ≡ false → list_any (is_table_named kept.namespace kept.name) (map (rename_one row) tables) ≡ false
        none-renamed kept other [] none = refl
        none-renamed kept other (table ∷ tables) none =
            let parts = or_parts (is_table_named kept.namespace kept.name table) (list_any (is_table_named kept.namespace kept.name) tables) none in
            λ i. one-renamed kept table (has_id table_id row.id table) other parts.0 i || none-renamed kept other tables parts.1 i

    by : (kept : TableRow) (has : Bool) → knows namespace_id kept.namespace content.namespaces ≡ true → knows namespace_id (cond has row.namespace kept.namespace) content.namespaces ≡ true
    by kept true before = there
    by kept false before = before
