-- Sound rows stay sound once a view is pushed, altered or taken away.
use Rattle.std.proofs.Common.{◌≡◌, ℕ, ◌+◌, ◌≤◌, Bool, true, false, not, cond, ◌||◌, List, [], ◌∷◌, ◌++◌, filter, Some, None, is_some, refl, sym, ap, subst, ◌∙◌, arith}
use Rattle.std.specs.Cmp.{IsEquivalence, and_equiv, nat_eq_equiv, on_equiv}
use Rattle.std.specs.Cmp.Lexicographic.{nat_list_eq_equiv}
use Rattle.std.specs.List.{list_any, AllByRecursion}
use Rattle.std.proofs.lemmas.Bool.{eqb-true}
use Rattle.std.proofs.lemmas.Map.Keys.{IsDistinct-push}
use Rattle.pol_access.proofs.KeptLemmas.{distinct-kept, found-holds, map-each}
use Rattle.pol_tables.specs.Numbered.{AreNumbered}
use Rattle.pol_tables.specs.Table.{has_id, knows, row_of, rows_with, rows_without, IdsDiffer}
use Rattle.pol_tables.proofs.ListLemmas.{each-all, each-filter, each-push, each-weaken}
use Rattle.pol_tables.proofs.NamedLemmas.{each-own, each-rows_with}
use Rattle.pol_tables.proofs.NumberedLemmas.{AreNumbered-filter, AreNumbered-map, AreNumbered-more, AreNumbered-push, below-next}
use Rattle.pol_tables.proofs.RisingLemmas.{IdsDiffer-rising, knows-below}
use Rattle.pol_tables.proofs.TableLemmas.{is_some-row_of, key-row_of, replaced, rows_with-known, some_is}
use Rattle.pol_table_rows.specs.Tables.{is_table_named, table_id}
use Rattle.pol_view_rows.specs.Sound.{IsSoundView}
use Rattle.pol_view_rows.specs.Views.{ViewNamesDiffer, is_view_named, view_id}
use Rattle.pol_view_rows.specs.declared.row.ViewRow.{ViewRow}
use Rattle.pol_content.specs.Content.{catalog_id, namespace_id, part_named, ContentRows}
use Rattle.pol_content.specs.Sound.{is_taken, AreSoundTables, AreSoundViews, IsSoundContent}
use Rattle.pol_content.proofs.SoundLemmas.{distinct-map, distinct-replaced, none-found, part-free, tables_kept}

abbrev pub same_view : ViewRow → ViewRow → Bool
same_view left right = is_view_named left.namespace left.name right

same_view-equiv : IsEquivalence same_view
same_view-equiv = and_equiv (on_equiv (λ row. row.namespace) nat_eq_equiv) (on_equiv (λ row. row.name) nat_list_eq_equiv)

module _ (next_id : ℕ) (content : ContentRows) (sound : IsSoundContent next_id content) where
  -- other views leave the tables sound
  tables_stay : (high : ℕ) → next_id ≤ high → (views : List ViewRow) → AreSoundTables high (record content { views = views })
  tables_stay high within views =
      tables_kept next_id high content content.catalogs content.namespaces views within (λ id under none. none) (each-all (λ kept. knows namespace_id kept.namespace content.namespaces ≡ true → knows namespace_id kept.namespace content.namespaces ≡ true) content.tables (λ kept known. known)) sound.tables

  with_views : (views : List ViewRow) → AreSoundViews next_id (record content { views = views }) → IsSoundContent next_id (record content { views = views })
  with_views views views_sound = record {
    catalogs = sound.catalogs;
    namespaces = sound.namespaces;
    ids_differ = sound.ids_differ;
    catalog_names_differ = sound.catalog_names_differ;
    namespace_names_differ = sound.namespace_names_differ;
    namespace_catalogs = sound.namespace_catalogs;
    namespace_parents = sound.namespace_parents;
    tables = tables_stay next_id (omega arith) views;
    views = views_sound;
  }

  -- a view with the next id and a new name may be pushed into a namespace that is there
  pub pushed_view : (row : ViewRow) → 1 ≤ next_id → row.id ≡ next_id → knows namespace_id row.namespace content.namespaces ≡ true → part_named row.namespace row.name content ≡ None → IsSoundView row
      → IsSoundContent (next_id + 1) (record content { views = content.views ++ row ∷ [] })
  pushed_view row first is there new itself = record {
    catalogs = AreNumbered-more catalog_id next_id (next_id + 1) (omega arith) content.catalogs sound.catalogs;
    namespaces = AreNumbered-more namespace_id next_id (next_id + 1) (omega arith) content.namespaces sound.namespaces;
    ids_differ = sound.ids_differ;
    catalog_names_differ = sound.catalog_names_differ;
    namespace_names_differ = sound.namespace_names_differ;
    namespace_catalogs = sound.namespace_catalogs;
    namespace_parents = sound.namespace_parents;
    tables = tables_stay (next_id + 1) (omega arith) (content.views ++ row ∷ []);
    views = record {
      numbered = AreNumbered-push view_id next_id row content.views first is sound.views.numbered;
      ids_differ = each-push (λ kept. is_taken kept.id content ≡ false) content.views row sound.views.ids_differ untaken;
      names_differ = IsDistinct-push same_view-equiv content.views row sound.views.names_differ (none-found (is_view_named row.namespace row.name) content.views (part-free row.namespace row.name content new).1);
      names_apart = each-push (λ kept. list_any (is_table_named kept.namespace kept.name) content.tables ≡ false) content.views row sound.views.names_apart (none-found (is_table_named row.namespace row.name) content.tables (part-free row.namespace row.name content new).0);
      namespaces = each-push (λ kept. knows namespace_id kept.namespace content.namespaces ≡ true) content.views row sound.views.namespaces there;
      each = each-push IsSoundView content.views row sound.views.each itself;
    };
  }
    where
      untaken : is_taken row.id content ≡ false
      untaken =
          let catalogs : knows catalog_id row.id content.catalogs ≡ false = ap (λ id. knows catalog_id id content.catalogs) is ∙ knows-below catalog_id next_id content.catalogs (below-next catalog_id next_id content.catalogs sound.catalogs) in
          let namespaces : knows namespace_id row.id content.namespaces ≡ false = ap (λ id. knows namespace_id id content.namespaces) is ∙ knows-below namespace_id next_id content.namespaces (below-next namespace_id next_id content.namespaces sound.namespaces) in
          let tables : knows table_id row.id content.tables ≡ false = ap (λ id. knows table_id id content.tables) is ∙ knows-below table_id next_id content.tables (below-next table_id next_id content.tables sound.tables.numbered) in
          λ i. (catalogs i || namespaces i) || tables i

  -- a view may be taken away
  pub dropped_view : (id : ℕ) → IsSoundContent next_id (record content { views = rows_without view_id id content.views })
  unfolding rows_without
  dropped_view id =
      let keep : ViewRow → Bool = (λ row. not (has_id view_id id row)) in
      with_views (filter keep content.views) (record {
        numbered = AreNumbered-filter view_id next_id keep content.views sound.views.numbered;
        ids_differ = each-filter (λ kept. is_taken kept.id content ≡ false) keep content.views sound.views.ids_differ;
        names_differ = distinct-kept same_view keep content.views sound.views.names_differ;
        names_apart = each-filter (λ kept. list_any (is_table_named kept.namespace kept.name) content.tables ≡ false) keep content.views sound.views.names_apart;
        namespaces = each-filter (λ kept. knows namespace_id kept.namespace content.namespaces ≡ true) keep content.views sound.views.namespaces;
        each = each-filter IsSoundView keep content.views sound.views.each;
      })

  -- a view may be put in the place of that of its id, where its name differs from those of others, its namespace is there and
  -- it is sound by itself
  module _ (row old : ViewRow) (found : row_of view_id row.id content.views ≡ Some old) where
    views-differ : IdsDiffer view_id content.views
    views-differ = IdsDiffer-rising view_id content.views sound.views.numbered.rise

    known : knows view_id row.id content.views ≡ true
    known = sym (is_some-row_of view_id row.id content.views) ∙ ap is_some found

    same-id : (kept : ViewRow) (has : Bool) → has_id view_id row.id kept ≡ has → view_id (cond has row kept) ≡ view_id kept
    same-id kept true has = eqb-true row.id kept.id has
    same-id kept false has = refl

    numbered : AreNumbered view_id next_id (rows_with view_id row content.views)
    numbered = subst (AreNumbered view_id next_id) (sym (rows_with-known view_id row content.views known)) (AreNumbered-map view_id next_id (replaced view_id row) (λ kept. same-id kept (has_id view_id row.id kept) refl) content.views sound.views.numbered)

    -- what holds of each view holds of the old one
    of-old : (P : ViewRow → Type 0) → AllByRecursion P content.views → P old
    of-old P all = found-holds (has_id view_id row.id) P content.views old all found

    -- the id of a view that is there is no other row's
    untaken : is_taken row.id content ≡ false
    untaken =
        subst (λ id. is_taken id content ≡ false) (sym (key-row_of view_id row.id old content.views found)) (of-old (λ kept. is_taken kept.id content ≡ false) sound.views.ids_differ)

    put_view : ViewNamesDiffer (rows_with view_id row content.views) → list_any (is_table_named row.namespace row.name) content.tables ≡ false → knows namespace_id row.namespace content.namespaces ≡ true → IsSoundView row
        → IsSoundContent next_id (record content { views = rows_with view_id row content.views })
    put_view names apart there itself = with_views (rows_with view_id row content.views) (record {
      numbered = numbered;
      ids_differ = each-rows_with view_id (λ kept. is_taken kept.id content ≡ false) (λ kept. is_taken kept.id content ≡ false) row content.views sound.views.ids_differ (λ kept none other. none) untaken;
      names_differ = names;
      names_apart = each-rows_with view_id (λ kept. list_any (is_table_named kept.namespace kept.name) content.tables ≡ false) (λ kept. list_any (is_table_named kept.namespace kept.name) content.tables ≡ false) row content.views sound.views.names_apart (λ kept none other. none) apart;
      namespaces = each-rows_with view_id (λ kept. knows namespace_id kept.namespace content.namespaces ≡ true) (λ kept. knows namespace_id kept.namespace content.namespaces ≡ true) row content.views sound.views.namespaces (λ kept here other. here) there;
      each = each-rows_with view_id IsSoundView IsSoundView row content.views sound.views.each (λ kept here other. here) itself;
    })

    -- it may get a name that is free, in a namespace that is there
    pub renamed_view : part_named row.namespace row.name content ≡ None → knows namespace_id row.namespace content.namespaces ≡ true → IsSoundView row
        → IsSoundContent next_id (record content { views = rows_with view_id row content.views })
    renamed_view free there itself =
        let both = part-free row.namespace row.name content free in
        put_view (subst ViewNamesDiffer (sym (rows_with-known view_id row content.views known)) (distinct-replaced same_view same_view-equiv.symm view_id row content.views views-differ (none-found (is_view_named row.namespace row.name) content.views both.1) sound.views.names_differ))
        (none-found (is_table_named row.namespace row.name) content.tables both.0) there itself

    -- it may be altered under its name
    abbrev with_rest : Bool → ViewRow → ViewRow
    with_rest has kept = record {
      id = kept.id;
      namespace = kept.namespace;
      name = kept.name;
      version = cond has row.version kept.version;
      metadata = cond has row.metadata kept.metadata;
    }

    abbrev alter_one : ViewRow → ViewRow
    alter_one kept = with_rest (has_id view_id row.id kept) kept

    is_altered : row.namespace ≡ old.namespace → row.name ≡ old.name → (kept : ViewRow) → row_of view_id kept.id content.views ≡ Some kept → (has : Bool) → has_id view_id row.id kept ≡ has → cond has row kept ≡ with_rest has kept
    is_altered namespaces names kept own false apart = refl
    is_altered namespaces names kept own true has =
        let ids = eqb-true row.id kept.id has in
        let is : old ≡ kept = some_is old kept (sym found ∙ ap (λ id. row_of view_id id content.views) ids ∙ own) in
        λ i. record {
          id = ids i;
          namespace = (namespaces ∙ ap (λ (one : ViewRow). one.namespace) is) i;
          name = (names ∙ ap (λ (one : ViewRow). one.name) is) i;
          version = row.version;
          metadata = row.metadata;
        }

    pub replaced_view : row.namespace ≡ old.namespace → row.name ≡ old.name → IsSoundView row
        → IsSoundContent next_id (record content { views = rows_with view_id row content.views })
    replaced_view namespaces names itself =
        let own = each-own view_id content.views views-differ in
        let alike = map-each (λ kept. cond (has_id view_id row.id kept) row kept) alter_one content.views (each-weaken (λ kept. row_of view_id kept.id content.views ≡ Some kept) (λ kept. cond (has_id view_id row.id kept) row kept ≡ alter_one kept) content.views (λ kept one. is_altered namespaces names kept one (has_id view_id row.id kept) refl) own) in
        put_view (subst ViewNamesDiffer (sym (rows_with-known view_id row content.views known ∙ alike)) (distinct-map same_view alter_one (λ left right. refl) content.views sound.views.names_differ))
        (subst (λ name. list_any (is_table_named row.namespace name) content.tables ≡ false) (sym names) (subst (λ namespace. list_any (is_table_named namespace old.name) content.tables ≡ false) (sym namespaces) (of-old (λ kept. list_any (is_table_named kept.namespace kept.name) content.tables ≡ false) sound.views.names_apart)))
        (subst (λ namespace. knows namespace_id namespace content.namespaces ≡ true) (sym namespaces) (of-old (λ kept. knows namespace_id kept.namespace content.namespaces ≡ true) sound.views.namespaces)) itself
