-- The tests of catalogues, namespaces, tables and views tell whether they are sound.
use Rattle.std.proofs.Common.{◌≡◌, ℕ, ◌+◌, ◌≤◌, Bool, true, false, not, ◌&&◌, ◌||◌, nat_le, List, [], ◌∷◌, length, Option, None, Some, is_none, refl, sym, ap, ◌∙◌, true≢false}
use Rattle.std.specs.Prelude.{Decides}
use Rattle.std.specs.List.{list_all, list_any, AllByRecursion, IsDistinct}
use Rattle.std.specs.Str.{bytes_eq}
use Rattle.std.proofs.Math.Logic.{∥∥₁_elim, ∥∥₁_map}
use Rattle.std.proofs.lemmas.Bool.{le-leb, leb-true}
use Rattle.std.proofs.lemmas.Bool.Decides.{Decides-and, Decides-at, Decides-like}
use Rattle.std.proofs.lemmas.Slice.Eq.{bytes_eq-Decides}
use mathlib.Core.Bool.{Bool-set}
use Rattle.pol_content.specs.Content.{CatalogNamesDiffer, ContentRows, NamespaceNamesDiffer, catalog_id, is_catalog_named, is_namespace_named, namespace_id}
use Rattle.pol_content.specs.Sound.{AreSoundTables, AreSoundViews, HasParent, IsParentThere, IsSoundContent, is_taken}
use Rattle.pol_content.specs.declared.rows.NamespaceRow.{NamespaceRow}
use Rattle.pol_locations.specs.Location.{is_overlap, location_text, parse_refusal}
use Rattle.pol_names.specs.Namespace.{parent_of}
use Rattle.pol_table_rows.specs.Sound.{IsSoundTable, LocationsApart}
use Rattle.pol_table_rows.specs.Tables.{TableNamesDiffer, is_table_named, table_id}
use Rattle.pol_table_rows.specs.declared.row.TableRow.{TableRow}
use Rattle.pol_tables.specs.Numbered.{AreNumbered}
use Rattle.pol_tables.specs.Table.{knows}
use Rattle.pol_tables.proofs.ListLemmas.{each-join, each-weaken}
use Rattle.pol_view_rows.specs.Sound.{IsKept, IsSoundView}
use Rattle.pol_view_rows.specs.Views.{ViewNamesDiffer, is_view_named, view_id}
use Rattle.pol_view_rows.specs.declared.row.ViewRow.{ViewRow}
use Rattle.pol_sound_access.specs.Judged.{all_differ, rises}
use Rattle.pol_sound_access.proofs.DecidedLemmas.{at-most, each, fails, numbered, passes}
use Rattle.pol_sound_access.proofs.DifferLemmas.{differ-decides}
use Rattle.pol_sound_content.specs.Judged.{content_known, content_named, content_numbered, content_placed, has_parent, is_located, is_namespace_there, is_parent_there, is_placed, is_sound_content, is_table_there, is_view_there}
use Rattle.pol_sound_content.specs.Valid.{HasValidMetadata, HasValidParts, HasValidViewMetadata}

-- nothing is there
none-decides : {A : Type 0} (found : Option A) → Decides (is_none found) (found ≡ None)
none-decides None = (λ is. refl, λ is. refl)
none-decides (Some one) = (λ is. absurd (true≢false (sym is)), λ is. let contrary : Some one ≡ None = is in cc)

-- a test of each item, which tells something where something holds of the item
each-where : {X : Type 0} (test : X → Bool) (V P : X → Type 0) → ((x : X) → V x → Decides (test x) (P x)) → (xs : List X) → AllByRecursion V xs → Decides (list_all test xs) (AllByRecursion P xs)
each-where test V P every [] all = (λ is. tt, λ are. refl)
each-where test V P every (x ∷ xs) all =
    Decides-and (test x) (list_all test xs) (every x all.0) (each-where test V P every xs all.1)

module _ (content : ContentRows) where
  abbrev NamespaceThere : NamespaceRow → Type 0
  NamespaceThere row = (knows catalog_id row.id content.catalogs ≡ false) × (knows catalog_id row.catalog content.catalogs ≡ true)

  namespace-there : (row : NamespaceRow) → Decides (is_namespace_there content row) (NamespaceThere row)
  namespace-there row =
      Decides-and (not (knows catalog_id row.id content.catalogs)) (knows catalog_id row.catalog content.catalogs) (fails (knows catalog_id row.id content.catalogs)) (passes (knows catalog_id row.catalog content.catalogs))

  abbrev is_upper : ℕ → Bool
  is_upper id = knows catalog_id id content.catalogs || knows namespace_id id content.namespaces

  abbrev TableThere : TableRow → Type 0
  TableThere row = (is_upper row.id ≡ false) × ((knows namespace_id row.namespace content.namespaces ≡ true) × (row.moves ≤ row.version + 1))

  table-there : (row : TableRow) → Decides (is_table_there content row) (TableThere row)
  table-there row =
      let known = knows namespace_id row.namespace content.namespaces in
      let moved = nat_le row.moves (row.version + 1) in
      Decides-and (not (is_upper row.id)) (known && moved) (fails (is_upper row.id)) (Decides-and known moved (passes known) (at-most row.moves (row.version + 1)))

  abbrev ViewThere : ViewRow → Type 0
  ViewThere row =
      (is_taken row.id content ≡ false)
      × ((list_any (is_table_named row.namespace row.name) content.tables ≡ false) × ((knows namespace_id row.namespace content.namespaces ≡ true) × ∥ IsKept row.metadata ∥₁))

  kept : (row : ViewRow) → HasValidViewMetadata row → Decides (nat_le (length row.metadata.versions) 100) ∥ IsKept row.metadata ∥₁
  kept row valid = (
    λ is. ∥∥₁_map valid (λ one. record { valid = one; few = leb-true (length row.metadata.versions) 100 is }),
    λ is. ∥∥₁_elim is (Bool-set _ _) (λ one. le-leb (length row.metadata.versions) 100 one.few),
  )

  view-there : (row : ViewRow) → HasValidViewMetadata row → Decides (is_view_there content row) (ViewThere row)
  view-there row valid =
      let named = list_any (is_table_named row.namespace row.name) content.tables in
      let known = knows namespace_id row.namespace content.namespaces in
      let few = nat_le (length row.metadata.versions) 100 in
      Decides-and (not (is_taken row.id content)) (not named && (known && few)) (fails (is_taken row.id content))
      (Decides-and (not named) (known && few) (fails named) (Decides-and known few (passes known) (kept row valid)))

  parent-there : (catalog : ℕ) (parent : Option (List (List ℕ))) → Decides (is_parent_there content catalog parent) (IsParentThere content.namespaces catalog parent)
  parent-there catalog None = (λ is. tt, λ all. refl)
  parent-there catalog (Some parent) = passes (list_any (is_namespace_named catalog parent) content.namespaces)

  abbrev Numbered : ℕ → Type 0
  Numbered next_id =
      AreNumbered catalog_id next_id content.catalogs
      × (AreNumbered namespace_id next_id content.namespaces × (AreNumbered table_id next_id content.tables × AreNumbered view_id next_id content.views))

  numbers-decide : (next_id : ℕ) → Decides (content_numbered next_id content) (Numbered next_id)
  numbers-decide next_id =
      let namespaces = rises namespace_id 1 next_id content.namespaces in
      let tables = rises table_id 1 next_id content.tables in
      let views = rises view_id 1 next_id content.views in
      Decides-and (rises catalog_id 1 next_id content.catalogs) (namespaces && (tables && views)) (numbered catalog_id next_id content.catalogs)
      (Decides-and namespaces (tables && views) (numbered namespace_id next_id content.namespaces)
      (Decides-and tables views (numbered table_id next_id content.tables) (numbered view_id next_id content.views)))

  abbrev Named : Type 0
  Named =
      CatalogNamesDiffer content.catalogs × (NamespaceNamesDiffer content.namespaces × (TableNamesDiffer content.tables × ViewNamesDiffer content.views))

  names-decide : Decides (content_named content) Named
  names-decide =
      let namespaces = all_differ (λ left right. is_namespace_named left.catalog left.levels right) content.namespaces in
      let tables = all_differ (λ left right. is_table_named left.namespace left.name right) content.tables in
      let views = all_differ (λ left right. is_view_named left.namespace left.name right) content.views in
      Decides-and (all_differ (λ left right. is_catalog_named left.name right) content.catalogs) (namespaces && (tables && views)) (differ-decides (λ left right. is_catalog_named left.name right) content.catalogs)
      (Decides-and namespaces (tables && views) (differ-decides (λ left right. is_namespace_named left.catalog left.levels right) content.namespaces)
      (Decides-and tables views (differ-decides (λ left right. is_table_named left.namespace left.name right) content.tables) (differ-decides (λ left right. is_view_named left.namespace left.name right) content.views)))

  abbrev Placed : Type 0
  Placed =
      AllByRecursion (HasParent content.namespaces) content.namespaces
      × (AllByRecursion (λ row. row.metadata.location ≡ location_text row.location) content.tables
      × (AllByRecursion (λ row. parse_refusal row.metadata.location ≡ None) content.views × LocationsApart content.tables))

  placed-decides : Decides (content_placed content) Placed
  placed-decides =
      let tables = list_all is_placed content.tables in
      let views = list_all is_located content.views in
      let apart = all_differ (λ left right. is_overlap left.location right.location) content.tables in
      Decides-and (list_all (has_parent content) content.namespaces) (tables && (views && apart)) (each (has_parent content) (HasParent content.namespaces) (λ row. parent-there row.catalog (parent_of row.levels)) content.namespaces)
      (Decides-and tables (views && apart) (each is_placed (λ row. row.metadata.location ≡ location_text row.location) (λ row. bytes_eq-Decides row.metadata.location (location_text row.location)) content.tables)
      (Decides-and views apart (each is_located (λ row. parse_refusal row.metadata.location ≡ None) (λ row. none-decides (parse_refusal row.metadata.location)) content.views) (differ-decides (λ left right. is_overlap left.location right.location) content.tables)))

  module _ (valid : HasValidParts content) where
    abbrev Known : Type 0
    Known = AllByRecursion NamespaceThere content.namespaces × (AllByRecursion TableThere content.tables × AllByRecursion ViewThere content.views)

    known-decides : Decides (content_known content) Known
    known-decides =
        let tables = list_all (is_table_there content) content.tables in
        let views = list_all (is_view_there content) content.views in
        Decides-and (list_all (is_namespace_there content) content.namespaces) (tables && views) (each (is_namespace_there content) NamespaceThere namespace-there content.namespaces)
        (Decides-and tables views (each (is_table_there content) TableThere table-there content.tables) (each-where (is_view_there content) HasValidViewMetadata ViewThere view-there content.views valid.views))

    abbrev Parts : ℕ → Type 0
    Parts next_id = Numbered next_id × (Known × (Named × Placed))

    tables-sound : (next_id : ℕ) → Parts next_id → AreSoundTables next_id content
    tables-sound next_id all = record {
      numbered = all.0.1.1.0;
      ids_differ = each-weaken TableThere (λ row. is_upper row.id ≡ false) content.tables (λ row there. there.0) all.1.0.1.0;
      names_differ = all.1.1.0.1.1.0;
      namespaces = each-weaken TableThere (λ row. knows namespace_id row.namespace content.namespaces ≡ true) content.tables (λ row there. there.1.0) all.1.0.1.0;
      apart = all.1.1.1.1.1.1;
      each = each-join HasValidMetadata (λ row. (row.metadata.location ≡ location_text row.location) × (row.moves ≤ row.version + 1)) IsSoundTable content.tables (λ row is both. record { metadata = is; placed = both.0; moved = both.1 }) valid.tables
          (each-join (λ row. row.metadata.location ≡ location_text row.location) TableThere (λ row. (row.metadata.location ≡ location_text row.location) × (row.moves ≤ row.version + 1)) content.tables (λ row placed there. (placed, there.1.1)) all.1.1.1.1.0 all.1.0.1.0);
    }

    views-sound : (next_id : ℕ) → Parts next_id → AreSoundViews next_id content
    views-sound next_id all = record {
      numbered = all.0.1.1.1;
      ids_differ = each-weaken ViewThere (λ row. is_taken row.id content ≡ false) content.views (λ row there. there.0) all.1.0.1.1;
      names_differ = all.1.1.0.1.1.1;
      names_apart = each-weaken ViewThere (λ row. list_any (is_table_named row.namespace row.name) content.tables ≡ false) content.views (λ row there. there.1.0) all.1.0.1.1;
      namespaces = each-weaken ViewThere (λ row. knows namespace_id row.namespace content.namespaces ≡ true) content.views (λ row there. there.1.1.0) all.1.0.1.1;
      each = each-join (λ row. parse_refusal row.metadata.location ≡ None) ViewThere IsSoundView content.views (λ row located there. record { metadata = there.1.1.1; placed = located }) all.1.1.1.1.1.0 all.1.0.1.1;
    }

    sound-from : (next_id : ℕ) → Parts next_id → IsSoundContent next_id content
    sound-from next_id all = record {
      catalogs = all.0.0;
      namespaces = all.0.1.0;
      ids_differ = each-weaken NamespaceThere (λ row. knows catalog_id row.id content.catalogs ≡ false) content.namespaces (λ row there. there.0) all.1.0.0;
      catalog_names_differ = all.1.1.0.0;
      namespace_names_differ = all.1.1.0.1.0;
      namespace_catalogs = each-weaken NamespaceThere (λ row. knows catalog_id row.catalog content.catalogs ≡ true) content.namespaces (λ row there. there.1) all.1.0.0;
      namespace_parents = all.1.1.1.0;
      tables = tables-sound next_id all;
      views = views-sound next_id all;
    }

    parts-of : (next_id : ℕ) → IsSoundContent next_id content → Parts next_id
    parts-of next_id sound =
        let tables = sound.tables in
        let views = sound.views in (
          (sound.catalogs, (sound.namespaces, (tables.numbered, views.numbered))),
          (
            (
              each-join (λ row. knows catalog_id row.id content.catalogs ≡ false) (λ row. knows catalog_id row.catalog content.catalogs ≡ true) NamespaceThere content.namespaces (λ row apart there. (apart, there)) sound.ids_differ sound.namespace_catalogs,
              (
                each-join (λ row. is_upper row.id ≡ false) (λ row. (knows namespace_id row.namespace content.namespaces ≡ true) × (row.moves ≤ row.version + 1)) TableThere content.tables (λ row apart both. (apart, both)) tables.ids_differ
                    (each-join (λ row. knows namespace_id row.namespace content.namespaces ≡ true) IsSoundTable (λ row. (knows namespace_id row.namespace content.namespaces ≡ true) × (row.moves ≤ row.version + 1)) content.tables (λ row there is. (there, is.moved)) tables.namespaces tables.each),
                each-join (λ row. is_taken row.id content ≡ false) (λ row. (list_any (is_table_named row.namespace row.name) content.tables ≡ false) × ((knows namespace_id row.namespace content.namespaces ≡ true) × ∥ IsKept row.metadata ∥₁)) ViewThere content.views (λ row apart rest. (apart, rest)) views.ids_differ
                    (each-join (λ row. list_any (is_table_named row.namespace row.name) content.tables ≡ false) (λ row. (knows namespace_id row.namespace content.namespaces ≡ true) × ∥ IsKept row.metadata ∥₁) (λ row. (list_any (is_table_named row.namespace row.name) content.tables ≡ false) × ((knows namespace_id row.namespace content.namespaces ≡ true) × ∥ IsKept row.metadata ∥₁)) content.views (λ row apart rest. (apart, rest)) views.names_apart
                    (each-join (λ row. knows namespace_id row.namespace content.namespaces ≡ true) IsSoundView (λ row. (knows namespace_id row.namespace content.namespaces ≡ true) × ∥ IsKept row.metadata ∥₁) content.views (λ row there is. (there, is.metadata)) views.namespaces views.each)),
              ),
            ),
            (
              (sound.catalog_names_differ, (sound.namespace_names_differ, (tables.names_differ, views.names_differ))),
              (
                sound.namespace_parents,
                (
                  each-weaken IsSoundTable (λ row. row.metadata.location ≡ location_text row.location) content.tables (λ row is. is.placed) tables.each,
                  (each-weaken IsSoundView (λ row. parse_refusal row.metadata.location ≡ None) content.views (λ row is. is.placed) views.each, tables.apart),
                ),
              ),
            ),
          ),
        )

    -- the test tells whether they are sound
    pub content-decides : (next_id : ℕ) → Decides (is_sound_content next_id content) (IsSoundContent next_id content)
    unfolding is_sound_content
    content-decides next_id =
        let known = content_known content in
        let names = content_named content in
        let placed = content_placed content in
        Decides-like (is_sound_content next_id content) (sound-from next_id) (parts-of next_id)
        (Decides-and (content_numbered next_id content) (known && (names && placed)) (numbers-decide next_id)
        (Decides-and known (names && placed) known-decides (Decides-and names placed names-decide placed-decides)))

pub content_decided : (next_id : ℕ) (content : ContentRows) (sound : Bool) → HasValidParts content → sound ≡ is_sound_content next_id content → Decides sound (IsSoundContent next_id content)
content_decided next_id content sound valid is =
    Decides-at sound (is_sound_content next_id content) is (content-decides content valid next_id)
