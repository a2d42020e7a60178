-- The tests of the bounds of a state tell whether each quantity is within its bound.
use Rattle.std.proofs.Common.{◌≡◌, ℕ, ◌≤◌, Bool, true, false, ◌&&◌, nat_lt, List, [], ◌∷◌, length, Option, None, Some, is_none, refl, sym, ap, ◌∙◌, true≢false}
use Rattle.std.specs.Prelude.{Decides}
use Rattle.std.specs.List.{list_all, list_any, AllByRecursion}
use Rattle.std.proofs.lemmas.Bool.{le-leb, le-ltb, leb-true, or_from, or_parts}
use Rattle.std.proofs.lemmas.Bool.Decides.{Decides-and, Decides-at, Decides-like}
use Rattle.pol_access.specs.Access.{AccessRows}
use Rattle.pol_commands.specs.declared.reply.Quantity.{Quantity}
use Rattle.pol_commands.specs.declared.reply.Quantity.TheVariants as quantity
use Rattle.pol_commands.specs.declared.reply.Refusal.TheVariants.{Limit}
use Rattle.pol_content.specs.Content.{ContentRows}
use Rattle.pol_content.specs.declared.rows.CatalogRow.{CatalogRow}
use Rattle.pol_content.specs.declared.rows.NamespaceRow.{NamespaceRow}
use Rattle.pol_sound_access.proofs.DecidedLemmas.{each}
use Rattle.pol_sound_bounds.specs.Judged.{bounds_fit, catalog_fits, counters_fit, counts_fit, facts_fit, fits, holders_fit, namespace_fits, parts_fit, rows_fit, table_fits, view_fits}
use Rattle.pol_sound_bounds.specs.Within.{IsOf}
use Rattle.pol_state.specs.Bounds.{above, allowed_count, any_above, bound_of, catalog_properties, limits, namespace_properties, order_count, over_limit, ref_count, refuse_if, schema_count, snapshot_count, spec_count, table_limits, table_over_limit, table_properties, table_version, table_weight, view_properties, view_schemas, view_version, view_weight, EachPasses}
use Rattle.pol_state.specs.Rows.{Rows}
use Rattle.pol_state.proofs.BoundsLemmas.{above-within, refusal-none, EachPasses-none}
use Rattle.pol_table_rows.specs.declared.row.TableRow.{TableRow}
use Rattle.pol_tables.proofs.ListLemmas.{each-all, each-join, each-weaken}
use Rattle.pol_view_rows.specs.declared.row.ViewRow.{ViewRow}

-- nothing was found
none-decides : {A : Type 0} (found : Option A) → Decides (is_none found) (found ≡ None)
none-decides None = (λ is. refl, λ is. refl)
none-decides (Some one) = (λ is. absurd (true≢false (sym is)), λ is. let contrary : Some one ≡ None = is in cc)

-- a number isn't above the bound of a quantity
abbrev Fits : Quantity → ℕ → Type 0
Fits kind number = above kind number ≡ None

passes-fit : (kind : Quantity) (number : ℕ) → number ≤ bound_of kind → Fits kind number
passes-fit kind number is = ap (λ over. refuse_if over (Limit kind (bound_of kind))) (le-ltb (bound_of kind) number is)

fit-decides : (kind : Quantity) (number : ℕ) → Decides (fits kind number) (Fits kind number)
fit-decides kind number = (
  λ is. passes-fit kind number (leb-true number (bound_of kind) is),
  λ passes. le-leb number (bound_of kind) (above-within kind number passes),
)

-- none of the rows has one that is
module _ {R : Type 0} (kind : Quantity) (number : R → ℕ) where
  abbrev EachFits : List R → Type 0
  EachFits rows = AllByRecursion (λ row. Fits kind (number row)) rows

  abbrev is_over : R → Bool
  is_over row = nat_lt (bound_of kind) (number row)

  none-over : (rows : List R) → EachFits rows → list_any is_over rows ≡ false
  none-over [] all = refl
  none-over (row ∷ rows) all =
      or_from (is_over row) (list_any is_over rows) (le-ltb (bound_of kind) (number row) (above-within kind (number row) all.0)) (none-over rows all.1)

  any-none : (rows : List R) → EachFits rows → any_above kind number rows ≡ None
  any-none rows all = ap (λ over. refuse_if over (Limit kind (bound_of kind))) (none-over rows all)

  each-under : (rows : List R) → list_any is_over rows ≡ false → EachFits rows
  each-under [] none = tt
  each-under (row ∷ rows) none =
      let parts = or_parts (is_over row) (list_any is_over rows) none in
      (ap (λ over. refuse_if over (Limit kind (bound_of kind))) parts.0, each-under rows parts.1)

  each-fits : (rows : List R) → any_above kind number rows ≡ None → EachFits rows
  each-fits rows passes = by (list_any is_over rows) refl passes
    where
      by : (b : Bool) → list_any is_over rows ≡ b → refuse_if b (Limit kind (bound_of kind)) ≡ None → EachFits rows
      by true is contrary = cc
      by false is none = each-under rows is

-- the numbers of each row
abbrev CatalogFits : CatalogRow → Type 0
CatalogFits row = Fits quantity.AllowedLocations (allowed_count row) × Fits quantity.Properties (catalog_properties row)

abbrev NamespaceFits : NamespaceRow → Type 0
NamespaceFits row = Fits quantity.Properties (namespace_properties row)

abbrev TableFits : TableRow → Type 0
TableFits row = EachPasses (table_limits row)

abbrev ViewFits : ViewRow → Type 0
ViewFits row =
    Fits quantity.Schemas (view_schemas row)
    × (Fits quantity.Properties (view_properties row)
    × (Fits quantity.Weight (view_weight row) × Fits quantity.Version (view_version row)))

catalog-decides : (row : CatalogRow) → Decides (catalog_fits row) (CatalogFits row)
catalog-decides row =
    Decides-and (fits quantity.AllowedLocations (allowed_count row)) (fits quantity.Properties (catalog_properties row)) (fit-decides quantity.AllowedLocations (allowed_count row)) (fit-decides quantity.Properties (catalog_properties row))

table-decides : (row : TableRow) → Decides (table_fits row) (TableFits row)
unfolding table_over_limit
table-decides row =
    Decides-like (table_fits row) (EachPasses-none (table_limits row)) (refusal-none (table_limits row)) (none-decides (table_over_limit row))

view-decides : (row : ViewRow) → Decides (view_fits row) (ViewFits row)
view-decides row =
    let properties = fits quantity.Properties (view_properties row) in
    let weight = fits quantity.Weight (view_weight row) in
    let version = fits quantity.Version (view_version row) in
    Decides-and (fits quantity.Schemas (view_schemas row)) (properties && (weight && version)) (fit-decides quantity.Schemas (view_schemas row))
    (Decides-and properties (weight && version) (fit-decides quantity.Properties (view_properties row))
    (Decides-and weight version (fit-decides quantity.Weight (view_weight row)) (fit-decides quantity.Version (view_version row))))

module _ (s : Rows) where
  abbrev a : AccessRows
  a = s.access

  abbrev c : ContentRows
  c = s.content

  -- the rows of each kind
  abbrev PartsFit : Type 0
  PartsFit =
      Fits quantity.Catalogs (length c.catalogs)
      × (Fits quantity.Namespaces (length c.namespaces) × (Fits quantity.Tables (length c.tables) × Fits quantity.Views (length c.views)))

  abbrev HoldersFit : Type 0
  HoldersFit =
      Fits quantity.Principals (length a.principals)
      × (Fits quantity.PrincipalRoles (length a.principal_roles) × Fits quantity.CatalogRoles (length a.catalog_roles))

  abbrev FactsFit : Type 0
  FactsFit =
      Fits quantity.Members (length a.members) × (Fits quantity.Joins (length a.joins) × Fits quantity.Grants (length a.grants))

  abbrev Counted : Type 0
  Counted = PartsFit × (HoldersFit × (FactsFit × (Fits quantity.NextId s.next_id × Fits quantity.NextSerial s.next_serial)))

  parts-decide : Decides (parts_fit c) PartsFit
  parts-decide =
      let views = fits quantity.Views (length c.views) in
      let tables = fits quantity.Tables (length c.tables) in
      let namespaces = fits quantity.Namespaces (length c.namespaces) in
      Decides-and (fits quantity.Catalogs (length c.catalogs)) (namespaces && (tables && views)) (fit-decides quantity.Catalogs (length c.catalogs))
      (Decides-and namespaces (tables && views) (fit-decides quantity.Namespaces (length c.namespaces))
      (Decides-and tables views (fit-decides quantity.Tables (length c.tables)) (fit-decides quantity.Views (length c.views))))

  holders-decide : Decides (holders_fit a) HoldersFit
  holders-decide =
      let roles = fits quantity.PrincipalRoles (length a.principal_roles) in
      let catalog_roles = fits quantity.CatalogRoles (length a.catalog_roles) in
      Decides-and (fits quantity.Principals (length a.principals)) (roles && catalog_roles) (fit-decides quantity.Principals (length a.principals))
      (Decides-and roles catalog_roles (fit-decides quantity.PrincipalRoles (length a.principal_roles)) (fit-decides quantity.CatalogRoles (length a.catalog_roles)))

  facts-decide : Decides (facts_fit a) FactsFit
  facts-decide =
      let joins = fits quantity.Joins (length a.joins) in
      let grants = fits quantity.Grants (length a.grants) in
      Decides-and (fits quantity.Members (length a.members)) (joins && grants) (fit-decides quantity.Members (length a.members))
      (Decides-and joins grants (fit-decides quantity.Joins (length a.joins)) (fit-decides quantity.Grants (length a.grants)))

  counts-decide : Decides (counts_fit a c s.next_id s.next_serial) Counted
  unfolding counts_fit
  counts-decide =
      let holders = holders_fit a in
      let facts = facts_fit a in
      let counters = counters_fit s.next_id s.next_serial in
      Decides-and (parts_fit c) (holders && (facts && counters)) parts-decide
      (Decides-and holders (facts && counters) holders-decide
      (Decides-and facts counters facts-decide
      (Decides-and (fits quantity.NextId s.next_id) (fits quantity.NextSerial s.next_serial) (fit-decides quantity.NextId s.next_id) (fit-decides quantity.NextSerial s.next_serial))))

  abbrev RowsFit : Type 0
  RowsFit =
      AllByRecursion CatalogFits c.catalogs
      × (AllByRecursion NamespaceFits c.namespaces × (AllByRecursion TableFits c.tables × AllByRecursion ViewFits c.views))

  rows-decide : Decides (rows_fit c) RowsFit
  unfolding rows_fit
  rows-decide =
      let namespaces = list_all namespace_fits c.namespaces in
      let tables = list_all table_fits c.tables in
      let views = list_all view_fits c.views in
      Decides-and (list_all catalog_fits c.catalogs) (namespaces && (tables && views)) (each catalog_fits CatalogFits catalog-decides c.catalogs)
      (Decides-and namespaces (tables && views) (each namespace_fits NamespaceFits (λ row. fit-decides quantity.Properties (namespace_properties row)) c.namespaces)
      (Decides-and tables views (each table_fits TableFits table-decides c.tables) (each view_fits ViewFits view-decides c.views)))

  -- one number of each table, and of each view
  of-tables : (kind : Quantity) (number : TableRow → ℕ) → ((row : TableRow) → TableFits row → Fits kind (number row)) → AllByRecursion TableFits c.tables → any_above kind number c.tables ≡ None
  of-tables kind number so all =
      any-none kind number c.tables (each-weaken TableFits (λ row. Fits kind (number row)) c.tables so all)

  of-views : (kind : Quantity) (number : ViewRow → ℕ) → ((row : ViewRow) → ViewFits row → Fits kind (number row)) → AllByRecursion ViewFits c.views → any_above kind number c.views ≡ None
  of-views kind number so all =
      any-none kind number c.views (each-weaken ViewFits (λ row. Fits kind (number row)) c.views so all)

  of-catalogs : (kind : Quantity) (number : CatalogRow → ℕ) → ((row : CatalogRow) → CatalogFits row → Fits kind (number row)) → AllByRecursion CatalogFits c.catalogs → any_above kind number c.catalogs ≡ None
  of-catalogs kind number so all =
      any-none kind number c.catalogs (each-weaken CatalogFits (λ row. Fits kind (number row)) c.catalogs so all)

  all-pass : Counted × RowsFit → EachPasses (limits s)
  all-pass both =
      let parts = both.0.0 in
      let holders = both.0.1.0 in
      let facts = both.0.1.1.0 in
      let counters = both.0.1.1.1 in
      let catalogs = both.1.0 in
      let tables = both.1.1.1.0 in
      let views = both.1.1.1.1 in (parts.0, (holders.0, (holders.1.0, (holders.1.1, (facts.0, (facts.1.0, (facts.1.1, (parts.1.0, (parts.1.1.0, (parts.1.1.1, (of-catalogs quantity.AllowedLocations allowed_count (λ row fit. fit.0) catalogs, (of-tables quantity.Schemas schema_count (λ row fit. fit.0) tables, (of-tables quantity.PartitionSpecs spec_count (λ row fit. fit.1.0) tables, (of-tables quantity.SortOrders order_count (λ row fit. fit.1.1.0) tables, (of-tables quantity.Refs ref_count (λ row fit. fit.1.1.1.0) tables, (of-views quantity.Schemas view_schemas (λ row fit. fit.0) views, (of-tables quantity.Snapshots snapshot_count (λ row fit. fit.1.1.1.1.0) tables, (of-catalogs quantity.Properties catalog_properties (λ row fit. fit.1) catalogs, (any-none quantity.Properties namespace_properties c.namespaces both.1.1.0, (of-tables quantity.Properties table_properties (λ row fit. fit.1.1.1.1.1.0) tables, (of-views quantity.Properties view_properties (λ row fit. fit.1.0) views, (of-tables quantity.Weight table_weight (λ row fit. fit.1.1.1.1.1.1.0) tables, (of-views quantity.Weight view_weight (λ row fit. fit.1.1.0) views, (counters.0, (counters.1, (of-tables quantity.Version table_version (λ row fit. fit.1.1.1.1.1.1.1.0) tables, (of-views quantity.Version view_version (λ row fit. fit.1.1.1) views, tt)))))))))))))))))))))))))))

  module _ (passes : EachPasses (limits s)) where
    counted : Counted
    counted = (
      (passes.0, (passes.1.1.1.1.1.1.1.0, (passes.1.1.1.1.1.1.1.1.0, passes.1.1.1.1.1.1.1.1.1.0))),
      (
        (passes.1.0, (passes.1.1.0, passes.1.1.1.0)),
        (
          (passes.1.1.1.1.0, (passes.1.1.1.1.1.0, passes.1.1.1.1.1.1.0)),
          (passes.1.1.1.1.1.1.1.1.1.1.1.1.1.1.1.1.1.1.1.1.1.1.1.0, passes.1.1.1.1.1.1.1.1.1.1.1.1.1.1.1.1.1.1.1.1.1.1.1.1.0),
        ),
      ),
    )

    tables-fit : AllByRecursion TableFits c.tables
    tables-fit =
        let schemas = each-fits quantity.Schemas schema_count c.tables passes.1.1.1.1.1.1.1.1.1.1.1.0 in
        let specs = each-fits quantity.PartitionSpecs spec_count c.tables passes.1.1.1.1.1.1.1.1.1.1.1.1.0 in
        let orders = each-fits quantity.SortOrders order_count c.tables passes.1.1.1.1.1.1.1.1.1.1.1.1.1.0 in
        let refs = each-fits quantity.Refs ref_count c.tables passes.1.1.1.1.1.1.1.1.1.1.1.1.1.1.0 in
        let snapshots = each-fits quantity.Snapshots snapshot_count c.tables passes.1.1.1.1.1.1.1.1.1.1.1.1.1.1.1.1.0 in
        let properties = each-fits quantity.Properties table_properties c.tables passes.1.1.1.1.1.1.1.1.1.1.1.1.1.1.1.1.1.1.1.0 in
        let weights = each-fits quantity.Weight table_weight c.tables passes.1.1.1.1.1.1.1.1.1.1.1.1.1.1.1.1.1.1.1.1.1.0 in
        let versions = each-fits quantity.Version table_version c.tables passes.1.1.1.1.1.1.1.1.1.1.1.1.1.1.1.1.1.1.1.1.1.1.1.1.1.0 in
        join _ (λ row. _) schemas (join _ (λ row. _) specs (join _ (λ row. _) orders (join _ (λ row. _) refs (join _ (λ row. _) snapshots (join _ (λ row. _) properties (join _ (λ row. _) weights (join _ (λ row. Unit {0}) versions (each-all (λ row. Unit {0}) c.tables (λ row. tt)))))))))
      where
        join : (P Q : TableRow → Type 0) → AllByRecursion P c.tables → AllByRecursion Q c.tables → AllByRecursion (λ row. P row × Q row) c.tables
        join P Q one other = each-join P Q (λ row. P row × Q row) c.tables (λ row p q. (p, q)) one other

    views-fit : AllByRecursion ViewFits c.views
    views-fit =
        let schemas = each-fits quantity.Schemas view_schemas c.views passes.1.1.1.1.1.1.1.1.1.1.1.1.1.1.1.0 in
        let properties = each-fits quantity.Properties view_properties c.views passes.1.1.1.1.1.1.1.1.1.1.1.1.1.1.1.1.1.1.1.1.0 in
        let weights = each-fits quantity.Weight view_weight c.views passes.1.1.1.1.1.1.1.1.1.1.1.1.1.1.1.1.1.1.1.1.1.1.0 in
        let versions = each-fits quantity.Version view_version c.views passes.1.1.1.1.1.1.1.1.1.1.1.1.1.1.1.1.1.1.1.1.1.1.1.1.1.1.0 in
        join _ (λ row. _) schemas (join _ (λ row. _) properties (join _ _ weights versions))
      where
        join : (P Q : ViewRow → Type 0) → AllByRecursion P c.views → AllByRecursion Q c.views → AllByRecursion (λ row. P row × Q row) c.views
        join P Q one other = each-join P Q (λ row. P row × Q row) c.views (λ row p q. (p, q)) one other

    catalogs-fit : AllByRecursion CatalogFits c.catalogs
    catalogs-fit =
        each-join (λ row. Fits quantity.AllowedLocations (allowed_count row)) (λ row. Fits quantity.Properties (catalog_properties row)) CatalogFits c.catalogs (λ row allowed properties. (allowed, properties)) (each-fits quantity.AllowedLocations allowed_count c.catalogs passes.1.1.1.1.1.1.1.1.1.1.0) (each-fits quantity.Properties catalog_properties c.catalogs passes.1.1.1.1.1.1.1.1.1.1.1.1.1.1.1.1.1.0)

    rows-fit : RowsFit
    rows-fit = (
      catalogs-fit,
      (each-fits quantity.Properties namespace_properties c.namespaces passes.1.1.1.1.1.1.1.1.1.1.1.1.1.1.1.1.1.1.0, (tables-fit, views-fit)),
    )

  -- the test tells whether no quantity is above its bound
  pub bounds-decide : Decides (bounds_fit a c s.next_id s.next_serial) (over_limit s ≡ None)
  unfolding bounds_fit over_limit
  bounds-decide =
      let counts = counts_fit a c s.next_id s.next_serial in
      let rows = rows_fit c in
      Decides-like (counts && rows) (λ both. refusal-none (limits s) (all-pass both)) (λ none. let passes = EachPasses-none (limits s) none in (counted passes, rows-fit passes)) (Decides-and counts rows counts-decide rows-decide)

-- and so does what is answered by it
pub bounds-told : (access : AccessRows) (content : ContentRows) (next_id next_serial : ℕ) (within : Bool) → within ≡ bounds_fit access content next_id next_serial → (s : Rows) → IsOf access content next_id next_serial s → Decides within (over_limit s ≡ None)
bounds-told access content next_id next_serial within is s of =
    Decides-at within (bounds_fit s.access s.content s.next_id s.next_serial) (is ∙ (λ i. bounds_fit (sym of.has_access i) (sym of.has_content i) (sym of.has_id i) (sym of.has_serial i))) (bounds-decide s)
