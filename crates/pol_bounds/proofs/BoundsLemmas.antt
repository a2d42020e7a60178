-- The bounds of the rows to which changes lead, judged on the changes.
use Rattle.std.proofs.Common.{◌≡◌, ℕ, ◌-◌, ◌≤◌, ◌^◌, ◌==◌, min, Bool, true, false, cond, ◌||◌, nat_lt, List, [], ◌∷◌, ◌++◌, filter, length, Option, None, Some, is_some, refl, sym, ap, ◌∙◌, true≢false, arith}
use Rattle.std.specs.List.{list_any}
use denote.Enum.Bare.{sameb}
use Rattle.std.specs.Option.{option_or}
use Rattle.std.proofs.Math.Nat.{min-eq_left, min-eq_right}
use Rattle.std.proofs.lemmas.Bool.{eqb-true, le-ltb, lt-ltb, ltb-false, ltb-true}
use Rattle.std.proofs.lemmas.List.Folds.{list_any-append}
use Rattle.pol_tables.proofs.CountLemmas.{any-changed}
use Rattle.pol_tables.proofs.ListLemmas.{or_false}
use Rattle.pol_tables.proofs.TableLemmas.{is_some-row_of}
use Rattle.pol_tables.specs.Table.{knows, row_of, rows_with, rows_without}
use Rattle.pol_content.specs.Content.{catalog_id, namespace_id}
use Rattle.pol_access.specs.Sound.{IsSoundAccess}
use Rattle.pol_content.specs.Sound.{IsSoundContent}
use Rattle.pol_content.specs.contracts.change.RowKind.{the_type}
use Rattle.pol_content.specs.contracts.rows.CatalogRow as catalog
use Rattle.pol_content.specs.contracts.rows.NamespaceRow as namespace
use Rattle.pol_content.specs.declared.change.Change.{Change}
use Rattle.pol_content.specs.declared.change.Change.TheVariants.{Time, NextId, NextSerial, PutCatalog, DropCatalog, PutNamespace, DropNamespace, PutTable, DropTable, PutView, DropView}
use Rattle.pol_content.specs.declared.change.RowKind.{RowKind}
use Rattle.pol_content.specs.declared.change.RowKind.TheVariants as kind
use Rattle.pol_content.specs.declared.rows.CatalogRow.{CatalogRow}
use Rattle.pol_content.specs.declared.rows.NamespaceRow.{NamespaceRow}
use Rattle.pol_meta.specs.Weight.{capped}
use Rattle.pol_table_rows.specs.Tables.{table_id}
use Rattle.pol_table_rows.specs.contracts.row.TableRow as table
use Rattle.pol_table_rows.specs.declared.row.TableRow.{TableRow}
use Rattle.pol_view_rows.specs.Views.{view_id}
use Rattle.pol_view_rows.specs.contracts.row.ViewRow as view
use Rattle.pol_view_rows.specs.declared.row.ViewRow.{ViewRow}
use Rattle.pol_commands.specs.declared.reply.Quantity.{Quantity}
use Rattle.pol_commands.specs.declared.reply.Quantity.TheVariants as quantity
use Rattle.pol_commands.specs.declared.reply.Refusal.{Refusal}
use Rattle.pol_commands.specs.declared.reply.Refusal.TheVariants.{Limit}
use Rattle.pol_state.specs.Applied.{applied}
use Rattle.pol_state.specs.Bounds.{above, allowed_count, any_above, bound_of, catalog_properties, first_refusal, namespace_properties, order_count, over_limit, ref_count, refuse_if, schema_count, snapshot_count, spec_count, table_properties, table_version, table_weight, view_properties, view_schemas, view_version, view_weight}
use Rattle.pol_state.specs.Changes.{changes_between, headed, id_change, in_turn, row_changes, serial_change}
use Rattle.pol_state.specs.Rows.{Rows}
use Rattle.pol_state.specs.Sound.{IsOrderly, IsSound}
use Rattle.pol_state.proofs.BoundsLemmas.{above-within, each-within}
use Rattle.pol_bounds.specs.Counted.{allowed_put, catalog_properties_put, catalogs_put, counts_after, id_set, limits_of, limits_put, namespace_properties_put, namespaces_put, number_of, orders_put, part_limits, property_limits, refs_put, schemas_put, serial_set, snapshots_put, specs_put, table_properties_put, tables_put, version_put, view_properties_put, view_schemas_put, view_version_put, view_weight_put, views_put, weight_put}
use Rattle.pol_bounds.proofs.CountedLemmas.{count-catalogs, count-principals, count-principal_roles, count-catalog_roles, count-members, count-joins, count-grants, count-namespaces, count-tables, count-views, filter-alone, of_kind, Fails, filter-quiet}
use Rattle.pol_rules.proofs.RulesLemmas.{first-joined, refused-not}

-- whether any passes a test is told by those that do
any-filtered : {X : Type 0} (test : X → Bool) (xs : List X) → list_any test (filter test xs) ≡ list_any test xs
any-filtered test [] = refl
any-filtered test (x ∷ xs) = by (test x) refl (any-filtered test xs)
  where
    by : (b : Bool) → test x ≡ b → list_any test (filter test xs) ≡ list_any test xs → list_any test (cond b (x ∷ filter test xs) (filter test xs)) ≡ (b || list_any test xs)
    by true is rest = ap (λ b. b || list_any test (filter test xs)) is
    by false is rest = rest

any-alone : {X : Type 0} (test : X → Bool) (xs ys : List X) → filter test xs ≡ filter test ys → list_any test xs ≡ list_any test ys
any-alone test xs ys is = sym (any-filtered test xs) ∙ ap (list_any test) is ∙ any-filtered test ys

-- a test of the catalogs that are put
module _ (bound : ℕ) (number : CatalogRow → ℕ) where
  abbrev catalogs_above : Change → Bool
  catalogs_above change = nat_lt bound (number_of number (catalogs_put change))

  catalogs_zero : nat_lt bound 0 ≡ false
  catalogs_zero = le-ltb bound 0 (omega arith)

  catalogs-fail : (of : RowKind) → sameb the_type of kind.Catalog ≡ false → Fails catalogs_above of
  unfolding catalogs_put
  catalogs-fail kind.Principal apart = (λ row. catalogs_zero, λ gone. catalogs_zero)
  catalogs-fail kind.PrincipalRole apart = (λ row. catalogs_zero, λ gone. catalogs_zero)
  catalogs-fail kind.Catalog apart = absurd (true≢false apart)
  catalogs-fail kind.CatalogRole apart = (λ row. catalogs_zero, λ gone. catalogs_zero)
  catalogs-fail kind.Namespace apart = (λ row. catalogs_zero, λ gone. catalogs_zero)
  catalogs-fail kind.Table apart = (λ row. catalogs_zero, λ gone. catalogs_zero)
  catalogs-fail kind.View apart = (λ row. catalogs_zero, λ gone. catalogs_zero)
  catalogs-fail kind.Member apart = (λ row. catalogs_zero, λ gone. catalogs_zero)
  catalogs-fail kind.Join apart = (λ row. catalogs_zero, λ gone. catalogs_zero)
  catalogs-fail kind.Grant apart = (λ row. catalogs_zero, λ gone. catalogs_zero)
  catalogs-fail kind.Session apart = λ row. catalogs_zero
  catalogs-fail kind.Token apart = λ row. catalogs_zero

  catalogs-alone : (s t : Rows) → filter catalogs_above (changes_between s t) ≡ filter catalogs_above (of_kind kind.Catalog (row_changes s t))
  unfolding catalogs_put
  catalogs-alone s t =
      filter-alone s t catalogs_above kind.Catalog catalogs-fail (λ time. catalogs_zero) (λ id. catalogs_zero) (λ serial. catalogs_zero)

  catalogs-put : (row : CatalogRow) → catalogs_above (PutCatalog row) ≡ nat_lt bound (number row)
  unfolding catalogs_put rows_with
  catalogs-put row = refl

  catalogs-drop : (id : ℕ) → catalogs_above (DropCatalog id) ≡ false
  unfolding catalogs_put rows_without
  catalogs-drop id = catalogs_zero

  pub any-catalogs : (s t : Rows) → list_any (λ row. nat_lt bound (number row)) s.content.catalogs ≡ false → list_any catalogs_above (changes_between s t) ≡ list_any (λ row. nat_lt bound (number row)) t.content.catalogs
  any-catalogs s t none =
      any-alone catalogs_above (changes_between s t) (of_kind kind.Catalog (row_changes s t)) (catalogs-alone s t)
      ∙ any-changed catalog_id catalog.the_row.coded PutCatalog DropCatalog (λ row. nat_lt bound (number row)) catalogs_above s.content.catalogs t.content.catalogs none catalogs-put catalogs-drop

-- a test of the namespaces that are put
module _ (bound : ℕ) (number : NamespaceRow → ℕ) where
  abbrev namespaces_above : Change → Bool
  namespaces_above change = nat_lt bound (number_of number (namespaces_put change))

  namespaces_zero : nat_lt bound 0 ≡ false
  namespaces_zero = le-ltb bound 0 (omega arith)

  namespaces-fail : (of : RowKind) → sameb the_type of kind.Namespace ≡ false → Fails namespaces_above of
  unfolding namespaces_put
  namespaces-fail kind.Principal apart = (λ row. namespaces_zero, λ gone. namespaces_zero)
  namespaces-fail kind.PrincipalRole apart = (λ row. namespaces_zero, λ gone. namespaces_zero)
  namespaces-fail kind.Catalog apart = (λ row. namespaces_zero, λ gone. namespaces_zero)
  namespaces-fail kind.CatalogRole apart = (λ row. namespaces_zero, λ gone. namespaces_zero)
  namespaces-fail kind.Namespace apart = absurd (true≢false apart)
  namespaces-fail kind.Table apart = (λ row. namespaces_zero, λ gone. namespaces_zero)
  namespaces-fail kind.View apart = (λ row. namespaces_zero, λ gone. namespaces_zero)
  namespaces-fail kind.Member apart = (λ row. namespaces_zero, λ gone. namespaces_zero)
  namespaces-fail kind.Join apart = (λ row. namespaces_zero, λ gone. namespaces_zero)
  namespaces-fail kind.Grant apart = (λ row. namespaces_zero, λ gone. namespaces_zero)
  namespaces-fail kind.Session apart = λ row. namespaces_zero
  namespaces-fail kind.Token apart = λ row. namespaces_zero

  namespaces-alone : (s t : Rows) → filter namespaces_above (changes_between s t) ≡ filter namespaces_above (of_kind kind.Namespace (row_changes s t))
  unfolding namespaces_put
  namespaces-alone s t =
      filter-alone s t namespaces_above kind.Namespace namespaces-fail (λ time. namespaces_zero) (λ id. namespaces_zero) (λ serial. namespaces_zero)

  namespaces-put : (row : NamespaceRow) → namespaces_above (PutNamespace row) ≡ nat_lt bound (number row)
  unfolding namespaces_put rows_with
  namespaces-put row = refl

  namespaces-drop : (id : ℕ) → namespaces_above (DropNamespace id) ≡ false
  unfolding namespaces_put rows_without
  namespaces-drop id = namespaces_zero

  pub any-namespaces : (s t : Rows) → list_any (λ row. nat_lt bound (number row)) s.content.namespaces ≡ false → list_any namespaces_above (changes_between s t) ≡ list_any (λ row. nat_lt bound (number row)) t.content.namespaces
  any-namespaces s t none =
      any-alone namespaces_above (changes_between s t) (of_kind kind.Namespace (row_changes s t)) (namespaces-alone s t)
      ∙ any-changed namespace_id namespace.the_row.coded PutNamespace DropNamespace (λ row. nat_lt bound (number row)) namespaces_above s.content.namespaces t.content.namespaces none namespaces-put namespaces-drop

-- a test of the tables that are put
module _ (bound : ℕ) (number : TableRow → ℕ) where
  abbrev tables_above : Change → Bool
  tables_above change = nat_lt bound (number_of number (tables_put change))

  tables_zero : nat_lt bound 0 ≡ false
  tables_zero = le-ltb bound 0 (omega arith)

  tables-fail : (of : RowKind) → sameb the_type of kind.Table ≡ false → Fails tables_above of
  unfolding tables_put
  tables-fail kind.Principal apart = (λ row. tables_zero, λ gone. tables_zero)
  tables-fail kind.PrincipalRole apart = (λ row. tables_zero, λ gone. tables_zero)
  tables-fail kind.Catalog apart = (λ row. tables_zero, λ gone. tables_zero)
  tables-fail kind.CatalogRole apart = (λ row. tables_zero, λ gone. tables_zero)
  tables-fail kind.Namespace apart = (λ row. tables_zero, λ gone. tables_zero)
  tables-fail kind.Table apart = absurd (true≢false apart)
  tables-fail kind.View apart = (λ row. tables_zero, λ gone. tables_zero)
  tables-fail kind.Member apart = (λ row. tables_zero, λ gone. tables_zero)
  tables-fail kind.Join apart = (λ row. tables_zero, λ gone. tables_zero)
  tables-fail kind.Grant apart = (λ row. tables_zero, λ gone. tables_zero)
  tables-fail kind.Session apart = λ row. tables_zero
  tables-fail kind.Token apart = λ row. tables_zero

  tables-alone : (s t : Rows) → filter tables_above (changes_between s t) ≡ filter tables_above (of_kind kind.Table (row_changes s t))
  unfolding tables_put
  tables-alone s t =
      filter-alone s t tables_above kind.Table tables-fail (λ time. tables_zero) (λ id. tables_zero) (λ serial. tables_zero)

  tables-put : (row : TableRow) → tables_above (PutTable row) ≡ nat_lt bound (number row)
  unfolding tables_put rows_with
  tables-put row = refl

  tables-drop : (id : ℕ) → tables_above (DropTable id) ≡ false
  unfolding tables_put rows_without
  tables-drop id = tables_zero

  pub any-tables : (s t : Rows) → list_any (λ row. nat_lt bound (number row)) s.content.tables ≡ false → list_any tables_above (changes_between s t) ≡ list_any (λ row. nat_lt bound (number row)) t.content.tables
  any-tables s t none =
      any-alone tables_above (changes_between s t) (of_kind kind.Table (row_changes s t)) (tables-alone s t)
      ∙ any-changed table_id table.the_row.coded PutTable DropTable (λ row. nat_lt bound (number row)) tables_above s.content.tables t.content.tables none tables-put tables-drop

-- a test of the views that are put
module _ (bound : ℕ) (number : ViewRow → ℕ) where
  abbrev views_above : Change → Bool
  views_above change = nat_lt bound (number_of number (views_put change))

  views_zero : nat_lt bound 0 ≡ false
  views_zero = le-ltb bound 0 (omega arith)

  views-fail : (of : RowKind) → sameb the_type of kind.View ≡ false → Fails views_above of
  unfolding views_put
  views-fail kind.Principal apart = (λ row. views_zero, λ gone. views_zero)
  views-fail kind.PrincipalRole apart = (λ row. views_zero, λ gone. views_zero)
  views-fail kind.Catalog apart = (λ row. views_zero, λ gone. views_zero)
  views-fail kind.CatalogRole apart = (λ row. views_zero, λ gone. views_zero)
  views-fail kind.Namespace apart = (λ row. views_zero, λ gone. views_zero)
  views-fail kind.Table apart = (λ row. views_zero, λ gone. views_zero)
  views-fail kind.View apart = absurd (true≢false apart)
  views-fail kind.Member apart = (λ row. views_zero, λ gone. views_zero)
  views-fail kind.Join apart = (λ row. views_zero, λ gone. views_zero)
  views-fail kind.Grant apart = (λ row. views_zero, λ gone. views_zero)
  views-fail kind.Session apart = λ row. views_zero
  views-fail kind.Token apart = λ row. views_zero

  views-alone : (s t : Rows) → filter views_above (changes_between s t) ≡ filter views_above (of_kind kind.View (row_changes s t))
  unfolding views_put
  views-alone s t =
      filter-alone s t views_above kind.View views-fail (λ time. views_zero) (λ id. views_zero) (λ serial. views_zero)

  views-put : (row : ViewRow) → views_above (PutView row) ≡ nat_lt bound (number row)
  unfolding views_put rows_with
  views-put row = refl

  views-drop : (id : ℕ) → views_above (DropView id) ≡ false
  unfolding views_put rows_without
  views-drop id = views_zero

  pub any-views : (s t : Rows) → list_any (λ row. nat_lt bound (number row)) s.content.views ≡ false → list_any views_above (changes_between s t) ≡ list_any (λ row. nat_lt bound (number row)) t.content.views
  any-views s t none =
      any-alone views_above (changes_between s t) (of_kind kind.View (row_changes s t)) (views-alone s t)
      ∙ any-changed view_id view.the_row.coded PutView DropView (λ row. nat_lt bound (number row)) views_above s.content.views t.content.views none views-put views-drop

-- next_ids that are set
module _ (bound : ℕ) where
  abbrev next_id_above : Change → Bool
  next_id_above change = nat_lt bound (id_set change)

  next_id_zero : nat_lt bound 0 ≡ false
  next_id_zero = le-ltb bound 0 (omega arith)

  next_id-fail : (of : RowKind) → Fails next_id_above of
  unfolding id_set
  next_id-fail kind.Principal = (λ row. next_id_zero, λ gone. next_id_zero)
  next_id-fail kind.PrincipalRole = (λ row. next_id_zero, λ gone. next_id_zero)
  next_id-fail kind.Catalog = (λ row. next_id_zero, λ gone. next_id_zero)
  next_id-fail kind.CatalogRole = (λ row. next_id_zero, λ gone. next_id_zero)
  next_id-fail kind.Namespace = (λ row. next_id_zero, λ gone. next_id_zero)
  next_id-fail kind.Table = (λ row. next_id_zero, λ gone. next_id_zero)
  next_id-fail kind.View = (λ row. next_id_zero, λ gone. next_id_zero)
  next_id-fail kind.Member = (λ row. next_id_zero, λ gone. next_id_zero)
  next_id-fail kind.Join = (λ row. next_id_zero, λ gone. next_id_zero)
  next_id-fail kind.Grant = (λ row. next_id_zero, λ gone. next_id_zero)
  next_id-fail kind.Session = λ row. next_id_zero
  next_id-fail kind.Token = λ row. next_id_zero

  next_id-quiet : (s t : Rows) → list_any next_id_above (in_turn (row_changes s t)) ≡ false
  next_id-quiet s t = any-alone next_id_above (in_turn (row_changes s t)) [] (filter-quiet s t next_id_above next_id-fail)

  id-next_id : (old new : ℕ) → nat_lt bound old ≡ false → list_any next_id_above (cond (old == new) [] (NextId new ∷ [])) ≡ nat_lt bound new
  unfolding id_set
  id-next_id old new none = by (old == new) refl
    where
      by : (b : Bool) → (old == new) ≡ b → list_any next_id_above (cond b [] (NextId new ∷ [])) ≡ nat_lt bound new
      by true is = sym none ∙ ap (nat_lt bound) (eqb-true old new is)
      by false is = or_false (nat_lt bound new)

  serial-next_id : (old new : ℕ) → nat_lt bound old ≡ false → list_any next_id_above (cond (old == new) [] (NextSerial new ∷ [])) ≡ false
  unfolding id_set
  serial-next_id old new none = by (old == new) refl
    where
      by : (b : Bool) → (old == new) ≡ b → list_any next_id_above (cond b [] (NextSerial new ∷ [])) ≡ false
      by true is = refl
      by false is = ap (λ b. b || false) next_id_zero

  time-next_id : (time : ℕ) → next_id_above (Time time) ≡ false
  unfolding id_set
  time-next_id time = next_id_zero

  pub any-next_id : (s t : Rows) → nat_lt bound s.next_id ≡ false → nat_lt bound s.next_serial ≡ false → (changes_between s t ≡ [] → t.next_id ≡ s.next_id) → list_any next_id_above (changes_between s t) ≡ nat_lt bound t.next_id
  unfolding changes_between
  any-next_id s t ids serials kept = by (in_turn (row_changes s t)) (next_id-quiet s t) kept
    where
      counters : List Change
      counters = id_change s t ++ serial_change s t

      by : (rows : List Change) → list_any next_id_above rows ≡ false → (headed t.time counters rows ≡ [] → t.next_id ≡ s.next_id) → list_any next_id_above (headed t.time counters rows) ≡ nat_lt bound t.next_id
      by [] quiet kept = sym (ap (nat_lt bound) (kept refl) ∙ ids)
      by (change ∷ changes) quiet kept =
          list_any-append next_id_above (Time t.time ∷ counters) (change ∷ changes)
          ∙ (λ i. (time-next_id t.time i || list_any-append next_id_above (id_change s t) (serial_change s t) i) || quiet i)
          ∙ (λ i. (id-next_id s.next_id t.next_id ids i || serial-next_id s.next_serial t.next_serial serials i) || false)
          ∙ ap (λ b. b || false) (or_false (nat_lt bound t.next_id)) ∙ or_false (nat_lt bound t.next_id)

-- next_serials that are set
module _ (bound : ℕ) where
  abbrev next_serial_above : Change → Bool
  next_serial_above change = nat_lt bound (serial_set change)

  next_serial_zero : nat_lt bound 0 ≡ false
  next_serial_zero = le-ltb bound 0 (omega arith)

  next_serial-fail : (of : RowKind) → Fails next_serial_above of
  unfolding serial_set
  next_serial-fail kind.Principal = (λ row. next_serial_zero, λ gone. next_serial_zero)
  next_serial-fail kind.PrincipalRole = (λ row. next_serial_zero, λ gone. next_serial_zero)
  next_serial-fail kind.Catalog = (λ row. next_serial_zero, λ gone. next_serial_zero)
  next_serial-fail kind.CatalogRole = (λ row. next_serial_zero, λ gone. next_serial_zero)
  next_serial-fail kind.Namespace = (λ row. next_serial_zero, λ gone. next_serial_zero)
  next_serial-fail kind.Table = (λ row. next_serial_zero, λ gone. next_serial_zero)
  next_serial-fail kind.View = (λ row. next_serial_zero, λ gone. next_serial_zero)
  next_serial-fail kind.Member = (λ row. next_serial_zero, λ gone. next_serial_zero)
  next_serial-fail kind.Join = (λ row. next_serial_zero, λ gone. next_serial_zero)
  next_serial-fail kind.Grant = (λ row. next_serial_zero, λ gone. next_serial_zero)
  next_serial-fail kind.Session = λ row. next_serial_zero
  next_serial-fail kind.Token = λ row. next_serial_zero

  next_serial-quiet : (s t : Rows) → list_any next_serial_above (in_turn (row_changes s t)) ≡ false
  next_serial-quiet s t = any-alone next_serial_above (in_turn (row_changes s t)) [] (filter-quiet s t next_serial_above next_serial-fail)

  id-next_serial : (old new : ℕ) → nat_lt bound old ≡ false → list_any next_serial_above (cond (old == new) [] (NextId new ∷ [])) ≡ false
  unfolding serial_set
  id-next_serial old new none = by (old == new) refl
    where
      by : (b : Bool) → (old == new) ≡ b → list_any next_serial_above (cond b [] (NextId new ∷ [])) ≡ false
      by true is = refl
      by false is = ap (λ b. b || false) next_serial_zero

  serial-next_serial : (old new : ℕ) → nat_lt bound old ≡ false → list_any next_serial_above (cond (old == new) [] (NextSerial new ∷ [])) ≡ nat_lt bound new
  unfolding serial_set
  serial-next_serial old new none = by (old == new) refl
    where
      by : (b : Bool) → (old == new) ≡ b → list_any next_serial_above (cond b [] (NextSerial new ∷ [])) ≡ nat_lt bound new
      by true is = sym none ∙ ap (nat_lt bound) (eqb-true old new is)
      by false is = or_false (nat_lt bound new)

  time-next_serial : (time : ℕ) → next_serial_above (Time time) ≡ false
  unfolding serial_set
  time-next_serial time = next_serial_zero

  pub any-next_serial : (s t : Rows) → nat_lt bound s.next_id ≡ false → nat_lt bound s.next_serial ≡ false → (changes_between s t ≡ [] → t.next_serial ≡ s.next_serial) → list_any next_serial_above (changes_between s t) ≡ nat_lt bound t.next_serial
  unfolding changes_between
  any-next_serial s t ids serials kept = by (in_turn (row_changes s t)) (next_serial-quiet s t) kept
    where
      counters : List Change
      counters = id_change s t ++ serial_change s t

      by : (rows : List Change) → list_any next_serial_above rows ≡ false → (headed t.time counters rows ≡ [] → t.next_serial ≡ s.next_serial) → list_any next_serial_above (headed t.time counters rows) ≡ nat_lt bound t.next_serial
      by [] quiet kept = sym (ap (nat_lt bound) (kept refl) ∙ serials)
      by (change ∷ changes) quiet kept =
          list_any-append next_serial_above (Time t.time ∷ counters) (change ∷ changes)
          ∙ (λ i. (time-next_serial t.time i || list_any-append next_serial_above (id_change s t) (serial_change s t) i) || quiet i)
          ∙ (λ i. (id-next_serial s.next_id t.next_id ids i || serial-next_serial s.next_serial t.next_serial serials i) || false)
          ∙ or_false (nat_lt bound t.next_serial)

-- what a state within its bounds has
pub record IsFew (s : Rows) : Type 0 where
  pub catalogs : length s.content.catalogs ≤ 100000
  pub principals : length s.access.principals ≤ 100000
  pub principal_roles : length s.access.principal_roles ≤ 100000
  pub catalog_roles : length s.access.catalog_roles ≤ 100000
  pub members : length s.access.members ≤ 100000
  pub joins : length s.access.joins ≤ 100000
  pub grants : length s.access.grants ≤ 100000
  pub namespaces : length s.content.namespaces ≤ 100000
  pub tables : length s.content.tables ≤ 100000
  pub views : length s.content.views ≤ 100000

pub few_rows : (s : Rows) → IsSound s → IsFew s
few_rows s sound =
    let passes = each-within s sound in
    let catalogs = above-within quantity.Catalogs (length s.content.catalogs) passes.0 in
    let principals = above-within quantity.Principals (length s.access.principals) passes.1.0 in
    let principal_roles = above-within quantity.PrincipalRoles (length s.access.principal_roles) passes.1.1.0 in
    let catalog_roles = above-within quantity.CatalogRoles (length s.access.catalog_roles) passes.1.1.1.0 in
    record {
      catalogs = omega (arith, catalogs);
      principals = omega (arith, principals);
      principal_roles = omega (arith, principal_roles);
      catalog_roles = omega (arith, catalog_roles);
      members = above-within quantity.Members (length s.access.members) passes.1.1.1.1.0;
      joins = above-within quantity.Joins (length s.access.joins) passes.1.1.1.1.1.0;
      grants = above-within quantity.Grants (length s.access.grants) passes.1.1.1.1.1.1.0;
      namespaces = above-within quantity.Namespaces (length s.content.namespaces) passes.1.1.1.1.1.1.1.0;
      tables = above-within quantity.Tables (length s.content.tables) passes.1.1.1.1.1.1.1.1.0;
      views = above-within quantity.Views (length s.content.views) passes.1.1.1.1.1.1.1.1.1.0;
    }

-- the first of some rules stands for them, whatever is behind, and whatever is before
nested-first : (rules rest : List (Option Refusal)) → first_refusal (first_refusal rules ∷ rest) ≡ first_refusal (rules ++ rest)
nested-first [] rest = refl
nested-first (None ∷ rules) rest = nested-first rules rest
nested-first (Some why ∷ rules) rest = refl

nested : (before rules rest : List (Option Refusal)) → first_refusal (before ++ first_refusal rules ∷ rest) ≡ first_refusal (before ++ (rules ++ rest))
nested [] rules rest = nested-first rules rest
nested (None ∷ before) rules rest = nested before rules rest
nested (Some why ∷ before) rules rest = refl

-- the bounds of the numbers that changes put, each by itself: of a table's parts, of properties, and of all
abbrev parts_put : List Change → List (Option Refusal)
parts_put changes =
    any_above quantity.Schemas schemas_put changes
    ∷ any_above quantity.PartitionSpecs specs_put changes
    ∷ any_above quantity.SortOrders orders_put changes
    ∷ any_above quantity.Refs refs_put changes
    ∷ any_above quantity.Schemas view_schemas_put changes
    ∷ any_above quantity.Snapshots snapshots_put changes
    ∷ []

abbrev properties_put : List Change → List (Option Refusal)
properties_put changes =
    any_above quantity.Properties catalog_properties_put changes
    ∷ any_above quantity.Properties namespace_properties_put changes
    ∷ any_above quantity.Properties table_properties_put changes
    ∷ any_above quantity.Properties view_properties_put changes
    ∷ []

abbrev others_put : List Change → List (Option Refusal)
others_put changes =
    any_above quantity.Weight weight_put changes
    ∷ any_above quantity.Weight view_weight_put changes
    ∷ any_above quantity.NextId id_set changes
    ∷ any_above quantity.NextSerial serial_set changes
    ∷ any_above quantity.Version version_put changes
    ∷ any_above quantity.Version view_version_put changes
    ∷ []

abbrev each_put : List Change → List (Option Refusal)
each_put changes = any_above quantity.AllowedLocations allowed_put changes ∷ (parts_put changes ++ (properties_put changes ++ others_put changes))

-- they refuse as they do where parts stand for one, and properties
put-together : (changes : List Change) → first_refusal (limits_put changes) ≡ first_refusal (each_put changes)
unfolding part_limits property_limits
put-together changes =
    let allowed = any_above quantity.AllowedLocations allowed_put changes in
    nested (allowed ∷ []) (parts_put changes) (first_refusal (properties_put changes) ∷ others_put changes)
    ∙ nested (allowed ∷ parts_put changes) (properties_put changes) (others_put changes)

module _ (s t : Rows) (sound : IsSound s) (new : IsOrderly t) (charge : ℕ) (leads : applied (changes_between s t) t.time charge s ≡ t) where
  counted : {A : Type 0} (count : (IsSoundAccess s.next_id s.access) → (IsSoundAccess t.next_id t.access) → (IsSoundContent s.next_id s.content) → (IsSoundContent t.next_id t.content) → A) → A
  counted count = count sound.orderly.access new.access sound.orderly.content new.content

  kept : changes_between s t ≡ [] → t ≡ applied [] t.time charge s
  kept none = sym leads ∙ ap (λ changes. applied changes t.time charge s) none

  -- a bound of catalogues, of namespaces, of tables and of views, none of which was passed before
  catalogs-between : (bounded : Quantity) (number : CatalogRow → ℕ) → any_above bounded number s.content.catalogs ≡ None → any_above bounded number t.content.catalogs ≡ any_above bounded (λ change. number_of number (catalogs_put change)) (changes_between s t)
  catalogs-between bounded number passes =
      ap (λ is. refuse_if is (Limit bounded (bound_of bounded))) (sym (any-catalogs (bound_of bounded) number s t (refused-not (list_any (λ row. nat_lt (bound_of bounded) (number row)) s.content.catalogs) (Limit bounded (bound_of bounded)) passes)))

  namespaces-between : (bounded : Quantity) (number : NamespaceRow → ℕ) → any_above bounded number s.content.namespaces ≡ None → any_above bounded number t.content.namespaces ≡ any_above bounded (λ change. number_of number (namespaces_put change)) (changes_between s t)
  namespaces-between bounded number passes =
      ap (λ is. refuse_if is (Limit bounded (bound_of bounded))) (sym (any-namespaces (bound_of bounded) number s t (refused-not (list_any (λ row. nat_lt (bound_of bounded) (number row)) s.content.namespaces) (Limit bounded (bound_of bounded)) passes)))

  tables-between : (bounded : Quantity) (number : TableRow → ℕ) → any_above bounded number s.content.tables ≡ None → any_above bounded number t.content.tables ≡ any_above bounded (λ change. number_of number (tables_put change)) (changes_between s t)
  tables-between bounded number passes =
      ap (λ is. refuse_if is (Limit bounded (bound_of bounded))) (sym (any-tables (bound_of bounded) number s t (refused-not (list_any (λ row. nat_lt (bound_of bounded) (number row)) s.content.tables) (Limit bounded (bound_of bounded)) passes)))

  views-between : (bounded : Quantity) (number : ViewRow → ℕ) → any_above bounded number s.content.views ≡ None → any_above bounded number t.content.views ≡ any_above bounded (λ change. number_of number (views_put change)) (changes_between s t)
  views-between bounded number passes =
      ap (λ is. refuse_if is (Limit bounded (bound_of bounded))) (sym (any-views (bound_of bounded) number s t (refused-not (list_any (λ row. nat_lt (bound_of bounded) (number row)) s.content.views) (Limit bounded (bound_of bounded)) passes)))

  limits-between : over_limit t ≡ first_refusal (limits_of (counts_after s (changes_between s t)) ++ each_put (changes_between s t))
  unfolding over_limit
  limits-between =
      let passes = each-within s sound in
      let ids = refused-not (nat_lt (2 ^ 62) s.next_id) (Limit quantity.NextId (2 ^ 62)) passes.1.1.1.1.1.1.1.1.1.1.1.1.1.1.1.1.1.1.1.1.1.1.1.0 in
      let serials = refused-not (nat_lt (2 ^ 62) s.next_serial) (Limit quantity.NextSerial (2 ^ 62)) passes.1.1.1.1.1.1.1.1.1.1.1.1.1.1.1.1.1.1.1.1.1.1.1.1.0 in
      λ i. first_refusal (
      above quantity.Catalogs (sym (counted (count-catalogs s t)) i)
      ∷ above quantity.Principals (sym (counted (count-principals s t)) i)
      ∷ above quantity.PrincipalRoles (sym (counted (count-principal_roles s t)) i)
      ∷ above quantity.CatalogRoles (sym (counted (count-catalog_roles s t)) i)
      ∷ above quantity.Members (sym (counted (count-members s t)) i)
      ∷ above quantity.Joins (sym (counted (count-joins s t)) i)
      ∷ above quantity.Grants (sym (counted (count-grants s t)) i)
      ∷ above quantity.Namespaces (sym (counted (count-namespaces s t)) i)
      ∷ above quantity.Tables (sym (counted (count-tables s t)) i)
      ∷ above quantity.Views (sym (counted (count-views s t)) i)
      ∷ catalogs-between quantity.AllowedLocations allowed_count passes.1.1.1.1.1.1.1.1.1.1.0 i
      ∷ tables-between quantity.Schemas schema_count passes.1.1.1.1.1.1.1.1.1.1.1.0 i
      ∷ tables-between quantity.PartitionSpecs spec_count passes.1.1.1.1.1.1.1.1.1.1.1.1.0 i
      ∷ tables-between quantity.SortOrders order_count passes.1.1.1.1.1.1.1.1.1.1.1.1.1.0 i
      ∷ tables-between quantity.Refs ref_count passes.1.1.1.1.1.1.1.1.1.1.1.1.1.1.0 i
      ∷ views-between quantity.Schemas view_schemas passes.1.1.1.1.1.1.1.1.1.1.1.1.1.1.1.0 i
      ∷ tables-between quantity.Snapshots snapshot_count passes.1.1.1.1.1.1.1.1.1.1.1.1.1.1.1.1.0 i
      ∷ catalogs-between quantity.Properties catalog_properties passes.1.1.1.1.1.1.1.1.1.1.1.1.1.1.1.1.1.0 i
      ∷ namespaces-between quantity.Properties namespace_properties passes.1.1.1.1.1.1.1.1.1.1.1.1.1.1.1.1.1.1.0 i
      ∷ tables-between quantity.Properties table_properties passes.1.1.1.1.1.1.1.1.1.1.1.1.1.1.1.1.1.1.1.0 i
      ∷ views-between quantity.Properties view_properties passes.1.1.1.1.1.1.1.1.1.1.1.1.1.1.1.1.1.1.1.1.0 i
      ∷ tables-between quantity.Weight table_weight passes.1.1.1.1.1.1.1.1.1.1.1.1.1.1.1.1.1.1.1.1.1.0 i
      ∷ views-between quantity.Weight view_weight passes.1.1.1.1.1.1.1.1.1.1.1.1.1.1.1.1.1.1.1.1.1.1.0 i
      ∷ refuse_if (sym (any-next_id (2 ^ 62) s t ids serials (λ none. ap (λ (rows : Rows). rows.next_id) (kept none))) i) (Limit quantity.NextId (2 ^ 62))
      ∷ refuse_if (sym (any-next_serial (2 ^ 62) s t ids serials (λ none. ap (λ (rows : Rows). rows.next_serial) (kept none))) i) (Limit quantity.NextSerial (2 ^ 62))
      ∷ tables-between quantity.Version table_version passes.1.1.1.1.1.1.1.1.1.1.1.1.1.1.1.1.1.1.1.1.1.1.1.1.1.0 i
      ∷ views-between quantity.Version view_version passes.1.1.1.1.1.1.1.1.1.1.1.1.1.1.1.1.1.1.1.1.1.1.1.1.1.1.0 i
      ∷ [])

-- they are judged on the changes, how many rows there are first
pub limits-after : (s : Rows) → IsSound s → (after : Rows) (charge : ℕ) (changes : List Change) → IsOrderly after → changes ≡ changes_between s after → applied changes after.time charge s ≡ after → over_limit after ≡ option_or (first_refusal (limits_of (counts_after s changes))) (first_refusal (limits_put changes))
limits-after s sound after charge changes orderly is leads =
    limits-between s after sound orderly charge (ap (λ made. applied made after.time charge s) (sym is) ∙ leads)
    ∙ ap (λ made. first_refusal (limits_of (counts_after s made) ++ each_put made)) (sym is)
    ∙ first-joined (limits_of (counts_after s changes)) (each_put changes)
    ∙ ap (option_or (first_refusal (limits_of (counts_after s changes)))) (sym (put-together changes))

-- an id is known exactly where its row is found
pub known_row : {R : Type 0} (key : R → ℕ) (id : ℕ) (rows : List R) (found : Option R) → found ≡ row_of key id rows → knows key id rows ≡ is_some found
known_row key id rows found is = sym (is_some-row_of key id rows) ∙ ap is_some (sym is)

-- a weight as 64 bits tell it is above the bound of weights exactly where it is so itself
pub heavy_capped : (weight : ℕ) → nat_lt 16777216 (capped weight) ≡ nat_lt 16777216 weight
unfolding capped
heavy_capped weight = by (nat_lt (2 ^ 64 - 1) weight) refl
  where
    by : (b : Bool) → nat_lt (2 ^ 64 - 1) weight ≡ b → nat_lt 16777216 (min weight (2 ^ 64 - 1)) ≡ nat_lt 16777216 weight
    by true is =
        let more = ltb-true (2 ^ 64 - 1) weight is in
        ap (nat_lt 16777216) (min-eq_right {n = 2 ^ 64 - 1} {m = weight} (omega (arith, more))) ∙ sym (lt-ltb 16777216 weight (omega (arith, more)))
    by false is = ap (nat_lt 16777216) (min-eq_left (ltb-false (2 ^ 64 - 1) weight is))
