-- The bounds of a state once a row is put.
use Rattle.std.proofs.Common.{◌≡◌, ℕ, ◌+◌, Bool, true, false, nat_le, nat_lt, List, [], ◌∷◌, cond, length, length-append, None, ap, ◌∙◌, arith}
use Rattle.std.specs.Prelude.{Decides}
use Rattle.std.specs.List.{list_all, AllByRecursion}
use Rattle.std.proofs.lemmas.Bool.{le-leb, ltb-true}
use Rattle.std.proofs.lemmas.Bool.Decides.{Decides-and, Decides-like}
use Rattle.std.proofs.Math.ListN.{length-map}
use Rattle.pol_commands.specs.declared.reply.Quantity.TheVariants as quantity
use Rattle.pol_content.specs.declared.rows.NamespaceRow.{NamespaceRow}
use Rattle.pol_sound_access.proofs.DecidedLemmas.{each, passes}
use Rattle.pol_sound_bounds.specs.Judged.{bounds_fit, catalog_fits, counters_fit, counts_fit, facts_fit, fits, holders_fit, namespace_fits, parts_fit, rows_fit, table_fits, view_fits}
use Rattle.pol_sound_bounds.proofs.BoundLemmas.{bounds-decide}
use Rattle.pol_state.specs.Bounds.{over_limit}
use Rattle.pol_state.specs.Rows.{Rows}
use Rattle.pol_state.specs.Sound.{IsSound}
use Rattle.pol_table_rows.specs.declared.row.TableRow.{TableRow}
use Rattle.pol_view_rows.specs.declared.row.ViewRow.{ViewRow}
use Rattle.pol_tables.specs.Table.{has_id, knows, rows_with}
use Rattle.pol_tables.proofs.NamedLemmas.{each-rows_with}
use Rattle.pol_tables.proofs.TableLemmas.{rows_with-known, rows_with-new}

-- a test is passed
abbrev Is : Bool → Type 0
Is test = test ≡ true

-- the tests of bounds, each by itself: how many catalogues, namespaces, tables and views there are, how many rows of
-- access, the counters, and the numbers of catalogues, namespaces, tables and views
abbrev pub FewParts : Rows → Type 0
FewParts s =
    Is (fits quantity.Catalogs (length s.content.catalogs))
    × (Is (fits quantity.Namespaces (length s.content.namespaces))
    × (Is (fits quantity.Tables (length s.content.tables)) × Is (fits quantity.Views (length s.content.views))))

abbrev pub NumbersFit : Rows → Type 0
NumbersFit s =
    Is (list_all catalog_fits s.content.catalogs)
    × (Is (list_all namespace_fits s.content.namespaces)
    × (Is (list_all table_fits s.content.tables) × Is (list_all view_fits s.content.views)))

pub record Fits (s : Rows) : Type 0 where
  pub parts : FewParts s
  pub holders : Is (holders_fit s.access)
  pub facts : Is (facts_fit s.access)
  pub counters : Is (counters_fit s.next_id s.next_serial)
  pub numbers : NumbersFit s

module _ (s : Rows) where
  fit-decides : Decides (bounds_fit s.access s.content s.next_id s.next_serial) (Fits s)
  unfolding bounds_fit counts_fit rows_fit
  fit-decides =
      let few_catalogs = fits quantity.Catalogs (length s.content.catalogs) in
      let few_namespaces = fits quantity.Namespaces (length s.content.namespaces) in
      let few_tables = fits quantity.Tables (length s.content.tables) in
      let few_views = fits quantity.Views (length s.content.views) in
      let counters = counters_fit s.next_id s.next_serial in
      let catalogs = list_all catalog_fits s.content.catalogs in
      let namespaces = list_all namespace_fits s.content.namespaces in
      let tables = list_all table_fits s.content.tables in
      let views = list_all view_fits s.content.views in
      let parts = Decides-and few_catalogs _ (passes few_catalogs) (Decides-and few_namespaces _ (passes few_namespaces) (Decides-and few_tables few_views (passes few_tables) (passes few_views))) in
      let counts = Decides-and (parts_fit s.content) _ parts (Decides-and (holders_fit s.access) _ (passes (holders_fit s.access)) (Decides-and (facts_fit s.access) counters (passes (facts_fit s.access)) (passes counters))) in
      let rows = Decides-and catalogs _ (passes catalogs) (Decides-and namespaces _ (passes namespaces) (Decides-and tables views (passes tables) (passes views))) in
      Decides-like (bounds_fit s.access s.content s.next_id s.next_serial)
      (λ all. record { parts = all.0.0; holders = all.0.1.0; facts = all.0.1.1.0; counters = all.0.1.1.1; numbers = all.1 })
      (λ (f : Fits s). ((f.parts, (f.holders, (f.facts, f.counters))), f.numbers))
      (Decides-and (counts_fit s.access s.content s.next_id s.next_serial) (rows_fit s.content) counts rows)

  pub fits-of : IsSound s → Fits s
  fits-of sound = fit-decides.0 ((bounds-decide s).1 sound.within)

  pub within-of : Fits s → over_limit s ≡ None
  within-of f = (bounds-decide s).0 (fit-decides.1 f)

  -- with other tables, other namespaces, and other views
  pub tables-fit : (rows : List TableRow) → Fits s → Is (fits quantity.Tables (length rows)) → Is (list_all table_fits rows) → Fits (record s { content = record s.content { tables = rows } })
  tables-fit rows f few all = record {
    parts = (f.parts.0, (f.parts.1.0, (few, f.parts.1.1.1)));
    holders = f.holders;
    facts = f.facts;
    counters = f.counters;
    numbers = (f.numbers.0, (f.numbers.1.0, (all, f.numbers.1.1.1)));
  }

  pub namespaces-fit : (rows : List NamespaceRow) → Fits s → Is (fits quantity.Namespaces (length rows)) → Is (list_all namespace_fits rows) → Fits (record s { content = record s.content { namespaces = rows } })
  namespaces-fit rows f few all = record {
    parts = (f.parts.0, (few, f.parts.1.1));
    holders = f.holders;
    facts = f.facts;
    counters = f.counters;
    numbers = (f.numbers.0, (all, f.numbers.1.1));
  }

  pub views-fit : (rows : List ViewRow) → Fits s → Is (fits quantity.Views (length rows)) → Is (list_all view_fits rows) → Fits (record s { content = record s.content { views = rows } })
  views-fit rows f few all = record {
    parts = (f.parts.0, (f.parts.1.0, (f.parts.1.1.0, few)));
    holders = f.holders;
    facts = f.facts;
    counters = f.counters;
    numbers = (f.numbers.0, (f.numbers.1.0, (f.numbers.1.1.0, all)));
  }

module _ {R : Type 0} (key : R → ℕ) (row : R) (rows : List R) where
  -- a test that each row passes, once one is put
  pub all-with : (test : R → Bool) → list_all test rows ≡ true → test row ≡ true → list_all test (rows_with key row rows) ≡ true
  all-with test all one =
      let tested : (some : List R) → Decides (list_all test some) (AllByRecursion (λ kept. test kept ≡ true) some) = each test (λ kept. test kept ≡ true) (λ kept. passes (test kept)) in
      (tested (rows_with key row rows)).1 (each-rows_with key (λ kept. test kept ≡ true) (λ kept. test kept ≡ true) row rows ((tested rows).0 all) (λ kept passed apart. passed) one)

  -- a row in the place of another makes no more of them, and a new one makes one more
  pub same-length : knows key (key row) rows ≡ true → length (rows_with key row rows) ≡ length rows
  same-length known =
      ap length (rows_with-known key row rows known) ∙ length-map rows (λ kept. cond (has_id key (key row) kept) row kept)

  pub few-with : (bound : ℕ) → knows key (key row) rows ≡ false → nat_lt (length rows) bound ≡ true → nat_le (length (rows_with key row rows)) bound ≡ true
  few-with bound unknown few =
      let last : length (rows_with key row rows) ≡ length rows + 1 = ap length (rows_with-new key row rows unknown) ∙ length-append rows (row ∷ []) in
      le-leb (length (rows_with key row rows)) bound (omega (arith, last, ltb-true (length rows) bound few))
