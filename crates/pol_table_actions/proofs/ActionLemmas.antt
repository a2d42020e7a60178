-- The actions on tables keep a state orderly.
use Rattle.std.proofs.Common.{◌≡◌, ℕ, ◌+◌, ◌≤◌, ◌^◌, false, true, [], List, Option, None, Some, option_and_then, is_some, refl, sym, ap, subst, ◌∙◌, arith, true≢false}
use Rattle.std.proofs.Math.Logic.{∥∥₁_map}
use Rattle.std.specs.Option.{option_map}
use Rattle.pol_access.specs.declared.securable.Securable.TheVariants as securable
use Rattle.pol_access.proofs.SoundLemmas.{dropped_grants, more_ids as access_more_ids}
use Rattle.pol_tables.specs.Table.{knows, row_of, IdsDiffer}
use Rattle.pol_tables.proofs.NamedLemmas.{each-own}
use Rattle.pol_tables.proofs.NumberedLemmas.{below-next}
use Rattle.pol_tables.proofs.RisingLemmas.{IdsDiffer-rising, knows-below}
use Rattle.pol_tables.proofs.TableLemmas.{is_some-row_of, some_is}
use Rattle.pol_locations.specs.Location.{location_text}
use Rattle.pol_meta.specs.Creation.{create_refusal, created}
use Rattle.pol_meta.proofs.ValidLemmas.{created_valid}
use Rattle.pol_names.specs.declared.identifier.Identifier.{Identifier}
use Rattle.pol_properties.specs.Properties.{without_key}
use Rattle.pol_table_rows.specs.Sound.{IsSoundTable}
use Rattle.pol_table_rows.specs.Tables.{is_table_named, overlapping, table_id, table_named}
use Rattle.pol_table_rows.specs.declared.row.TableRow.{TableRow}
use Rattle.pol_content.specs.Chain.{table_at}
use Rattle.pol_content.specs.Content.{catalog_named, is_namespace_named, namespace_id, namespace_named, part_named}
use Rattle.pol_content.specs.Sound.{IsSoundContent}
use Rattle.pol_content.specs.Ties.{catalog_of_namespace}
use Rattle.pol_content.specs.declared.rows.CatalogRow.{CatalogRow}
use Rattle.pol_content.specs.declared.rows.NamespaceRow.{NamespaceRow}
use Rattle.pol_content.proofs.SoundLemmas.{dropped_table, new_rows_last, pushed_table}
use Rattle.pol_content.proofs.TiedContentLemmas as ties
use Rattle.pol_content.proofs.TiedContentLemmas.{put_table}
use Rattle.pol_commands.specs.declared.command.Command.{Command}
use Rattle.pol_commands.specs.declared.create_table.CreateTable.{CreateTable}
use Rattle.pol_commands.specs.declared.reply.Refusal.{Refusal}
use Rattle.pol_commands.specs.declared.reply.Refusal.TheVariants.{LocationOverlap, UpdateRefused}
use Rattle.pol_state.specs.Bounds.{EachPasses}
use Rattle.pol_state.specs.Rows.{Rows}
use Rattle.pol_state.specs.Sound.{IsOrderly, IsSound}
use Rattle.pol_rules.specs.Acting.{stamped}
use Rattle.pol_rules.specs.Prologues.{namespace_row_at, table_row_at}
use Rattle.pol_rules.specs.Rules.{given, inside, name_taken, time_of}
use Rattle.pol_rules.specs.TableRules.{bad_creation, format_key, location_asked, location_overlap}
use Rattle.pol_rules.proofs.FitLemmas.{fit-dropped, fit-placed}
use Rattle.pol_rules.proofs.FoundLemmas.{found-holds}
use Rattle.pol_rules.proofs.RulesLemmas.{name-free}
use Rattle.pol_rules.proofs.SoundLemmas.{next_id-some, orderly-done, tables-orderly, IsWithin}
use Rattle.pol_table_actions.specs.Creation.{create_table, metadata_at, new_table, table_in, table_placed, uuid_of, with_table}
use Rattle.pol_table_actions.specs.Tables.{drop_table, without_table}
use Rattle.pol_table_actions.proofs.ChangesLemmas.{unknown-later}

-- what is refused in no case was there in no case
mapped-none : {X : Type 0} (refuse : X → Refusal) (found : Option X) → option_map refuse found ≡ None → found ≡ None
mapped-none refuse None none = refl
mapped-none refuse (Some one) some = let contrary : Some (refuse one) ≡ None = some in cc

module _ (s : Rows) where
  location-clear : (location : List (List ℕ)) → location_overlap s location ≡ None → overlapping location [] s.content.tables ≡ None
  unfolding location_overlap
  location-clear location passes =
      mapped-none (λ (row : TableRow). LocationOverlap location row.location) (overlapping location [] s.content.tables) passes

  creation-passes : (request : CreateTable) → bad_creation request ≡ None → create_refusal request.schema request.partition_spec request.write_order ≡ None
  unfolding bad_creation
  creation-passes request passes =
      mapped-none (UpdateRefused 0 0) (create_refusal request.schema request.partition_spec request.write_order) passes

-- the catalogue and the namespace in which a new table is placed
pub record Placed (s : Rows) (command : Command) (name : List ℕ) (levels : List (List ℕ)) (request : CreateTable) (row : TableRow) : Type 0 where
  pub catalog : CatalogRow
  pub catalog_is : catalog_named name s.content ≡ Some catalog
  pub namespace : NamespaceRow
  pub namespace_is : namespace_named catalog.id levels s.content ≡ Some namespace
  pub row_is : table_placed s command request (location_asked levels request.location request.name catalog) namespace ≡ row

pub placed-parts : (s : Rows) (command : Command) (name : List ℕ) (levels : List (List ℕ)) (request : CreateTable) (row : TableRow) → new_table s command name levels request ≡ Some row → Placed s command name levels request row
unfolding new_table
placed-parts s command name levels request row made = by (catalog_named name s.content) refl made
  where
    within : (catalog : CatalogRow) → catalog_named name s.content ≡ Some catalog → (found : Option NamespaceRow) → namespace_named catalog.id levels s.content ≡ found
        → option_map (table_placed s command request (location_asked levels request.location request.name catalog)) found ≡ Some row → Placed s command name levels request row
    within catalog there None is none = let contrary : None ≡ Some row = none in cc
    within catalog there (Some namespace) is placed = record {
      catalog = catalog;
      catalog_is = there;
      namespace = namespace;
      namespace_is = is;
      row_is = some_is (table_placed s command request (location_asked levels request.location request.name catalog) namespace) row placed;
    }

    by : (found : Option CatalogRow) → catalog_named name s.content ≡ found → option_and_then (table_in s command levels request) found ≡ Some row → Placed s command name levels request row
    by None is none = let contrary : None ≡ Some row = none in cc
    by (Some catalog) is placed = within catalog is (namespace_named catalog.id levels s.content) refl placed

-- a new table takes the next id
pub placed-id : (s : Rows) (command : Command) (name : List ℕ) (levels : List (List ℕ)) (request : CreateTable) (row : TableRow) → new_table s command name levels request ≡ Some row → row.id ≡ s.next_id
placed-id s command name levels request row made =
    ap (λ (one : TableRow). one.id) (sym (placed-parts s command name levels request row made).row_is)

-- a new table is sound by itself
placed-sound : (s : Rows) (command : Command) (request : CreateTable) (location : List (List ℕ)) (namespace : NamespaceRow) → time_of s command ≤ 2 ^ 62 → create_refusal request.schema request.partition_spec request.write_order ≡ None
    → IsSoundTable (table_placed s command request location namespace)
unfolding metadata_at created
placed-sound s command request location namespace bound passes = record {
  metadata =
      ∥∥₁_map request.formed (λ forms. created_valid (uuid_of command.words.a command.words.b) (location_text location) request.schema request.partition_spec request.write_order (without_key format_key request.properties) (time_of s command) (forms (time_of s command) (omega (arith, bound))) passes);
  placed = refl;
  moved = omega arith;
}

module _ (s : Rows) (command : Command) where
  module _ (sound : IsSound s) where
    namespaces-differ : IdsDiffer namespace_id s.content.namespaces
    namespaces-differ = IdsDiffer-rising namespace_id s.content.namespaces sound.orderly.content.namespaces.rise

    tables-differ : IdsDiffer table_id s.content.tables
    tables-differ = IdsDiffer-rising table_id s.content.tables sound.orderly.content.tables.numbered.rise

    -- the namespace of levels that was found is there, and so is the table of a name
    namespace-there : (catalog : ℕ) (levels : List (List ℕ)) (row : NamespaceRow) → namespace_named catalog levels s.content ≡ Some row → knows namespace_id row.id s.content.namespaces ≡ true
    namespace-there catalog levels row found =
        sym (is_some-row_of namespace_id row.id s.content.namespaces) ∙ ap is_some (found-holds (λ one. row_of namespace_id (namespace_id one) s.content.namespaces ≡ Some one) (is_namespace_named catalog levels) s.content.namespaces row (each-own namespace_id s.content.namespaces namespaces-differ) found)

    table-in : (name : List ℕ) (row : TableRow) (found : Option NamespaceRow) → option_and_then (λ (namespace : NamespaceRow). table_named namespace.id name s.content.tables) found ≡ Some row → row_of table_id row.id s.content.tables ≡ Some row
    table-in name row None found = let contrary : None ≡ Some row = found in cc
    table-in name row (Some namespace) found =
        found-holds (λ one. row_of table_id (table_id one) s.content.tables ≡ Some one) (is_table_named namespace.id name) s.content.tables row (each-own table_id s.content.tables tables-differ) found

    table-of : (identifier : Identifier) (row : TableRow) (found : Option CatalogRow) → option_and_then (λ (catalog : CatalogRow). table_at catalog.id identifier.namespace identifier.name s.content) found ≡ Some row → row_of table_id row.id s.content.tables ≡ Some row
    table-of identifier row None found = let contrary : None ≡ Some row = found in cc
    table-of identifier row (Some catalog) found =
        table-in identifier.name row (namespace_named catalog.id identifier.namespace s.content) found

    pub table-own : (name : List ℕ) (identifier : Identifier) (row : TableRow) → table_row_at s name identifier ≡ Some row → row_of table_id row.id s.content.tables ≡ Some row
    unfolding table_row_at
    table-own name identifier row found = table-of identifier row (catalog_named name s.content) found

    module _ (within : IsWithin s command) where
      -- a table that is put
      orderly-with_table : (row : TableRow) → row.id ≡ s.next_id → knows namespace_id row.namespace s.content.namespaces ≡ true → part_named row.namespace row.name s.content ≡ None → overlapping row.location [] s.content.tables ≡ None → IsSoundTable row
          → IsOrderly (stamped s command (with_table s row))
      orderly-with_table row id there free clear itself =
          let pushed = pushed_table s.next_id s.content row sound.orderly.content (next_id-some s sound) id there free clear itself in
          let last = (new_rows_last s.next_id s.content sound.orderly.content).2 row id in
          let unknown = knows-below table_id s.next_id s.content.tables (below-next table_id s.next_id s.content.tables sound.orderly.content.tables.numbered) in
          tables-orderly s command s.access (with_table s row).content (s.next_id + 1) sound within (omega arith) (access_more_ids s.next_id (s.next_id + 1) s.access (omega arith) sound.orderly.access)
          (subst (λ rows. IsSoundContent (s.next_id + 1) (record s.content { tables = rows })) (sym last) pushed)
          (put_table s.access s.content sound.orderly.ties row (λ old known. unknown-row old (ap (λ n. row_of table_id n s.content.tables) (sym id) ∙ known) unknown) (unknown-later s sound row.id (omega (arith, id))))
          (fit-placed s sound row id)
        where
          unknown-row : (old : TableRow) → row_of table_id s.next_id s.content.tables ≡ Some old → knows table_id s.next_id s.content.tables ≡ false → catalog_of_namespace row.namespace s.content ≡ catalog_of_namespace old.namespace s.content
          unknown-row old known unknown = absurd (true≢false (sym (sym (is_some-row_of table_id s.next_id s.content.tables) ∙ ap is_some known) ∙ unknown))

      -- a new table that is put where its rules pass
      pub orderly-placed : (name : List ℕ) (levels : List (List ℕ)) (request : CreateTable) (row : TableRow) → new_table s command name levels request ≡ Some row
          → given (namespace_row_at s name levels) (λ (namespace : NamespaceRow). name_taken (part_named namespace.id request.name s.content) request.name) ≡ None → bad_creation request ≡ None
          → inside s name (λ (catalog : CatalogRow). location_overlap s (location_asked levels request.location request.name catalog)) ≡ None → IsOrderly (stamped s command (with_table s row))
      unfolding namespace_row_at
      orderly-placed name levels request row made free_passes creation overlap_passes =
          let parts = placed-parts s command name levels request row made in
          let location = location_asked levels request.location request.name parts.catalog in
          let at = ap (option_and_then (λ (catalog : CatalogRow). namespace_named catalog.id levels s.content)) parts.catalog_is ∙ parts.namespace_is in
          let taken = sym (ap (λ one. given one (λ (namespace : NamespaceRow). name_taken (part_named namespace.id request.name s.content) request.name)) at) ∙ free_passes in
          let free = name-free (part_named parts.namespace.id request.name s.content) request.name taken in
          let asked = creation-passes s request creation in
          let clear = location-clear s location (sym (ap (λ one. given one (λ (catalog : CatalogRow). location_overlap s (location_asked levels request.location request.name catalog))) parts.catalog_is) ∙ overlap_passes) in
          subst (λ one. IsOrderly (stamped s command (with_table s one))) parts.row_is (orderly-with_table (table_placed s command request location parts.namespace) refl (namespace-there parts.catalog.id levels parts.namespace parts.namespace_is) free clear (placed-sound s command request location parts.namespace within.time asked))

      pub orderly-create_table : (name : List ℕ) (levels : List (List ℕ)) (request : CreateTable) → EachPasses (create_table s command name levels request).rules → IsOrderly (stamped s command (create_table s command name levels request).after)
      orderly-create_table name levels request passes =
          orderly-done s command sound within (new_table s command name levels request) (with_table s) (λ row made. orderly-placed name levels request row made passes.1.1.1.1.0 passes.1.1.1.1.1.0 passes.1.1.1.1.1.1.1.1.0)

      -- a table that is dropped
      pub orderly-drop_table : (name : List ℕ) (identifier : Identifier) → EachPasses (drop_table s command name identifier).rules → IsOrderly (stamped s command (drop_table s command name identifier).after)
      orderly-drop_table name identifier passes = orderly-done s command sound within (table_row_at s name identifier) (without_table s) (λ row is.
          tables-orderly s command (without_table s row).access (without_table s row).content s.next_id sound within (omega arith) ((dropped_grants s.next_id s.access sound.orderly.access).1 (securable.Table row.id)) (dropped_table s.next_id row.id s.content sound.orderly.content)
          (ties.dropped_table s.access s.content sound.orderly.ties row.id) (fit-dropped s sound row.id))
