-- The rows once a table is renamed are orderly.
use Rattle.std.proofs.Common.{◌≡◌, ℕ, true, false, List, Option, None, Some, is_some, option_and_then, nat_eq, refl, sym, ap, subst, ◌∙◌, arith}
use Rattle.std.specs.Option.{option_map}
use Rattle.std.specs.Str.{bytes_eq}
use Rattle.std.proofs.lemmas.Bool.{and_parts, eqb-true}
use Rattle.pol_access.proofs.KeptLemmas.{found-passes}
use Rattle.pol_tables.specs.Table.{has_id, knows, row_of, IdsDiffer}
use Rattle.pol_tables.proofs.NamedLemmas.{each-own}
use Rattle.pol_tables.proofs.RisingLemmas.{IdsDiffer-rising}
use Rattle.pol_tables.proofs.TableLemmas.{is_some-row_of, some_is}
use Rattle.pol_names.specs.declared.identifier.Identifier.{Identifier}
use Rattle.pol_table_rows.specs.Tables.{is_table_named, table_id, table_named}
use Rattle.pol_table_rows.specs.declared.row.TableRow.{TableRow}
use Rattle.pol_content.specs.Chain.{table_at}
use Rattle.pol_content.specs.Content.{catalog_named, is_namespace_named, namespace_id, namespace_named, part_named, same_levels}
use Rattle.pol_content.specs.Ties.{catalog_of_namespace, is_access_id}
use Rattle.pol_content.specs.declared.rows.CatalogRow.{CatalogRow}
use Rattle.pol_content.specs.declared.rows.NamespaceRow.{NamespaceRow}
use Rattle.pol_content.proofs.SoundLemmas as content
use Rattle.pol_content.proofs.TiedContentLemmas.{put_table}
use Rattle.pol_commands.specs.declared.command.Command.{Command}
use Rattle.pol_state.specs.Bounds.{EachPasses}
use Rattle.pol_state.specs.Rows.{Rows}
use Rattle.pol_state.specs.Sound.{IsOrderly, IsSound}
use Rattle.pol_rules.specs.Acting.{stamped}
use Rattle.pol_rules.specs.Prologues.{namespace_row_at, table_row_at}
use Rattle.pol_rules.specs.Rules.{given, name_taken}
use Rattle.pol_rules.proofs.FitLemmas.{fit-replaced}
use Rattle.pol_rules.proofs.FoundLemmas.{found-holds}
use Rattle.pol_rules.proofs.RulesLemmas.{name-free}
use Rattle.pol_rules.proofs.SoundLemmas.{orderly-done, tables-orderly, IsWithin}
use Rattle.pol_table_actions.proofs.ActionLemmas.{table-own}
use Rattle.pol_commit_actions.specs.Renaming.{rename_table, renamed, renamed_table, with_altered}

-- the table that is renamed, the namespace that it gets into, and the catalogue of both
pub record Renamed (s : Rows) (name : List ℕ) (source destination : Identifier) (row : TableRow) : Type 0 where
  pub catalog : CatalogRow
  pub catalog_is : catalog_named name s.content ≡ Some catalog
  pub old : TableRow
  pub old_is : table_at catalog.id source.namespace source.name s.content ≡ Some old
  pub namespace : NamespaceRow
  pub namespace_is : namespace_named catalog.id destination.namespace s.content ≡ Some namespace
  pub row_is : renamed destination.name old namespace ≡ row

renamed-parts : (s : Rows) (name : List ℕ) (source destination : Identifier) (row : TableRow) → renamed_table s name source destination ≡ Some row → Renamed s name source destination row
unfolding renamed_table table_row_at namespace_row_at
renamed-parts s name source destination row made = by (catalog_named name s.content) refl made
  where
    within : (catalog : CatalogRow) → catalog_named name s.content ≡ Some catalog
        → (found : Option TableRow) → table_at catalog.id source.namespace source.name s.content ≡ found
        → (there : Option NamespaceRow) → namespace_named catalog.id destination.namespace s.content ≡ there
        → option_and_then (λ (old : TableRow). option_map (renamed destination.name old) there) found ≡ Some row → Renamed s name source destination row
    within catalog is None none there at made = let contrary : None ≡ Some row = made in cc
    within catalog is (Some old) found None none made = let contrary : None ≡ Some row = made in cc
    within catalog is (Some old) found (Some namespace) at made = record {
      catalog = catalog;
      catalog_is = is;
      old = old;
      old_is = found;
      namespace = namespace;
      namespace_is = at;
      row_is = some_is (renamed destination.name old namespace) row made;
    }

    by : (found : Option CatalogRow) → catalog_named name s.content ≡ found
        → option_and_then (λ (old : TableRow). option_map (renamed destination.name old) (option_and_then (λ (catalog : CatalogRow). namespace_named catalog.id destination.namespace s.content) found)) (option_and_then (λ (catalog : CatalogRow). table_at catalog.id source.namespace source.name s.content) found) ≡ Some row
        → Renamed s name source destination row
    by None is made = let contrary : None ≡ Some row = made in cc
    by (Some catalog) is made =
        within catalog is (table_at catalog.id source.namespace source.name s.content) refl (namespace_named catalog.id destination.namespace s.content) refl made

module _ (s : Rows) (command : Command) (sound : IsSound s) where
  namespaces-differ : IdsDiffer namespace_id s.content.namespaces
  namespaces-differ = IdsDiffer-rising namespace_id s.content.namespaces sound.orderly.content.namespaces.rise

  -- a namespace that was found is there, in the catalogue in which it was sought
  namespace-own : (catalog : ℕ) (levels : List (List ℕ)) (row : NamespaceRow) → namespace_named catalog levels s.content ≡ Some row → row_of namespace_id row.id s.content.namespaces ≡ Some row
  namespace-own catalog levels row found =
      found-holds (λ one. row_of namespace_id (namespace_id one) s.content.namespaces ≡ Some one) (is_namespace_named catalog levels) s.content.namespaces row (each-own namespace_id s.content.namespaces namespaces-differ) found

  namespace-lies : (catalog : ℕ) (levels : List (List ℕ)) (row : NamespaceRow) → namespace_named catalog levels s.content ≡ Some row → catalog_of_namespace row.id s.content ≡ Some catalog
  namespace-lies catalog levels row found =
      let passes = found-passes (is_namespace_named catalog levels) s.content.namespaces row found in
      let parts = and_parts (nat_eq catalog row.catalog) (same_levels levels row.levels) passes in
      ap (option_map (λ (one : NamespaceRow). one.catalog)) (namespace-own catalog levels row found) ∙ ap Some (sym (eqb-true catalog row.catalog parts.0))

  -- and so does a table
  table-lies : (catalog : ℕ) (levels : List (List ℕ)) (name : List ℕ) (row : TableRow) (found : Option NamespaceRow) → namespace_named catalog levels s.content ≡ found
      → option_and_then (λ (namespace : NamespaceRow). table_named namespace.id name s.content.tables) found ≡ Some row → catalog_of_namespace row.namespace s.content ≡ Some catalog
  table-lies catalog levels name row None is none = let contrary : None ≡ Some row = none in cc
  table-lies catalog levels name row (Some namespace) is found =
      let passes = found-passes (is_table_named namespace.id name) s.content.tables row found in
      let parts = and_parts (nat_eq namespace.id row.namespace) (bytes_eq name row.name) passes in
      ap (λ id. catalog_of_namespace id s.content) (sym (eqb-true namespace.id row.namespace parts.0)) ∙ namespace-lies catalog levels namespace is

  module _ (within : IsWithin s command) where
    pub orderly-renamed : (name : List ℕ) (source destination : Identifier) → EachPasses (rename_table s command name source destination).rules → IsOrderly (stamped s command (rename_table s command name source destination).after)
    unfolding namespace_row_at table_row_at
    orderly-renamed name source destination passes = orderly-done s command sound within (renamed_table s name source destination) (with_altered s) (λ row made.
        let parts = renamed-parts s name source destination row made in
        let new = renamed destination.name parts.old parts.namespace in
        let at = ap (option_and_then (λ (catalog : CatalogRow). namespace_named catalog.id destination.namespace s.content)) parts.catalog_is ∙ parts.namespace_is in
        let free = name-free (part_named parts.namespace.id destination.name s.content) destination.name (sym (ap (λ one. given one (λ (namespace : NamespaceRow). name_taken (part_named namespace.id destination.name s.content) destination.name)) at) ∙ passes.1.1.1.1.1.1.0) in
        let own = table-own s command sound name source parts.old (ap (option_and_then (λ (catalog : CatalogRow). table_at catalog.id source.namespace source.name s.content)) parts.catalog_is ∙ parts.old_is) in
        let there : knows namespace_id parts.namespace.id s.content.namespaces ≡ true =
        sym (is_some-row_of namespace_id parts.namespace.id s.content.namespaces) ∙ ap is_some (namespace-own parts.catalog.id destination.namespace parts.namespace parts.namespace_is) in
        let unknown = found-holds (λ (one : TableRow). is_access_id one.id s.access ≡ false) (has_id table_id parts.old.id) s.content.tables parts.old sound.orderly.ties.ids_apart.tables own in
        let lies = table-lies parts.catalog.id source.namespace source.name parts.old (namespace_named parts.catalog.id source.namespace s.content) refl parts.old_is in
        let into = namespace-lies parts.catalog.id destination.namespace parts.namespace parts.namespace_is in
        subst (λ one. IsOrderly (stamped s command (with_altered s one))) parts.row_is
        (tables-orderly s command s.access (with_altered s new).content s.next_id sound within (omega arith) sound.orderly.access
        (content.renamed_table s.next_id s.content parts.old new sound.orderly.content own refl there free)
        (put_table s.access s.content sound.orderly.ties new (λ other known.
        into ∙ sym (ap (λ (one : TableRow). catalog_of_namespace one.namespace s.content) (some_is other parts.old (sym known ∙ own)) ∙ lies)) unknown)
        (fit-replaced s sound parts.old new own (record { moves = omega arith; stays = λ same. refl }))))

-- a table that is there doesn't have a name that none has
pub other-name : (rows : List TableRow) (row : TableRow) (namespace : ℕ) (name : List ℕ) → row_of table_id row.id rows ≡ Some row → table_named namespace name rows ≡ None → is_table_named namespace name row ≡ false
other-name rows row namespace name there free =
    found-holds (λ one. is_table_named namespace name one ≡ false) (has_id table_id row.id) rows row (content.each-fails (is_table_named namespace name) rows (content.none-found (is_table_named namespace name) rows free)) there
