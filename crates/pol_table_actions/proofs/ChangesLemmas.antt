-- The changes of the actions on tables.
use Rattle.std.proofs.Common.{◌≡◌, ℕ, ◌+◌, ◌≤◌, false, [], ◌∷◌, filter, map, Some, refl, ap, ◌∙◌, arith, append-nil}
use Rattle.pol_access.specs.Access.{catalog_role_id, principal_id, principal_role_id}
use Rattle.pol_access.specs.Order.{grants_in_order}
use Rattle.pol_access.specs.Referent.{grant_names}
use Rattle.pol_access.specs.declared.referent.Referent.TheVariants as referent
use Rattle.pol_access.specs.declared.securable.Securable.TheVariants as securable
use Rattle.pol_access.proofs.ReferentLemmas.{named_is_dropped}
use Rattle.pol_tables.specs.Table.{row_of, IdsDiffer}
use Rattle.pol_tables.proofs.ChangesLemmas.{table_changes-put_new, table_changes-take}
use Rattle.pol_tables.proofs.NumberedLemmas.{below-next}
use Rattle.pol_tables.proofs.RisingLemmas.{IdsDiffer-rising, knows-below, KeysBelow-more}
use Rattle.pol_commands.specs.declared.command.Command.{Command}
use Rattle.pol_content.specs.Ties.{is_access_id}
use Rattle.pol_content.specs.declared.change.Change.TheVariants.{Time, NextId, PutTable, DropTable, PutGrant, DropGrant}
use Rattle.pol_table_rows.specs.Tables.{table_id}
use Rattle.pol_table_rows.specs.contracts.row.TableRow as table
use Rattle.pol_table_rows.specs.declared.row.TableRow.{TableRow}
use Rattle.pol_state.specs.Changes.{changes_between}
use Rattle.pol_state.specs.Rows.{Rows}
use Rattle.pol_state.specs.Sound.{IsSound}
use Rattle.pol_state.proofs.ChangesLemmas.{none, still, made-with_ids, made-in_place}
use Rattle.pol_rules.specs.Acting.{stamped}
use Rattle.pol_rules.specs.Rules.{time_of}
use Rattle.pol_rules.proofs.SoundLemmas.{next-new}
use Rattle.pol_table_actions.specs.Creation.{with_table}
use Rattle.pol_table_actions.specs.Tables.{without_table}

-- an id that was not given out is no principal's and no role's
pub unknown-later : (s : Rows) → IsSound s → (id : ℕ) → s.next_id ≤ id → is_access_id id s.access ≡ false
unknown-later s sound id later =
    rw (knows-below principal_id id s.access.principals (KeysBelow-more principal_id s.next_id id s.access.principals later (below-next principal_id s.next_id s.access.principals sound.orderly.access.principals)), knows-below principal_role_id id s.access.principal_roles (KeysBelow-more principal_role_id s.next_id id s.access.principal_roles later (below-next principal_role_id s.next_id s.access.principal_roles sound.orderly.access.principal_roles)), knows-below catalog_role_id id s.access.catalog_roles (KeysBelow-more catalog_role_id s.next_id id s.access.catalog_roles later (below-next catalog_role_id s.next_id s.access.catalog_roles sound.orderly.access.catalog_roles))) refl

module _ (s : Rows) (command : Command) where
  module _ (sound : IsSound s) where
    tables-differ : IdsDiffer table_id s.content.tables
    tables-differ = IdsDiffer-rising table_id s.content.tables sound.orderly.content.tables.numbered.rise

    -- a table that takes the next id
    pub table_changes : (row : TableRow) → row.id ≡ s.next_id → changes_between s (stamped s command (with_table s row)) ≡ Time (time_of s command) ∷ NextId (s.next_id + 1) ∷ PutTable row ∷ []
    table_changes row id =
        let new = next-new table_id s.next_id row.id s.content.tables sound.orderly.content.tables.numbered id in
        made-with_ids s (stamped s command (with_table s row)) 1 (record none { tables = PutTable row ∷ [] }) (omega arith) refl refl (λ i. record (still s i) { tables = table_changes-put_new table.the_row.coded table_id PutTable DropTable row s.content.tables new i })

    -- a table that is taken away, with the grants on it
    pub dropped_table_changes : (row : TableRow) → row_of table_id row.id s.content.tables ≡ Some row
        → changes_between s (stamped s command (without_table s row)) ≡ Time (time_of s command) ∷ DropTable row.id ∷ map DropGrant (grants_in_order (filter (grant_names s.access.catalog_roles (referent.Securable (securable.Table row.id))) s.access.grants))
    dropped_table_changes row there =
        let named = named_is_dropped s.access (referent.Securable (securable.Table row.id)) in
        let grants = map DropGrant (grants_in_order (filter (grant_names s.access.catalog_roles (referent.Securable (securable.Table row.id))) s.access.grants)) in
        made-in_place s (stamped s command (without_table s row)) (record none { tables = DropTable row.id ∷ []; grants = grants }) refl refl (λ i. record (still s i) {
          tables = table_changes-take table.the_row.coded table_id PutTable DropTable row.id row s.content.tables tables-differ there i;
          grants = named.2 PutGrant DropGrant i;
        }) ∙ ap (λ rest. Time (time_of s command) ∷ DropTable row.id ∷ rest) (append-nil grants)
