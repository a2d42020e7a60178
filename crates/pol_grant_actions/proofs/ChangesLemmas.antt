-- The changes of the actions on catalogue roles, joins and grants.
use Rattle.std.proofs.Common.{◌≡◌, ◌+◌, true, false, [], ◌∷◌, ◌++◌, filter, map, Some, refl, ap, ◌∙◌, arith, append-nil}
use Rattle.pol_access.specs.Access.{catalog_role_id}
use Rattle.pol_access.specs.Order.{grant_cmp, grants_in_order, join_cmp, joins_in_order}
use Rattle.pol_access.specs.Referent.{grant_names, join_names}
use Rattle.pol_access.specs.contracts.rows.CatalogRoleRow as catalog_role
use Rattle.pol_access.specs.contracts.rows.GrantRow as grant
use Rattle.pol_access.specs.contracts.rows.JoinRow as join
use Rattle.pol_access.specs.declared.referent.Referent.TheVariants as referent
use Rattle.pol_access.specs.declared.rows.CatalogRoleRow.{CatalogRoleRow}
use Rattle.pol_access.specs.declared.rows.GrantRow.{GrantRow}
use Rattle.pol_access.specs.declared.rows.JoinRow.{JoinRow}
use Rattle.pol_access.proofs.ReferentLemmas.{named_is_dropped}
use Rattle.pol_tables.specs.Facts.{holds}
use Rattle.pol_tables.specs.Table.{row_of, IdsDiffer}
use Rattle.pol_tables.proofs.ChangesLemmas.{table_changes-put_new, table_changes-take}
use Rattle.pol_tables.proofs.FactChangesLemmas.{fact_changes-put_known, fact_changes-put_new, fact_changes-take}
use Rattle.pol_tables.proofs.RisingLemmas.{IdsDiffer-rising}
use Rattle.pol_content.specs.declared.change.Change.TheVariants.{Time, NextId, PutCatalogRole, DropCatalogRole, PutJoin, DropJoin, PutGrant, DropGrant}
use Rattle.pol_commands.specs.declared.command.Command.{Command}
use Rattle.pol_state.specs.Changes.{changes_between}
use Rattle.pol_state.specs.Rows.{Rows}
use Rattle.pol_state.specs.Sound.{IsSound}
use Rattle.pol_state.proofs.ChangesLemmas.{made-in_place, made-with_ids, none, still}
use Rattle.pol_rules.specs.Acting.{stamped}
use Rattle.pol_rules.specs.Rules.{time_of}
use Rattle.pol_rules.proofs.SoundLemmas.{next-new}
use Rattle.pol_grant_actions.specs.CatalogRoles.{with_catalog_role, without_catalog_role}
use Rattle.pol_grant_actions.specs.Grants.{with_grant, without_grant}
use Rattle.pol_grant_actions.specs.Joins.{with_join, without_join}

module _ (s : Rows) (command : Command) where
  -- a join that is there is put without a change, and one that isn't by one
  pub known_join_changes : (row : JoinRow) → holds join.the_row.coded row s.access.joins ≡ true → changes_between s (stamped s command (with_join s row)) ≡ []
  known_join_changes row known =
      made-in_place s (stamped s command (with_join s row)) none refl refl (λ i. record (still s i) { joins = fact_changes-put_known join.the_row.coded join_cmp PutJoin DropJoin row s.access.joins known i })

  pub new_join_changes : (row : JoinRow) → holds join.the_row.coded row s.access.joins ≡ false → changes_between s (stamped s command (with_join s row)) ≡ Time (time_of s command) ∷ PutJoin row ∷ []
  new_join_changes row new =
      made-in_place s (stamped s command (with_join s row)) (record none { joins = PutJoin row ∷ [] }) refl refl (λ i. record (still s i) { joins = fact_changes-put_new join.the_row.coded join_cmp PutJoin DropJoin row s.access.joins new i })

  -- a grant that is there is put without a change, and one that isn't by one
  pub known_grant_changes : (row : GrantRow) → holds grant.the_row.coded row s.access.grants ≡ true → changes_between s (stamped s command (with_grant s row)) ≡ []
  known_grant_changes row known =
      made-in_place s (stamped s command (with_grant s row)) none refl refl (λ i. record (still s i) { grants = fact_changes-put_known grant.the_row.coded grant_cmp PutGrant DropGrant row s.access.grants known i })

  pub new_grant_changes : (row : GrantRow) → holds grant.the_row.coded row s.access.grants ≡ false → changes_between s (stamped s command (with_grant s row)) ≡ Time (time_of s command) ∷ PutGrant row ∷ []
  new_grant_changes row new =
      made-in_place s (stamped s command (with_grant s row)) (record none { grants = PutGrant row ∷ [] }) refl refl (λ i. record (still s i) { grants = fact_changes-put_new grant.the_row.coded grant_cmp PutGrant DropGrant row s.access.grants new i })

  module _ (sound : IsSound s) where
    catalog_roles-differ : IdsDiffer catalog_role_id s.access.catalog_roles
    catalog_roles-differ = IdsDiffer-rising catalog_role_id s.access.catalog_roles sound.orderly.access.catalog_roles.rise

    -- a join that is there is taken away
    pub ended_join_changes : (row : JoinRow) → holds join.the_row.coded row s.access.joins ≡ true → changes_between s (stamped s command (without_join s row)) ≡ Time (time_of s command) ∷ DropJoin row ∷ []
    ended_join_changes row there =
        made-in_place s (stamped s command (without_join s row)) (record none { joins = DropJoin row ∷ [] }) refl refl (λ i. record (still s i) { joins = fact_changes-take join.the_row.coded join_cmp PutJoin DropJoin row s.access.joins sound.orderly.access.joins.differ there i })

    -- a grant that is there is taken away
    pub ended_grant_changes : (row : GrantRow) → holds grant.the_row.coded row s.access.grants ≡ true → changes_between s (stamped s command (without_grant s row)) ≡ Time (time_of s command) ∷ DropGrant row ∷ []
    ended_grant_changes row there =
        made-in_place s (stamped s command (without_grant s row)) (record none { grants = DropGrant row ∷ [] }) refl refl (λ i. record (still s i) { grants = fact_changes-take grant.the_row.coded grant_cmp PutGrant DropGrant row s.access.grants sound.orderly.access.grants.differ there i })

    -- a catalogue role that takes the next id
    pub catalog_role_changes : (row : CatalogRoleRow) → row.id ≡ s.next_id → changes_between s (stamped s command (with_catalog_role s row)) ≡ Time (time_of s command) ∷ NextId (s.next_id + 1) ∷ PutCatalogRole row ∷ []
    catalog_role_changes row id =
        let new = next-new catalog_role_id s.next_id row.id s.access.catalog_roles sound.orderly.access.catalog_roles id in
        made-with_ids s (stamped s command (with_catalog_role s row)) 1 (record none { catalog_roles = PutCatalogRole row ∷ [] }) (omega arith) refl refl (λ i. record (still s i) { catalog_roles = table_changes-put_new catalog_role.the_row.coded catalog_role_id PutCatalogRole DropCatalogRole row s.access.catalog_roles new i })

    -- a catalogue role that is taken away, with its joins and grants
    pub dropped_catalog_role_changes : (row : CatalogRoleRow) → row_of catalog_role_id row.id s.access.catalog_roles ≡ Some row
        → changes_between s (stamped s command (without_catalog_role s row))
        ≡ Time (time_of s command) ∷ DropCatalogRole row.id ∷ map DropJoin (joins_in_order (filter (join_names s.access.catalog_roles (referent.CatalogRole row.id)) s.access.joins)) ++ map DropGrant (grants_in_order (filter (grant_names s.access.catalog_roles (referent.CatalogRole row.id)) s.access.grants))
    dropped_catalog_role_changes row there =
        let named = named_is_dropped s.access (referent.CatalogRole row.id) in
        let joins = map DropJoin (joins_in_order (filter (join_names s.access.catalog_roles (referent.CatalogRole row.id)) s.access.joins)) in
        let grants = map DropGrant (grants_in_order (filter (grant_names s.access.catalog_roles (referent.CatalogRole row.id)) s.access.grants)) in
        made-in_place s (stamped s command (without_catalog_role s row)) (record none { catalog_roles = DropCatalogRole row.id ∷ []; joins = joins; grants = grants }) refl refl (λ i. record (still s i) {
          catalog_roles = table_changes-take catalog_role.the_row.coded catalog_role_id PutCatalogRole DropCatalogRole row.id row s.access.catalog_roles catalog_roles-differ there i;
          joins = named.1 PutJoin DropJoin i;
          grants = named.2 PutGrant DropGrant i;
        }) ∙ ap (λ rest. Time (time_of s command) ∷ DropCatalogRole row.id ∷ joins ++ rest) (append-nil grants)
