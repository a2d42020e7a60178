-- What each action on catalogue roles, joins and grants owes.
use Rattle.std.proofs.Common.{ℕ, true, false, codes, List, refl}
use Rattle.pol_access.specs.Order.{grant_cmp, join_cmp}
use Rattle.pol_access.specs.Referent.{grant_names, join_names}
use Rattle.pol_access.specs.contracts.rows.GrantRow as grant_row
use Rattle.pol_access.specs.contracts.rows.JoinRow as join
use Rattle.pol_access.specs.declared.referent.Referent.TheVariants as referent
use Rattle.pol_tables.specs.Facts.{holds}
use Rattle.pol_tables.proofs.FactsLemmas.{facts_with-known}
use Rattle.pol_content.specs.Content.{catalog_named}
use Rattle.pol_content.specs.declared.change.Change.TheVariants.{PutJoin, DropJoin, PutGrant, DropGrant}
use Rattle.pol_commands.specs.declared.command.Command.{Command}
use Rattle.pol_commands.specs.declared.grants.Grant.{Grant}
use Rattle.pol_state.specs.Rows.{Rows}
use Rattle.pol_state.proofs.AppliedLemmas.{and_then, facts-dropped, facts_without-unknown}
use Rattle.pol_rules.specs.AccessRules.{catalog_role_at, grant_of, join_of}
use Rattle.pol_rules.specs.Acting.{Acting}
use Rattle.pol_rules.specs.Live.{live_part}
use Rattle.pol_rules.specs.Rules.{time_of}
use Rattle.pol_rules.proofs.FairLemmas.{none-fair, ◌⊳◌, fair-given, fair-in_catalog, fair-inside, fair-no_catalog_role, fair-no_grant, fair-no_join, fair-no_principal_role, fair-no_securable, fair-reserved, fair-reserved_grant, fair-reserved_join, fair-name_taken}
use Rattle.pol_rules.proofs.FoundLemmas.{at-own, role-at}
use Rattle.pol_rules.proofs.LeadsLemmas.{leads-by, leads-one}
use Rattle.pol_rules.proofs.OwesLemmas.{owes-apart, owes-done, owes-reading, Owes}
use Rattle.pol_grant_actions.specs.CatalogRoles.{create_catalog_role, drop_catalog_role, get_catalog_role, list_catalog_roles, with_role_in, without_catalog_role}
use Rattle.pol_grant_actions.specs.Grants.{add_grant, list_grants, revoke, with_grant, without_grant}
use Rattle.pol_grant_actions.specs.Joins.{add_join, end_join, list_joins, with_join, without_join}
use Rattle.pol_grant_actions.proofs.ChangesLemmas.{catalog_role_changes, dropped_catalog_role_changes, ended_grant_changes, ended_join_changes, new_grant_changes, new_join_changes}
use Rattle.pol_grant_actions.proofs.SoundLemmas.{orderly-add_grant, orderly-add_join, orderly-create_catalog_role, orderly-drop_catalog_role, orderly-end_join, orderly-revoke}

module _ (s : Rows) (command : Command) where
  abbrev live : Rows
  live = live_part s

  -- each action owes this, where it is like in the live part
  abbrev OwesAlike : (Rows → Acting) → Type 0
  OwesAlike act = Owes s command (act s) (act live)

  -- roles of catalogues
  pub owes-list_catalog_roles : (catalog : List ℕ) → OwesAlike (λ t. list_catalog_roles t command catalog)
  owes-list_catalog_roles catalog = owes-reading s command (fair-in_catalog command catalog none-fair)

  pub owes-create_catalog_role : (catalog name : List ℕ) → OwesAlike (λ t. create_catalog_role t command catalog name)
  owes-create_catalog_role catalog name = record {
    rows = owes-done s command (catalog_named catalog s.content) (with_role_in s name) (with_role_in live name) (λ owner found. owes-apart s command (with_role_in s name owner) refl (λ sound. leads-by s command (with_role_in s name owner) _ (catalog_role_changes s command sound (record { id = s.next_id; catalog = owner.id; name = name }) refl) refl));
    orderly = λ sound within passes. orderly-create_catalog_role s command sound within catalog name passes;
    fair = fair-in_catalog command catalog (fair-inside catalog (λ row. fair-name_taken _ name) ⊳ none-fair);
    answer = λ sound. refl;
  }

  pub owes-get_catalog_role : (catalog name : List ℕ) → OwesAlike (λ t. get_catalog_role t command catalog name)
  owes-get_catalog_role catalog name =
      owes-reading s command (fair-in_catalog command catalog (fair-inside catalog (fair-no_catalog_role name) ⊳ none-fair))

  pub owes-drop_catalog_role : (catalog name : List ℕ) → OwesAlike (λ t. drop_catalog_role t command catalog name)
  owes-drop_catalog_role catalog name = record {
    rows = owes-done s command (catalog_role_at s catalog name) _ _ (λ row found. owes-apart s command (without_catalog_role s row) refl (λ sound.
        let named = referent.CatalogRole row.id in
        let after : Rows = record (without_catalog_role s row) { time = time_of s command } in
        leads-by s command (without_catalog_role s row) _ (dropped_catalog_role_changes s command sound row (at-own s sound catalog name row (role-at s catalog name row found))) (and_then
        (facts-dropped join.the_row.coded join_cmp DropJoin (λ joins. record after { access = record after.access { joins = joins; grants = s.access.grants } }) (λ joins fact. refl) (join_names s.access.catalog_roles named) s.access.joins)
        (facts-dropped grant_row.the_row.coded grant_cmp DropGrant (λ grants. record after { access = record after.access { grants = grants } }) (λ grants fact. refl) (grant_names s.access.catalog_roles named) s.access.grants)).is));
    orderly = λ sound within passes. orderly-drop_catalog_role s command sound within catalog name passes;
    fair = fair-in_catalog command catalog (fair-inside catalog (fair-no_catalog_role name) ⊳ fair-reserved (codes "catalog_admin") name ⊳ none-fair);
    answer = λ sound. refl;
  }

  -- joins
  pub owes-list_joins : (catalog role : List ℕ) → OwesAlike (λ t. list_joins t command catalog role)
  owes-list_joins catalog role = owes-reading s command (fair-in_catalog command catalog (fair-no_principal_role role ⊳ none-fair))

  pub owes-add_join : (catalog role catalog_role : List ℕ) → OwesAlike (λ t. add_join t command catalog role catalog_role)
  unfolding join_of
  owes-add_join catalog role catalog_role = record {
    rows = owes-done s command (join_of s catalog role catalog_role) (with_join s) (with_join live) (λ row found. owes-apart s command (with_join s row) refl (λ sound.
        leads-one s command (with_join s row) (PutJoin row) true (holds join.the_row.coded row s.access.joins) (λ known. λ i. record s { access = record s.access { joins = facts_with-known join.the_row.coded row s.access.joins known i } }) (new_join_changes s command row) refl));
    orderly = λ sound within passes. orderly-add_join s command sound within catalog role catalog_role passes;
    fair = fair-in_catalog command catalog (fair-no_principal_role role ⊳ fair-inside catalog (fair-no_catalog_role catalog_role) ⊳ none-fair);
    answer = λ sound. refl;
  }

  pub owes-end_join : (catalog role catalog_role : List ℕ) → OwesAlike (λ t. end_join t command catalog role catalog_role)
  unfolding join_of
  owes-end_join catalog role catalog_role = record {
    rows = owes-done s command (join_of s catalog role catalog_role) _ _ (λ row found. owes-apart s command (without_join s row) refl (λ sound.
        leads-one s command (without_join s row) (DropJoin row) false (holds join.the_row.coded row s.access.joins) (λ none. λ i. record s { access = record s.access { joins = facts_without-unknown join.the_row.coded row s.access.joins none i } }) (ended_join_changes s command sound row) refl));
    orderly = λ sound within passes. orderly-end_join s command sound within catalog role catalog_role passes;
    fair = fair-in_catalog command catalog (fair-no_principal_role role ⊳ fair-inside catalog (fair-no_catalog_role catalog_role) ⊳ fair-given (join_of s catalog role catalog_role) (fair-no_join catalog_role) ⊳ fair-reserved_join role catalog_role ⊳ none-fair);
    answer = λ sound. refl;
  }

  -- grants
  pub owes-list_grants : (catalog role : List ℕ) → OwesAlike (λ t. list_grants t command catalog role)
  owes-list_grants catalog role =
      owes-reading s command (fair-in_catalog command catalog (fair-inside catalog (fair-no_catalog_role role) ⊳ none-fair))

  pub owes-add_grant : (catalog role : List ℕ) (grant : Grant) → OwesAlike (λ t. add_grant t command catalog role grant)
  unfolding grant_of
  owes-add_grant catalog role grant = record {
    rows = owes-done s command (grant_of s catalog role grant) (with_grant s) (with_grant live) (λ row found. owes-apart s command (with_grant s row) refl (λ sound.
        leads-one s command (with_grant s row) (PutGrant row) true (holds grant_row.the_row.coded row s.access.grants) (λ known. λ i. record s { access = record s.access { grants = facts_with-known grant_row.the_row.coded row s.access.grants known i } }) (new_grant_changes s command row) refl));
    orderly = λ sound within passes. orderly-add_grant s command sound within catalog role grant passes;
    fair = fair-in_catalog command catalog (fair-inside catalog (fair-no_securable grant.on) ⊳ fair-inside catalog (fair-no_catalog_role role) ⊳ none-fair);
    answer = λ sound. refl;
  }

  pub owes-revoke : (catalog role : List ℕ) (grant : Grant) → OwesAlike (λ t. revoke t command catalog role grant)
  unfolding grant_of
  owes-revoke catalog role grant = record {
    rows = owes-done s command (grant_of s catalog role grant) _ _ (λ row found. owes-apart s command (without_grant s row) refl (λ sound.
        leads-one s command (without_grant s row) (DropGrant row) false (holds grant_row.the_row.coded row s.access.grants) (λ none. λ i. record s { access = record s.access { grants = facts_without-unknown grant_row.the_row.coded row s.access.grants none i } }) (ended_grant_changes s command sound row) refl));
    orderly = λ sound within passes. orderly-revoke s command sound within catalog role grant passes;
    fair = fair-in_catalog command catalog (fair-inside catalog (fair-no_securable grant.on) ⊳ fair-inside catalog (fair-no_catalog_role role) ⊳ fair-given (grant_of s catalog role grant) fair-no_grant ⊳ fair-reserved_grant role grant ⊳ none-fair);
    answer = λ sound. refl;
  }
