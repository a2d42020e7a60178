-- What each action on tables owes.
use Rattle.std.proofs.Common.{ℕ, Bool, List, refl}
use Rattle.pol_access.specs.Order.{grant_cmp}
use Rattle.pol_access.specs.Referent.{grant_names}
use Rattle.pol_access.specs.contracts.rows.GrantRow as grant
use Rattle.pol_access.specs.declared.referent.Referent.TheVariants as referent
use Rattle.pol_access.specs.declared.securable.Securable.TheVariants as securable
use Rattle.pol_commands.specs.declared.command.Command.{Command}
use Rattle.pol_commands.specs.declared.create_table.CreateTable.{CreateTable}
use Rattle.pol_names.specs.declared.identifier.Identifier.{Identifier}
use Rattle.pol_content.specs.declared.change.Change.TheVariants.{DropGrant}
use Rattle.pol_state.specs.Rows.{Rows}
use Rattle.pol_state.proofs.AppliedLemmas.{facts-dropped}
use Rattle.pol_rules.specs.Acting.{Acting}
use Rattle.pol_rules.specs.Live.{live_part}
use Rattle.pol_rules.specs.Prologues.{namespace_row_at, table_row_at}
use Rattle.pol_rules.specs.Rules.{time_of}
use Rattle.pol_rules.specs.TableRules.{location_asked}
use Rattle.pol_rules.proofs.FairLemmas.{none-fair, ◌⊳◌, fair-at_table, fair-bad_creation, fair-bad_location, fair-given, fair-inside, fair-location_outside, fair-location_overlap, fair-name_taken, fair-on_namespace, fair-other_format, fair-staged}
use Rattle.pol_rules.proofs.LeadsLemmas.{leads-by}
use Rattle.pol_rules.proofs.OwesLemmas.{owes-apart, owes-done, owes-reading, Owes}
use Rattle.pol_table_actions.specs.Creation.{create_table, metadata_at, new_table, with_table}
use Rattle.pol_table_actions.specs.Loading.{load_table}
use Rattle.pol_table_actions.specs.Tables.{drop_table, head_table, list_tables, report_metrics, without_table}
use Rattle.pol_table_actions.proofs.ActionLemmas.{orderly-create_table, orderly-drop_table, placed-id, table-own}
use Rattle.pol_table_actions.proofs.ChangesLemmas.{dropped_table_changes, table_changes}

module _ (s : Rows) (command : Command) where
  abbrev live : Rows
  live = live_part s

  -- each action owes this, where it is like in the live part
  abbrev OwesAlike : (Rows → Acting) → Type 0
  OwesAlike act = Owes s command (act s) (act live)

  pub owes-list_tables : (name : List ℕ) (levels : List (List ℕ)) → OwesAlike (λ t. list_tables t command name levels)
  unfolding namespace_row_at
  owes-list_tables name levels = owes-reading s command (fair-on_namespace command _ name levels none-fair)

  pub owes-create_table : (name : List ℕ) (levels : List (List ℕ)) (request : CreateTable) → OwesAlike (λ t. create_table t command name levels request)
  unfolding metadata_at namespace_row_at new_table
  owes-create_table name levels request = record {
    rows = owes-done s command (new_table s command name levels request) (with_table s) (with_table live) (λ row made. owes-apart s command (with_table s row) refl (λ sound.
        leads-by s command (with_table s row) _ (table_changes s command sound row (placed-id s command name levels request row made)) refl));
    orderly = λ sound within passes. orderly-create_table s command sound within name levels request passes;
    fair = fair-on_namespace command _ name levels (fair-given (namespace_row_at s name levels) (λ namespace. fair-name_taken _ request.name) ⊳ fair-bad_creation request ⊳ fair-inside name (fair-bad_location levels request.location request.name) ⊳ fair-inside name (λ catalog. fair-location_outside (location_asked levels request.location request.name catalog) catalog) ⊳ fair-inside name (λ catalog. fair-location_overlap (location_asked levels request.location request.name catalog)) ⊳ fair-staged request.stage_create ⊳ fair-other_format request.properties ⊳ none-fair);
    answer = λ sound. refl;
  }

  pub owes-load_table : (name : List ℕ) (identifier : Identifier) (refs_only : Bool) → OwesAlike (λ t. load_table t command name identifier refs_only)
  unfolding table_row_at
  owes-load_table name identifier refs_only = owes-reading s command (fair-at_table command _ name identifier none-fair)

  pub owes-head_table : (name : List ℕ) (identifier : Identifier) → OwesAlike (λ t. head_table t command name identifier)
  owes-head_table name identifier = owes-reading s command (fair-at_table command _ name identifier none-fair)

  pub owes-drop_table : (name : List ℕ) (identifier : Identifier) → OwesAlike (λ t. drop_table t command name identifier)
  unfolding table_row_at
  owes-drop_table name identifier = record {
    rows = owes-done s command (table_row_at s name identifier) _ _ (λ row found. owes-apart s command (without_table s row) refl (λ sound.
        let after : Rows = record (without_table s row) { time = time_of s command } in
        leads-by s command (without_table s row) _ (dropped_table_changes s command sound row (table-own s command sound name identifier row found))
        (facts-dropped grant.the_row.coded grant_cmp DropGrant (λ grants. record after { access = record after.access { grants = grants } }) (λ grants fact. refl) (grant_names s.access.catalog_roles (referent.Securable (securable.Table row.id))) s.access.grants).is));
    orderly = λ sound within passes. orderly-drop_table s command sound within name identifier passes;
    fair = fair-at_table command _ name identifier none-fair;
    answer = λ sound. refl;
  }

  pub owes-report_metrics : (name : List ℕ) (identifier : Identifier) → OwesAlike (λ t. report_metrics t command name identifier)
  owes-report_metrics name identifier = owes-reading s command (fair-at_table command _ name identifier none-fair)
