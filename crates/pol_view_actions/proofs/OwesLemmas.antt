-- What each action on views owes.
use Rattle.std.proofs.Common.{◌≡◌, ℕ, List, Option, None, Some, option_and_then, refl, sym, ap, ◌∙◌}
use Rattle.std.specs.Option.{option_map}
use Rattle.pol_access.specs.Order.{grant_cmp}
use Rattle.pol_access.specs.Referent.{grant_names}
use Rattle.pol_access.specs.contracts.rows.GrantRow as grant
use Rattle.pol_access.specs.declared.referent.Referent.TheVariants as referent
use Rattle.pol_access.specs.declared.securable.Securable.TheVariants as securable
use Rattle.pol_commands.specs.declared.command.Command.{Command}
use Rattle.pol_commands.specs.declared.create_view.CreateView.{CreateView}
use Rattle.pol_commands.specs.declared.view_commit.ViewCommit.{ViewCommit}
use Rattle.pol_content.specs.Content.{part_named}
use Rattle.pol_content.specs.declared.change.Change.TheVariants.{DropGrant}
use Rattle.pol_content.specs.declared.rows.NamespaceRow.{NamespaceRow}
use Rattle.pol_names.specs.declared.identifier.Identifier.{Identifier}
use Rattle.pol_state.specs.Rows.{Rows}
use Rattle.pol_state.proofs.AppliedLemmas.{facts-dropped}
use Rattle.pol_rules.specs.Acting.{Acting}
use Rattle.pol_rules.specs.Live.{live_part}
use Rattle.pol_rules.specs.Prologues.{namespace_row_at, view_row_at}
use Rattle.pol_rules.specs.Rules.{time_of}
use Rattle.pol_rules.specs.TableRules.{location_asked}
use Rattle.pol_rules.proofs.FairLemmas.{none-fair, ◌⊳◌, fair-at_view, fair-bad_location, fair-caller, fair-given, fair-inside, fair-location_outside, fair-name_taken, fair-need, fair-no_catalogue, fair-no_namespace, fair-no_view, fair-on_namespace}
use Rattle.pol_rules.proofs.LeadsLemmas.{leads-by}
use Rattle.pol_rules.proofs.OwesLemmas.{owes-apart, owes-done, owes-reading, Owes}
use Rattle.pol_tables.specs.Table.{row_of}
use Rattle.pol_tables.proofs.TableLemmas.{some_is}
use Rattle.pol_view_rows.specs.Views.{view_id}
use Rattle.pol_view_rows.specs.declared.row.ViewRow.{ViewRow}
use Rattle.pol_view_actions.specs.Altered.{with_altered}
use Rattle.pol_view_actions.specs.Creation.{create_view, metadata_at, new_view, with_view}
use Rattle.pol_view_actions.specs.Renaming.{rename_view, renamed, renamed_view}
use Rattle.pol_view_actions.specs.Replacing.{MadeView, made_at, moved_to, replace_view, replaced_view}
use Rattle.pol_view_actions.specs.Views.{drop_view, head_view, list_views, load_view, without_view}
use Rattle.pol_view_actions.proofs.ActionLemmas.{made-parts, orderly-create_view, orderly-drop_view, orderly-rename_view, orderly-replace_view, placed-id}
use Rattle.pol_view_actions.proofs.AlteredLemmas.{view-own}
use Rattle.pol_view_actions.proofs.ChangesLemmas.{dropped_view_changes, leads-put, view_changes}
use Rattle.pol_view_actions.proofs.FairLemmas.{fair-bad_update, fair-misplaced, fair-outside, fair-unmet, fair-unserved}

module _ (s : Rows) (command : Command) where
  abbrev live : Rows
  live = live_part s

  -- each action owes this, where it is like in the live part
  abbrev OwesAlike : (Rows → Acting) → Type 0
  OwesAlike act = Owes s command (act s) (act live)

  pub owes-list_views : (name : List ℕ) (levels : List (List ℕ)) → OwesAlike (λ t. list_views t command name levels)
  unfolding namespace_row_at
  owes-list_views name levels = owes-reading s command (fair-on_namespace command _ name levels none-fair)

  pub owes-create_view : (name : List ℕ) (levels : List (List ℕ)) (request : CreateView) → OwesAlike (λ t. create_view t command name levels request)
  unfolding metadata_at namespace_row_at new_view
  owes-create_view name levels request = record {
    rows = owes-done s command (new_view s command name levels request) (with_view s) (with_view live) (λ row made. owes-apart s command (with_view s row) refl (λ sound.
        leads-by s command (with_view s row) _ (view_changes s command sound row (placed-id s command name levels request row made)) refl));
    orderly = λ sound within passes. orderly-create_view s command sound within name levels request passes;
    fair = fair-on_namespace command _ name levels (fair-given (namespace_row_at s name levels) (λ namespace. fair-name_taken _ request.name) ⊳ fair-inside name (fair-bad_location levels request.location request.name) ⊳ fair-inside name (λ catalog. fair-location_outside (location_asked levels request.location request.name catalog) catalog) ⊳ none-fair);
    answer = λ sound. refl;
  }

  pub owes-load_view : (name : List ℕ) (identifier : Identifier) → OwesAlike (λ t. load_view t command name identifier)
  unfolding view_row_at
  owes-load_view name identifier = owes-reading s command (fair-at_view command _ name identifier none-fair)

  pub owes-head_view : (name : List ℕ) (identifier : Identifier) → OwesAlike (λ t. head_view t command name identifier)
  owes-head_view name identifier = owes-reading s command (fair-at_view command _ name identifier none-fair)

  pub owes-drop_view : (name : List ℕ) (identifier : Identifier) → OwesAlike (λ t. drop_view t command name identifier)
  unfolding view_row_at
  owes-drop_view name identifier = record {
    rows = owes-done s command (view_row_at s name identifier) _ _ (λ row found. owes-apart s command (without_view s row) refl (λ sound.
        let after : Rows = record (without_view s row) { time = time_of s command } in
        leads-by s command (without_view s row) _ (dropped_view_changes s command sound row (view-own s sound name identifier row found))
        (facts-dropped grant.the_row.coded grant_cmp DropGrant (λ grants. record after { access = record after.access { grants = grants } }) (λ grants fact. refl) (grant_names s.access.catalog_roles (referent.Securable (securable.View row.id))) s.access.grants).is));
    orderly = λ sound within passes. orderly-drop_view s command sound within name identifier passes;
    fair = fair-at_view command _ name identifier none-fair;
    answer = λ sound. refl;
  }

  -- the view that is renamed has the id of one that is there
  renamed-own : (destination : Identifier) (row : ViewRow) (found : Option ViewRow) (within : Option NamespaceRow)
      → ((old : ViewRow) → found ≡ Some old → row_of view_id old.id s.content.views ≡ Some old)
      → option_and_then (λ (old : ViewRow). option_map (renamed destination.name old) within) found ≡ Some row
      → (old : ViewRow) × (row_of view_id row.id s.content.views ≡ Some old)
  renamed-own destination row None within own made = let contrary : None ≡ Some row = made in cc
  renamed-own destination row (Some old) None own made = let contrary : None ≡ Some row = made in cc
  renamed-own destination row (Some old) (Some namespace) own made =
      let is = some_is (renamed destination.name old namespace) row made in
      (old, ap (λ (one : ViewRow). row_of view_id one.id s.content.views) (sym is) ∙ own old refl)

  pub owes-rename_view : (name : List ℕ) (source destination : Identifier) → OwesAlike (λ t. rename_view t command name source destination)
  unfolding renamed_view namespace_row_at view_row_at
  owes-rename_view name source destination = record {
    rows = owes-done s command (renamed_view s name source destination) (with_altered s) (with_altered live) (λ row made. owes-apart s command (with_altered s row) refl (λ sound.
        let there = renamed-own destination row (view_row_at s name source) (namespace_row_at s name destination.namespace) (λ old found. view-own s sound name source old found) made in
        leads-put s command sound row there.0 there.1));
    orderly = λ sound within passes. orderly-rename_view s command sound within name source destination passes;
    fair = fair-caller command
        ⊳ fair-no_catalogue name
        ⊳ fair-inside name (λ catalog. fair-need command _)
        ⊳ fair-inside name (λ catalog. fair-no_namespace catalog.id source.namespace)
        ⊳ fair-inside name (λ catalog. fair-no_namespace catalog.id destination.namespace)
        ⊳ fair-inside name (fair-no_view source)
        ⊳ fair-given (namespace_row_at s name destination.namespace) (λ (namespace : NamespaceRow). fair-name_taken (part_named namespace.id destination.name s.content) destination.name)
        ⊳ none-fair;
    answer = λ sound. refl;
  }

  pub owes-replace_view : (name : List ℕ) (commit : ViewCommit) → OwesAlike (λ t. replace_view t command name commit)
  unfolding made_at replaced_view view_row_at
  owes-replace_view name commit = record {
    rows = owes-done s command (replaced_view s command name commit) (with_altered s) (with_altered live) (λ row made. owes-apart s command (with_altered s row) refl (λ sound.
        let parts = made-parts s command name commit row made in
        leads-put s command sound row parts.old (ap (λ (one : ViewRow). row_of view_id one.id s.content.views) (sym parts.row_is) ∙ view-own s sound name commit.identifier parts.old parts.old_is)));
    orderly = λ sound within passes. orderly-replace_view s command sound within name commit passes;
    fair = fair-at_view command _ name commit.identifier (fair-given (view_row_at s name commit.identifier) (fair-unmet commit)
        ⊳ fair-given (view_row_at s name commit.identifier) (fair-bad_update (time_of s command) commit)
        ⊳ fair-given (made_at s command name commit) (λ (one : MadeView). fair-misplaced one.before one.made)
        ⊳ fair-inside name (λ catalog. fair-given (made_at s command name commit) (λ (one : MadeView). fair-outside (moved_to one.before one.made) catalog))
        ⊳ fair-unserved commit.updates
        ⊳ none-fair);
    answer = λ sound. refl;
  }
