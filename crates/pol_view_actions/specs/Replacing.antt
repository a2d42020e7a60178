-- Commits to a view (Iceberg REST OpenAPI, CommitViewRequest): its requirements are tested first, then all updates are
-- applied, and then where it lies is judged.
use Rattle.std.specs.Prelude.{ℕ, ◌+◌, ◌==◌, Bool, true, false, not, List, [], ◌∷◌, length, map, Option, None, Some, option_and_then, Result, Ok, Err, if◌then◌else◌}
use Rattle.std.specs.List.{position}
use Rattle.std.specs.Option.{option_map}
use Rattle.std.specs.Str.{bytes_eq}
use Rattle.pol_access.specs.declared.privilege.Privilege.TheVariants.{ViewWriteProperties}
use Rattle.pol_commands.specs.declared.command.Command.{Command}
use Rattle.pol_commands.specs.declared.reply.OptionName.TheVariants as option
use Rattle.pol_commands.specs.declared.reply.Refusal.{Refusal}
use Rattle.pol_commands.specs.declared.reply.Refusal.TheVariants.{RequirementFailed, Unsupported, UpdateRefused}
use Rattle.pol_commands.specs.declared.view_commit.ViewCommit.{ViewCommit}
use Rattle.pol_content.specs.declared.rows.CatalogRow.{CatalogRow}
use Rattle.pol_locations.specs.Location.{segments_of}
use Rattle.pol_state.specs.Bounds.{first_refusal}
use Rattle.pol_state.specs.Rows.{Rows}
use Rattle.pol_updates.specs.Updates.{Place}
use Rattle.pol_views.specs.Requirements.{is_met}
use Rattle.pol_views.specs.Updates.{view_after}
use Rattle.pol_views.specs.declared.metadata.ViewMetadata.{ViewMetadata}
use Rattle.pol_views.specs.declared.update.ViewUpdate.{ViewUpdate}
use Rattle.pol_views.specs.declared.update.ViewUpdate.TheVariants as update
use Rattle.pol_view_rows.specs.declared.row.ViewRow.{ViewRow}
use Rattle.pol_rules.specs.Acting.{Acting, done}
use Rattle.pol_rules.specs.Prologues.{at_view, view_row_at}
use Rattle.pol_rules.specs.Rules.{bad_text, given, inside, time_of}
use Rattle.pol_rules.specs.TableRules.{location_outside}
use Rattle.pol_view_actions.specs.Altered.{with_altered}
use Rattle.pol_view_actions.specs.Views.{loaded}

-- a requirement that the view doesn't meet; the first such is told
unfoldable pub unmet : ViewCommit → ViewRow → Option Refusal
unmet commit row =
    option_map (RequirementFailed 0) (position (λ requirement. not (is_met row.metadata requirement)) commit.requirements)

-- an update that is refused; the first such is told, with its first reason
abbrev pub refused_by : Result ViewMetadata Place → Option Refusal
refused_by (Ok made) = None
refused_by (Err place) = Some (UpdateRefused 0 place.index place.why)

unfoldable pub bad_update : ℕ → ViewCommit → ViewRow → Option Refusal
bad_update time commit row = refused_by (view_after row.metadata commit.updates time)

-- a view before a commit to it, and its metadata after the updates
pub record MadeView : Type 0 where
  pub before : ViewRow
  pub made : ViewMetadata

abbrev pub made_by : ViewRow → Result ViewMetadata Place → Option MadeView
made_by row (Ok made) = Some (record { before = row; made = made })
made_by row (Err place) = None

-- those of the view that is named, at the command's time; where an update is refused, none
unfoldable pub made_at : Rows → Command → List ℕ → ViewCommit → Option MadeView
made_at s command name commit =
    option_and_then (λ (row : ViewRow). made_by row (view_after row.metadata commit.updates (time_of s command))) (view_row_at s name commit.identifier)

-- whether a metadata has its view lie elsewhere than before
abbrev pub lies_elsewhere : ViewRow → ViewMetadata → Bool
lies_elsewhere row made = not (bytes_eq made.location row.metadata.location)

-- a view is moved to a text that is no location
abbrev pub misplaced_if : Bool → List ℕ → Option Refusal
misplaced_if true text = bad_text text
misplaced_if false text = None

unfoldable pub misplaced : ViewRow → ViewMetadata → Option Refusal
misplaced row made = misplaced_if (lies_elsewhere row made) made.location

-- where a view is moved to, if it is
abbrev pub moved_to : ViewRow → ViewMetadata → Option (List (List ℕ))
moved_to row made = if lies_elsewhere row made then Some (segments_of made.location) else None

-- a view is moved to where the catalogue has no views
abbrev pub outside : Option (List (List ℕ)) → CatalogRow → Option Refusal
outside None catalog = None
outside (Some location) catalog = location_outside location catalog

-- an update that isn't served
abbrev pub unserved : ViewUpdate → Option Refusal
unserved (update.AssignUuid uuid) = None
unserved (update.UpgradeFormatVersion version) = None
unserved (update.AddSchema schema) = None
unserved (update.SetLocation location) = None
unserved (update.SetProperties updates) = None
unserved (update.RemoveProperties removals) = None
unserved (update.AddViewVersion version) = None
unserved (update.SetCurrentViewVersion member) = None
unserved (update.Unsupported action) = Some (Unsupported (option.Update action))

-- the first of several
unfoldable pub any_unserved : List ViewUpdate → Option Refusal
any_unserved updates = first_refusal (map unserved updates)

-- a number that grows by one where something is so
abbrev pub grown_if : Bool → ℕ → ℕ
grown_if test number = if test then number + 1 else number

-- a view after a commit to it: a commit with an update is one version more
abbrev pub committed : ViewCommit → ViewRow → ViewMetadata → ViewRow
committed commit row made = record row {
  version = grown_if (not (length commit.updates == 0)) row.version;
  metadata = made;
}

-- the view that is committed to, as it is then
unfoldable pub replaced_view : Rows → Command → List ℕ → ViewCommit → Option ViewRow
replaced_view s command name commit =
    option_map (λ (one : MadeView). committed commit one.before one.made) (made_at s command name commit)

-- a commit to a view
abbrev pub replace_view : Rows → Command → List ℕ → ViewCommit → Acting
replace_view s command name commit = record {
  rules = at_view s command ViewWriteProperties name commit.identifier (
      given (view_row_at s name commit.identifier) (unmet commit)
      ∷ given (view_row_at s name commit.identifier) (bad_update (time_of s command) commit)
      ∷ given (made_at s command name commit) (λ (one : MadeView). misplaced one.before one.made)
      ∷ inside s name (λ catalog. given (made_at s command name commit) (λ (one : MadeView). outside (moved_to one.before one.made) catalog))
      ∷ any_unserved commit.updates
      ∷ []);
  after = done s (replaced_view s command name commit) (with_altered s);
  answer = option_map loaded (replaced_view s command name commit);
}
