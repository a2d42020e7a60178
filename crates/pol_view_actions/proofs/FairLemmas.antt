-- The rules that only commits to views have are fair, and a loop over updates judges them.
use Rattle.std.proofs.Common.{◌≡◌, ℕ, Bool, true, false, not, List, [], ◌∷◌, map, Option, None, Some, Result, Ok, Err, refl}
use Rattle.std.specs.List.{position, AllByRecursion}
use Rattle.pol_commands.specs.declared.reply.Refusal.TheVariants.{RequirementFailed}
use Rattle.pol_commands.specs.declared.view_commit.ViewCommit.{ViewCommit}
use Rattle.pol_content.specs.declared.rows.CatalogRow.{CatalogRow}
use Rattle.pol_state.specs.Bounds.{first_refusal}
use Rattle.pol_state.specs.Rows.{Rows}
use Rattle.pol_rules.proofs.FairLemmas.{IsFair, fair-bad_text, fair-location_outside, fair-mapped, fair-same}
use Rattle.pol_rules.proofs.JudgingLemmas.{Judging, first-step}
use Rattle.pol_rules.proofs.RulesLemmas.{first-other, tells_full}
use Rattle.pol_updates.specs.Updates.{Place}
use Rattle.pol_views.specs.Requirements.{is_met}
use Rattle.pol_views.specs.Updates.{view_after}
use Rattle.pol_views.specs.declared.metadata.ViewMetadata.{ViewMetadata}
use Rattle.pol_views.specs.declared.update.ViewUpdate.{ViewUpdate}
use Rattle.pol_views.specs.declared.update.ViewUpdate.TheVariants as update
use Rattle.pol_view_rows.specs.declared.row.ViewRow.{ViewRow}
use Rattle.pol_view_actions.specs.Replacing.{any_unserved, bad_update, lies_elsewhere, misplaced, misplaced_if, outside, refused_by, unmet, unserved}

module _ {s : Rows} where
  pub fair-unmet : (commit : ViewCommit) (row : ViewRow) → IsFair s (unmet commit row) (unmet commit row)
  unfolding unmet
  fair-unmet commit row =
      fair-mapped (position (λ requirement. not (is_met row.metadata requirement)) commit.requirements) (RequirementFailed 0) (λ place. refl)

  refused-fair : (made : Result ViewMetadata Place) → IsFair s (refused_by made) (refused_by made)
  refused-fair (Ok made) = fair-same refl
  refused-fair (Err place) = fair-same refl

  pub fair-bad_update : (time : ℕ) (commit : ViewCommit) (row : ViewRow) → IsFair s (bad_update time commit row) (bad_update time commit row)
  unfolding bad_update
  fair-bad_update time commit row = refused-fair (view_after row.metadata commit.updates time)

  misplaced-fair : (elsewhere : Bool) (text : List ℕ) → IsFair s (misplaced_if elsewhere text) (misplaced_if elsewhere text)
  misplaced-fair true text = fair-bad_text text
  misplaced-fair false text = fair-same refl

  pub fair-misplaced : (row : ViewRow) (made : ViewMetadata) → IsFair s (misplaced row made) (misplaced row made)
  unfolding misplaced
  fair-misplaced row made = misplaced-fair (lies_elsewhere row made) made.location

  pub fair-outside : (moved : Option (List (List ℕ))) (catalog : CatalogRow) → IsFair s (outside moved catalog) (outside moved catalog)
  fair-outside None catalog = fair-same refl
  fair-outside (Some location) catalog = fair-location_outside location catalog

  pub fair-unserved : (updates : List ViewUpdate) → IsFair s (any_unserved updates) (any_unserved updates)
  unfolding any_unserved
  fair-unserved updates = fair-same (first-other (map unserved updates) (others updates))
    where
      one : (change : ViewUpdate) → tells_full (unserved change) ≡ false
      one (update.AssignUuid uuid) = refl
      one (update.UpgradeFormatVersion version) = refl
      one (update.AddSchema schema) = refl
      one (update.SetLocation location) = refl
      one (update.SetProperties updates) = refl
      one (update.RemoveProperties removals) = refl
      one (update.AddViewVersion version) = refl
      one (update.SetCurrentViewVersion member) = refl
      one (update.Unsupported action) = refl

      others : (changes : List ViewUpdate) → AllByRecursion (λ rule. tells_full rule ≡ false) (map unserved changes)
      others [] = tt
      others (change ∷ changes) = (one change, others changes)

-- updates that aren't served
pub judging_updates : Judging (λ i updates. first_refusal (map unserved updates)) (λ i change. unserved change)
judging_updates =
    record { step = λ i change changes. first-step (unserved change) (map unserved changes); none = λ i. refl }
