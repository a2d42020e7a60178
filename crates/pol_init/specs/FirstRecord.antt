-- The first record of a catalogue's journal.
use Rattle.std.specs.Prelude.{ℕ, List}
use Rattle.std.specs.List.{AllByRecursion}
use Rattle.pol_changecodec.specs.Change.{changes}
use Rattle.pol_content.specs.declared.change.Change.{Change}
use Rattle.pol_forms.specs.Form.{IsFormOf}
use Rattle.pol_meta.specs.Valid.{IsValid}
use Rattle.pol_rules.specs.Live.{live_part}
use Rattle.pol_state.specs.Changes.{changes_between}
use Rattle.pol_state.specs.Rows.{Rows, empty_state}
use Rattle.pol_views.specs.Valid.{IsValidView}

-- the changes that lead from the empty state to the live part of this one
unfoldable pub whole_changes : Rows → List Change
whole_changes s = changes_between empty_state (live_part s)

-- what is written of them
unfoldable pub body_of : Rows → List ℕ
body_of s = changes.write (whole_changes s)

-- each metadata of a state is valid
pub record HasValid (s : Rows) : Type 0 where
  pub tables : AllByRecursion (λ row. IsValid row.metadata) s.content.tables
  pub views : AllByRecursion (λ row. IsValidView row.metadata) s.content.views

-- what is written of the changes is their form, where each metadata is valid
abbrev pub IsFormWhereValid : Rows → Type 0
IsFormWhereValid s = HasValid s → IsFormOf changes (whole_changes s) (body_of s)
