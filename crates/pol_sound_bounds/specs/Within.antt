-- States whose bounds are judged.
use Rattle.std.specs.Prelude.{◌≡◌, ℕ}
use Rattle.pol_access.specs.Access.{AccessRows}
use Rattle.pol_content.specs.Content.{ContentRows}
use Rattle.pol_state.specs.Rows.{Rows}

-- a state of these rows and counters
pub record IsOf (access : AccessRows) (content : ContentRows) (next_id next_serial : ℕ) (s : Rows) : Type 0 where
  pub has_access : s.access ≡ access
  pub has_content : s.content ≡ content
  pub has_id : s.next_id ≡ next_id
  pub has_serial : s.next_serial ≡ next_serial
