use Rattle.std.proofs.Common.{sym, subst, ap, ◌∙◌}
use Rattle.pol_sound_content.specs.Valid.{HasValidParts}
use Rattle.pol_soundness.proofs.ValidLemmas.{empty-valid}
use Rattle.pol_state.specs.Rows.{Rows, empty_state}
use Rattle.pol_opening.proofs.opening.read_state.Goals as goal

pub read_all-requires-clause-valid : goal.read_all-requires-clause-valid
read_all-requires-clause-valid g c = subst (λ (s : Rows). HasValidParts s.content) (sym c.empty-state.ensures) empty-valid

pub returns-in-Ok-clause-opened : goal.returns-in-Ok-clause-opened
returns-in-Ok-clause-opened g c = rw c.empty-state.ensures at c.in-Ok.ensures.opened

pub returns-in-Ok-clause-charged : goal.returns-in-Ok-clause-charged
unfolding empty_state
returns-in-Ok-clause-charged g c = c.in-Ok.ensures.charged ∙ ap (λ (s : Rows). s.charged) c.empty-state.ensures

pub returns-in-Err-clause-told : goal.returns-in-Err-clause-told
returns-in-Err-clause-told g c = rw c.empty-state.ensures at c.in-Err.ensures.told
