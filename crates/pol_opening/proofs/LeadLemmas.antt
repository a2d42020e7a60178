-- Bodies that lead from one state to another.
use Rattle.std.proofs.Common.{◌≡◌, ℕ, List, [], ◌∷◌, ◌++◌, refl, ap, subst, ◌∙◌}
use Rattle.pol_changecodec.specs.Change.{changes as changes_form}
use Rattle.pol_content.specs.declared.change.Change.{Change}
use Rattle.pol_forms.specs.Form.{IsFormOf}
use Rattle.pol_forms.proofs.LawLemmas.{tell_values}
use Rattle.pol_opening.specs.Opening.{LeadsBy, LeadsTo}
use Rattle.pol_soundness.specs.Base.{rows_after}
use Rattle.pol_state.specs.Rows.{Rows}
use Rattle.pol_state.specs.Sound.{IsSound}

-- no bodies lead to the same state
pub leads_none : (s t : Rows) → t ≡ s → LeadsTo s [] t
unfolding LeadsTo
leads_none s t same = same

-- one more
pub leads_more : (s t u : Rows) (bodies : List (List ℕ)) (body : List ℕ) → LeadsTo s bodies t → LeadsBy body t u → LeadsTo s (bodies ++ body ∷ []) u
unfolding LeadsTo
leads_more s t u [] body leads by = (u, subst (λ (r : Rows). LeadsBy body r u) leads by, refl)
leads_more s t u (first ∷ bodies) body leads by = (leads.0, leads.1, leads_more leads.0 t u bodies body leads.2 by)

-- a body whose changes lead to no sound state leads to none
pub unsound_unfit : (body : List ℕ) (changes : List Change) (s : Rows) → IsFormOf changes_form changes body → (IsSound (rows_after changes s) → ⊥) → (t : Rows) → LeadsBy body s t → ⊥
unsound_unfit body changes s form unsound t leads =
    let same : leads.changes ≡ changes = tell_values changes_form body leads.changes changes leads.form form in
    unsound (subst IsSound (leads.after ∙ ap (λ (made : List Change). rows_after made s) same) leads.sound)
