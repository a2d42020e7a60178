-- What changes do to the time and to the charges of a state.
use Rattle.std.proofs.Common.{◌≡◌, ℕ, List, [], ◌∷◌, refl, ap, ◌∙◌}
use Rattle.pol_content.specs.declared.change.Change.{Change}
use Rattle.pol_content.specs.declared.change.Change.TheVariants.{Time}
use Rattle.pol_soundness.specs.Base.{rows_after}
use Rattle.pol_soundness.proofs.ValidLemmas.{applied-after}
use Rattle.pol_state.specs.Applied.{applied, changed}
use Rattle.pol_state.specs.Rows.{Rows}

charged_kept : (s : Rows) (change : Change) → (changed s change).charged ≡ s.charged
charged_kept s (Time time) = refl
charged_kept s _ = refl

-- changes charge nothing
pub after_charged : (changes : List Change) (s : Rows) → (rows_after changes s).charged ≡ s.charged
unfolding rows_after
after_charged [] s = refl
after_charged (change ∷ changes) s = after_charged changes (changed s change) ∙ charged_kept s change

-- changes that are applied at the time to which they lead, and without a charge
pub applied_at : (changes : List Change) (s kept : Rows) (time : ℕ) → kept ≡ s → time ≡ (rows_after changes kept).time → applied changes time 0 kept ≡ rows_after changes s
applied_at changes s kept time same is =
    ap (λ (t : ℕ). applied changes t 0 kept) is ∙ applied-after changes kept ∙ ap (rows_after changes) same
