-- The texts of paths.
use Rattle.std.proofs.Common.{◌≡◌, List, ℕ, [], ◌∷◌, ◌++◌, reverse, sym, ◌∙◌, append_assoc}
use Rattle.std.proofs.lemmas.List.{reverse-append}
use Rattle.std.specs.List.{flat_map}
use Rattle.pol_readers.specs.declared.path.Step.{Step}
use Rattle.pol_readers.specs.Path.{step_text}

-- the innermost step but those inside it is written next
pub one_step : (all left inner : List Step) (step : Step) (done : List ℕ) → left ≡ inner ++ step ∷ [] → flat_map step_text (reverse all) ≡ done ++ flat_map step_text (reverse left)
    → flat_map step_text (reverse all) ≡ (done ++ step_text step) ++ flat_map step_text (reverse inner)
one_step all left inner step done split so =
    so ∙ rw (split, reverse-append) (sym (append_assoc done (step_text step) (flat_map step_text (reverse inner))))
