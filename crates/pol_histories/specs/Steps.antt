-- The entries to which steps lead.
use Rattle.std.specs.Prelude.{List, [], ◌∷◌, ◌++◌}
use Rattle.pol_histories.specs.declared.step.Step.{Step, Start, Also'}

-- all of them, the first one first
abbrev pub entries_of : {E : Type 0} → Step E → List E
entries_of Start = []
entries_of (Also' marker before last) = entries_of before ++ last.value ∷ []
