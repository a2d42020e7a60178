-- Laws of the words.
use Rattle.std.specs.Prelude.{◌≡◌, ℕ, List}
use Rattle.pol_words.specs.Words.{Means}
use Rattle.pol_words.specs.declared.plan.Plan.{Plan}

-- no words mean two things
abbrev pub MeansOneThing : Type 0
MeansOneThing = (words : List (List ℕ)) (one two : Plan) → Means words one → Means words two → one ≡ two
