-- What the lines of words mean.
use Rattle.std.specs.Prelude.{◌≡◌, ℕ, List, [], ◌∷◌, Option, Some, None}
use Rattle.pol_words.specs.Options.{AreInSomeOrder}
use Rattle.pol_words.specs.declared.names.TheConstants.{CATALOGUE, EXEC, INIT, OBJECTS, ROOT_SECRET}
use Rattle.pol_words.specs.declared.plan.Plan.{Plan}
use Rattle.pol_words.specs.declared.plan.Plan.TheVariants.{Exec, ExecFresh, Init}

-- a line: the word of its command, and its options, each a name and a value
pub record Line : Type 0 where
  pub command : List ℕ
  pub options : List (List ℕ × List ℕ)

-- the line that asks for a plan
abbrev pub line : Plan → Line
line (ExecFresh root_secret) = record { command = EXEC.now; options = (ROOT_SECRET.now, root_secret) ∷ [] }
line (Exec catalogue objects) = record { command = EXEC.now; options = (CATALOGUE.now, catalogue) ∷ (OBJECTS.now, objects) ∷ [] }
line (Init catalogue objects) = record { command = INIT.now; options = (CATALOGUE.now, catalogue) ∷ (OBJECTS.now, objects) ∷ [] }

-- words are the line: its command, and behind it its options in some order
abbrev pub IsLine : List (List ℕ) → Line → Type 0
IsLine words line = (rest : List (List ℕ)) × (words ≡ line.command ∷ rest) × AreInSomeOrder rest line.options

-- words ask for this plan
abbrev pub Means : List (List ℕ) → Plan → Type 0
Means words plan = IsLine words (line plan)

-- words ask for nothing, so that they are no command line
abbrev pub MeansNothing : List (List ℕ) → Type 0
MeansNothing words = (plan : Plan) → ¬ (Means words plan)

-- what is read in words: the plan that they ask for, or none where they ask for nothing
abbrev pub IsReadAs : List (List ℕ) → Option Plan → Type 0
IsReadAs words (Some plan) = Means words plan
IsReadAs words None = MeansNothing words
