-- Sets of facts: what contracts see of one, and the facts after each call.
use Rattle.std.specs.Prelude.{ℕ, Bool, not, if◌then◌else◌, List, [], ◌∷◌, ◌++◌, filter}
use Rattle.std.specs.Coded.{Coded}
use Rattle.std.specs.List.{list_any}
use Rattle.pol_tables.specs.Same.{same}

-- the facts of a set in the order in which they were put, and how many more of them need no memory
pub record FactsValue (T : Type 0) : Type 0 where
  pub facts : List T
  pub room : ℕ

module _ {T : Type 0} (code : Coded T) where
  -- whether the fact is one of these
  abbrev pub holds : T → List T → Bool
  holds fact facts = list_any (same code fact) facts

  -- the facts once a fact is put: a known one changes nothing, and a new one goes last
  unfoldable pub facts_with : T → List T → List T
  facts_with fact facts = if holds fact facts then facts else facts ++ fact ∷ []

  -- the facts without this one
  unfoldable pub facts_without : T → List T → List T
  facts_without fact facts = filter (λ kept. not (same code fact kept)) facts
