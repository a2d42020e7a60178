-- What contracts see of the lock and of a pass.
use Rattle.std.specs.Prelude.{◌≡◌, ℕ, ◌≤◌, ◌==◌, ◌⊎◌, Bool, List, [], ◌∷◌, ◌++◌, Option, All, filter}
use Rattle.atomic_table.specs.Seated.{TableId}
use Rattle.pol_turn.specs.declared.view.Gathered.{Gathered}

-- which lock it is, and what was settled before it was made
pub record Lock (F : Type 0) : Type 0 where
  pub table : TableId
  pub fixed : Option F

-- a pass: its lock and number, the log as it was last seen, its own items, how many passes there were ever and the items of those that were joined, and whether it holds the turn
pub record Known (I F : Type 0) : Type 0 where
  pub lock : Lock F
  pub number : ℕ
  pub front : List I
  pub own : List I
  pub made : ℕ
  pub gathered : List (Gathered I)
  pub has_turn : Bool

module _ {I : Type 0} (number : I → ℕ) where
  -- the items of one number, in order
  abbrev pub items_by : ℕ → List I → List I
  items_by n log = filter (λ item. number item == n) log

  -- the own items are all that the log has of the pass's number; for the founding pass, number 0, the gathered ones are all of their numbers, and no item has a number that is still to be given out
  pub record Accounts (pass : ℕ) (own : List I) (made : ℕ) (gathered : List (Gathered I)) (log : List I) : Type 0 where
    pub of_pass : items_by pass log ≡ own
    pub of_joined : pass ≡ 0 → All (λ g. items_by g.number log ≡ g.items) gathered
    pub of_none : pass ≡ 0 → (n : ℕ) → made ≤ n → items_by n log ≡ []

  -- the log has no item of the pass and of those that it gathered but the ones that it knows
  abbrev pub AccountsFor : {F : Type 0} → Known I F → List I → Type 0
  AccountsFor pass log = Accounts pass.number pass.own pass.made pass.gathered log

  -- the log goes on by at most one item of this number
  abbrev pub AddsAtMostOne : ℕ → List I → List I → Type 0
  AddsAtMostOne n log next = (next ≡ log) ⊎ ((item : I) × (number item ≡ n) × (next ≡ log ++ item ∷ []))
