-- The difference of two tables, and of two sets of facts, as a list of changes.
use Rattle.std.specs.Prelude.{◌≡◌, ℕ, false, not, List, ◌++◌, map, filter}
use Rattle.std.specs.Coded.{Coded}
use Rattle.std.specs.List.{AllByRecursion}
use Rattle.std.specs.declared.cmp.Ordering.{Ordering}
use Rattle.pol_tables.specs.Facts.{holds, facts_with, facts_without}
use Rattle.pol_tables.specs.Order.{in_order}
use Rattle.pol_tables.specs.Rising.{KeysBelow}
use Rattle.pol_tables.specs.Table.{knows, rows_with, rows_without}

-- the rows of the new list that the old one hasn't as they are, in their order
unfoldable pub new_rows : {R : Type 0} → Coded R → List R → List R → List R
new_rows code old new = filter (λ row. not (holds code row old)) new

-- the ids of the old list that no row of the new one has, in their order
unfoldable pub gone_ids : {R : Type 0} → (R → ℕ) → List R → List R → List ℕ
gone_ids key old new = map key (filter (λ row. not (knows key (key row) new)) old)

-- a put for each row that is new or altered, and then a drop for each id that is gone
unfoldable pub table_changes : {R Change : Type 0} → Coded R → (R → ℕ) → (R → Change) → (ℕ → Change) → List R → List R → List Change
table_changes code key put drop old new = map put (new_rows code old new) ++ map drop (gone_ids key old new)

-- a put for each fact that is new, and then a drop for each that is gone, each in rising order
unfoldable pub fact_changes : {T Change : Type 0} → Coded T → (T → T → Ordering) → (T → Change) → (T → Change) → List T → List T → List Change
fact_changes code cmp put drop old new =
    map put (in_order cmp (new_rows code old new)) ++ map drop (in_order cmp (new_rows code new old))

-- each row of the new list whose id the old one doesn't know is above all of the old one's
abbrev pub NewAreAbove : {R : Type 0} → (R → ℕ) → List R → List R → Type 0
NewAreAbove key old new = AllByRecursion (λ row. knows key (key row) old ≡ false → KeysBelow key (key row) old) new

-- a change acts on the rows that a state has: a put puts its row, and a drop takes the row of its id away
pub record ActsOnRows {S R Change : Type 0} (key : R → ℕ) (put : R → Change) (drop : ℕ → Change) (act : S → Change → S) (rows_in : S → List R) : Type 0 where
  pub puts : (state : S) (row : R) → rows_in (act state (put row)) ≡ rows_with key row (rows_in state)
  pub drops : (state : S) (id : ℕ) → rows_in (act state (drop id)) ≡ rows_without key id (rows_in state)

-- a change acts on the facts that a state has: a put puts its fact, and a drop takes its fact away
pub record ActsOnFacts {S T Change : Type 0} (code : Coded T) (put drop : T → Change) (act : S → Change → S) (facts_in : S → List T) : Type 0 where
  pub puts : (state : S) (fact : T) → facts_in (act state (put fact)) ≡ facts_with code fact (facts_in state)
  pub drops : (state : S) (fact : T) → facts_in (act state (drop fact)) ≡ facts_without code fact (facts_in state)
