-- The chains in which the rows of each holder stand.
use Rattle.std.specs.Prelude.{◌≡◌, ℕ, ◌+◌, ◌&&◌, Bool, nat_eq, nat_lt, List, [], ◌∷◌, ◌++◌, length, count_by, slice_get, Option, Some, None, if◌then◌else◌}
use Rattle.pol_tables.specs.Table.{row_of, rows_with}
use Rattle.pol_tokens.specs.declared.chains.Latest.{Latest}

-- for each row the place after the one of its holder before it, for each holder that of its last row, and how many more
-- rows need no memory
pub record ChainsValue : Type 0 where
  pub links : List ℕ
  pub latest : List Latest
  pub room : ℕ

abbrev pub latest_holder : Latest → ℕ
latest_holder latest = latest.holder

-- a place that was found, else 0
abbrev pub place_or_none : Option Latest → ℕ
place_or_none None = 0
place_or_none (Some latest) = latest.place

abbrev pub link_or_none : Option ℕ → ℕ
link_or_none None = 0
link_or_none (Some link) = link

-- the place after the last row of a holder, and after the row before one of the same holder
abbrev pub last_place : ℕ → List Latest → ℕ
last_place holder latest = place_or_none (row_of latest_holder holder latest)

abbrev pub link_of : ℕ → List ℕ → ℕ
link_of place links = link_or_none (slice_get links place)

-- one more row is linked
pub record AreLinked (holder : ℕ) (old new : ChainsValue) : Type 0 where
  pub links : new.links ≡ old.links ++ last_place holder old.latest ∷ []
  pub latest : new.latest ≡ rows_with latest_holder (record { holder = holder; place = length old.links + 1 }) old.latest

module _ {R : Type 0} (holder : R → ℕ) where
  -- the place after the last row of a principal among these, where the first of them has the place `first`, else `found`
  abbrev pub last_from : ℕ → ℕ → ℕ → List R → ℕ
  last_from principal first found [] = found
  last_from principal first found (row ∷ rows) = last_from principal (first + 1) (if nat_eq principal (holder row) then first + 1 else found) rows

  -- the place after the last row of a principal, 0 where it has none
  abbrev pub last_of : ℕ → List R → ℕ
  last_of principal rows = last_from principal 0 0 rows

  -- for each of these rows the place after the one of its holder before it; `before` are those that come first
  abbrev pub links_from : List R → List R → List ℕ
  links_from before [] = []
  links_from before (row ∷ rows) = last_of (holder row) before ∷ links_from (before ++ row ∷ []) rows

  -- the chains are those of the rows
  pub record AreChained (chains : ChainsValue) (rows : List R) : Type 0 where
    pub links : chains.links ≡ links_from [] rows
    pub latest : (principal : ℕ) → last_place principal chains.latest ≡ last_of principal rows

  module _ (expiry : R → ℕ) where
    -- how many rows a principal has that have not expired at a moment
    abbrev pub is_held : ℕ → ℕ → R → Bool
    is_held principal now row = nat_eq principal (holder row) && nat_lt now (expiry row)

    abbrev pub count_held : ℕ → ℕ → List R → ℕ
    count_held principal now rows = count_by (is_held principal now) rows
