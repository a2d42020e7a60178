-- Rows that principals have until they expire: they are never replaced, and each is found by its text.
use Rattle.std.specs.Prelude.{ℕ, ◌<◌, ◌^◌, ◌&&◌, Bool, false, nat_lt, List, [], ◌∷◌, ◌++◌, slice_get, Option, Some, None, if◌then◌else◌}
use Rattle.std.specs.List.{AllByRecursion, find}
use Rattle.std.specs.Str.{bytes_eq}
use Rattle.pol_tables.specs.Table.{knows, IdsDiffer}
use Rattle.pol_tokens.specs.Text.{text_of_token}

module _ {R : Type 0} (key : R → ℕ) where
  -- the rows once a row is put: a known serial changes nothing, and a new serial's row goes last
  unfoldable pub rows_once : R → List R → List R
  rows_once row rows = if knows key (key row) rows then rows else rows ++ row ∷ []

  -- rows whose serials differ, each serial being a word of 64 bits
  pub record AreKept (rows : List R) : Type 0 where
    pub differ : IdsDiffer key rows
    pub words : AllByRecursion (λ row. key row < 2 ^ 64) rows

  module _ (word_a word_b : R → ℕ) where
    -- whether this is the text of a row
    abbrev pub spells : List ℕ → R → Bool
    spells text row = bytes_eq text (text_of_token (key row) (word_a row) (word_b row))

    module _ (expiry : R → ℕ) where
      -- whether this is the text of a row that has not expired at a moment, and the first such row
      abbrev pub is_sought : List ℕ → ℕ → R → Bool
      is_sought text now row = spells text row && nat_lt now (expiry row)

      abbrev pub find_text : List ℕ → ℕ → List R → Option R
      find_text text now rows = find (is_sought text now) rows

module _ {R : Type 0} (expiry : R → ℕ) where
  -- whether there is a row at a place that has not expired at a moment
  abbrev pub lives : ℕ → Option R → Bool
  lives now None = false
  lives now (Some row) = nat_lt now (expiry row)

  abbrev pub is_live_at : ℕ → ℕ → List R → Bool
  is_live_at place now rows = lives now (slice_get rows place)
