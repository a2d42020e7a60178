-- The places of a table: each has a row, or the id of one that was taken.
use Rattle.std.specs.Prelude.{◌≡◌, ◌+◌, ◌<◌, ℕ, nat_eq, Bool, true, false, List, [], ◌∷◌, length, Option, None, Some, HoldsAt}
use Rattle.std.specs.List.{list_any}
use Rattle.pol_tables.specs.Rising.{KeysRise}
use Rattle.pol_tables.specs.Table.{IdsDiffer}
use Rattle.pol_tables.specs.declared.slot.Slot.{Slot}
use Rattle.pol_tables.specs.declared.slot.Slot.TheVariants.{Kept, Gone}

module _ {R : Type 0} where
  -- the row of a place
  abbrev pub row_in : Slot R → Option R
  row_in (Kept row) = Some row
  row_in (Gone id) = None

  -- whether a place has a row
  abbrev pub is_kept : Slot R → Bool
  is_kept (Kept row) = true
  is_kept (Gone id) = false

  -- the rows of the places, in their order
  abbrev pub kept : List (Slot R) → List R
  kept [] = []
  kept (Kept row ∷ slots) = row ∷ kept slots
  kept (Gone id ∷ slots) = kept slots

module _ {R : Type 0} (key : R → ℕ) where
  -- the id of a place, also where the row was taken
  abbrev pub slot_key : Slot R → ℕ
  slot_key (Kept row) = key row
  slot_key (Gone id) = id

  -- whether the row of this id is at a place
  abbrev pub has_row : ℕ → Slot R → Bool
  has_row id (Kept row) = nat_eq id (key row)
  has_row id (Gone gone) = false

  -- which place has the row of an id, if there is one
  abbrev pub IsSlot : ℕ → List (Slot R) → Option ℕ → Type 0
  IsSlot id slots None = list_any (has_row id) slots ≡ false
  IsSlot id slots (Some place) = (place < length slots) × HoldsAt (λ slot. has_row id slot ≡ true) slots place

  -- the places of a table: no two rows have one id, the ids of all places may rise, and at some the row was taken
  pub record AreSlots (slots : List (Slot R)) (rise : Bool) (gone : ℕ) : Type 0 where
    pub differ : IdsDiffer key (kept slots)
    pub ordered : rise ≡ true → KeysRise slot_key slots
    pub counted : gone + length (kept slots) ≡ length slots
