-- Lists in order that stand in blocks, and places in them.
use Rattle.std.specs.Prelude.{◌≡◌, ℕ, ◌+◌, ◌-◌, ◌<◌, ◌≤◌, Bool, true, List, [], ◌++◌, length, take, drop, flat_map, map, option_map, slice_get, slice_index_or, unwrap_or, All, Vec}
use Rattle.pol_blocks.specs.declared.place.Place.{Place}

-- all items, in order
abbrev pub flat : {T : Type 0} → List (List T) → List T
flat blocks = flat_map (λ block. block) blocks

-- a block has items, and not more than 32
pub record IsBlock {T : Type 0} (block : List T) : Type 0 where
  pub some : 0 < length block
  pub few : length block ≤ 32

-- the items of the block at a number
abbrev pub block_at : {T : Type 0} → List (List T) → ℕ → List T
block_at blocks number = slice_index_or blocks number []

-- a place is that of an item, or the end behind all
pub record IsPlace {T : Type 0} (blocks : List (List T)) (place : Place) : Type 0 where
  pub within : place.block ≤ length blocks
  pub inside : place.block < length blocks → place.offset < length (block_at blocks place.block)
  pub end : place.block ≡ length blocks → place.offset ≡ 0

-- how many items are before a place
abbrev pub number_of : {T : Type 0} → List (List T) → Place → ℕ
number_of blocks place = length (flat (take place.block blocks)) + place.offset

-- what the blocks have
abbrev pub contents : {T Z : Type 0} → List (Vec T Z) → List (List T)
contents blocks = map (λ block. block.items) blocks

-- new is old with blocks of these items in place of the block at a number
pub record IsReplaced {T : Type 0} (old new : List (List T)) (number : ℕ) (items : List T) : Type 0 where
  pub parts : List (List T)
  pub is : new ≡ take number old ++ (parts ++ drop (number + 1) old)
  pub have : flat parts ≡ items
  pub blocks : All IsBlock parts

-- a spot is where an item is put in front of the one at a place: in a block, or at its end, with as many items before it
pub record IsSpot {T : Type 0} (blocks : List (List T)) (place spot : Place) : Type 0 where
  pub number : number_of blocks spot ≡ number_of blocks place
  pub within : spot.offset ≤ length (block_at blocks spot.block)
  pub first : length blocks ≤ spot.block → (spot.block ≡ 0) × (blocks ≡ [])

-- whether the last of some items passes a test
abbrev pub ends_in : {T : Type 0} → (T → Bool) → List T → Bool
ends_in passes items = unwrap_or (option_map passes (slice_get items (length items - 1))) true
