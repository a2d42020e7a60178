-- What a disk in memory holds, and what a crash may make of it.
use Rattle.std.specs.Prelude.{ℕ, ◌≡◌, ◌-◌, ◌≤◌, ◌⊎◌, min, List, [], ◌∷◌, ◌++◌, map, length, take, replicate, Option, Some, None, unwrap_or, ⊤}
use Rattle.std.specs.List.{zip}
use Rattle.pol_disk.specs.Disk.{written}

-- the bytes that a read gives; for each place of the longest image the byte that each image has there, or None where
-- any byte may stand; and the length of the shortest image
pub record ContentState : Type 0 where
  pub seen : List ℕ
  pub sure : List (Option ℕ)
  pub least : ℕ

-- these bytes have what is sure, as far as they reach
abbrev pub Fits : List (Option ℕ) → List ℕ → Type 0
Fits sure [] = ⊤
Fits [] (byte ∷ image) = ⊥
Fits (None ∷ sure) (byte ∷ image) = Fits sure image
Fits (Some known ∷ sure) (byte ∷ image) = (known ≡ byte) × Fits sure image

-- what a crash may leave of it: what is sure, any bytes elsewhere, and no less than the shortest image
abbrev pub IsImage : ContentState → List ℕ → Type 0
IsImage content image = (image ≡ content.seen) ⊎ ((content.least ≤ length image) × Fits content.sure image)

-- nothing is sure of so many bytes
abbrev pub unsure : ℕ → List (Option ℕ)
unsure count = replicate count None

-- these bytes, each on the disk
abbrev pub settled : List ℕ → ContentState
settled bytes = record { seen = bytes; sure = map Some bytes; least = length bytes }

-- nothing is sure of a range any more, which may reach past the end
abbrev pub torn_at : ℕ → ℕ → ContentState → ContentState
torn_at at count content = record content { sure = written at (unsure count) content.sure }

-- the same, and a read gives these bytes there
abbrev pub written_at : ℕ → List ℕ → ContentState → ContentState
written_at at bytes content = record (torn_at at (length bytes) content) { seen = written at bytes content.seen }

-- nothing is sure past a length any more, and that much may be gone
abbrev pub torn_past : ℕ → ContentState → ContentState
torn_past kept content = record content {
  sure = take kept content.sure ++ unsure (length content.sure - kept);
  least = min kept content.least;
}

-- the same, and a read gives no more than that
abbrev pub cut_to : ℕ → ContentState → ContentState
cut_to kept content = record (torn_past kept content) { seen = take kept content.seen }

-- the bytes of an image that has these where nothing is sure
abbrev pub image_of : ContentState → List ℕ → List ℕ
image_of content filling = map (λ place. unwrap_or place.0 place.1) (zip content.sure filling)
