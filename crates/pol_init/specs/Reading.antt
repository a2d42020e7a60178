-- The text of a declaration, as a source gives it.
use Rattle.std.specs.Prelude.{◌≡◌, ◌≤◌, ◌⊎◌, ℕ, List, ◌++◌, length, Option, ⊤}
use Rattle.std.specs.Io.KnownBytes.{Consumes, IsAtEnd}
use Rattle.pol_wire.specs.Faults.{Rises}
use Rattle.pol_init.specs.declared.reading.Unread.{Unread}
use Rattle.pol_init.specs.declared.reading.Unread.TheVariants.{ReadFault, OutOfMemory}

-- the most bytes that are taken: one more than the longest text has
abbrev pub most_taken : ℕ
most_taken = 1048577

-- a text was taken: what the source had left, or as many bytes as are taken at most
pub record TakesText (before after : Option (List ℕ)) (text : List ℕ) : Type 0 where
  pub takes : Consumes before after text
  pub within : length text ≤ most_taken
  pub whole : IsAtEnd after ⊎ (length text ≡ most_taken)

-- bytes were taken, whatever came of them
pub record TakesSome (before after : Option (List ℕ)) : Type 0 where
  pub taken : List ℕ
  pub takes : Consumes before after taken
  pub within : length taken ≤ most_taken

-- more bytes were taken: none only at the end
pub record TakesMore (before after : Option (List ℕ)) (old new : List ℕ) (count : ℕ) : Type 0 where
  pub piece : List ℕ
  pub takes : Consumes before after piece
  pub more : new ≡ old ++ piece
  pub counted : count ≡ length piece
  pub within : length new ≤ most_taken
  pub none : count ≡ 0 → IsAtEnd after

-- why a text wasn't taken: the source failed in this call, or there was no memory
abbrev pub IsUnread : ℕ → ℕ → Unread → Type 0
IsUnread old new ReadFault = Rises old new
IsUnread old new OutOfMemory = ⊤
