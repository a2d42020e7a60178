-- Streams of numbers, as the moments of a clock or the words of a draw, and what reading leaves of them.
use Rattle.std.specs.Prelude.{ℕ, ◌≡◌, ◌+◌, ◌<◌, List, [], ◌∷◌, length, slice_index, Option, Some, None, Result, MatchResult, ⊤}

-- a stream begins with these items, and the rest of it is the other stream
pub record BeginsWith (stream : ℕ → ℕ) (items : List ℕ) (rest : ℕ → ℕ) : Type 0 where
  pub front : (n : ℕ) → n < length items → slice_index items n ≡ stream n
  pub back : (n : ℕ) → rest n ≡ stream (length items + n)

-- a stream that is known begins with these items, and loses them
abbrev pub IsShifted : Option (ℕ → ℕ) → Option (ℕ → ℕ) → List ℕ → Type 0
IsShifted None new items = ⊤
IsShifted (Some stream) None items = ⊥
IsShifted (Some stream) (Some rest) items = BeginsWith stream items rest

-- a call gave the next item of a stream at `Ok`, and left the stream as it was at `Err`
abbrev pub GivesNext : {E : Type 0} → Option (ℕ → ℕ) → Option (ℕ → ℕ) → Result ℕ E → Type 0
GivesNext old new answer = MatchResult answer (λ item. IsShifted old new (item ∷ [])) (λ _. IsShifted old new [])
