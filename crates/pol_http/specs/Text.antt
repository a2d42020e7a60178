-- Bytes that are no whole text yet.
use Rattle.std.specs.Prelude.{◌≡◌, ◌≤◌, ℕ, Bool, not, ◌==◌, List, ◌∷◌, ◌++◌, IsUtf8, All}
use Rattle.httparse.specs.Ascii.{space}
use Rattle.httparse.specs.Grammar.{AllPass}

-- no bytes can follow that make the bytes UTF-8
abbrev pub IsBeyondRepair : List ℕ → Type 0
IsBeyondRepair bytes = (more : List ℕ) → ¬ (IsUtf8 (bytes ++ more))

-- some bytes past ASCII can follow that make the bytes UTF-8
abbrev pub CanBecomeText : List ℕ → Type 0
CanBecomeText bytes = (more : List ℕ) × All (λ byte. 128 ≤ byte) more × IsUtf8 (bytes ++ more)

-- any byte but a space
abbrev pub is_no_space : ℕ → Bool
is_no_space byte = not (byte == space)

-- rest follows the first space of bytes
abbrev pub IsAfterFirstSpace : List ℕ → List ℕ → Type 0
IsAfterFirstSpace bytes rest = (front : List ℕ) × AllPass is_no_space front × (bytes ≡ front ++ space ∷ rest)

-- bytes has one space, and rest follows it
abbrev pub IsAfterOnlySpace : List ℕ → List ℕ → Type 0
IsAfterOnlySpace bytes rest =
    (front : List ℕ) × AllPass is_no_space front × AllPass is_no_space rest × (bytes ≡ front ++ space ∷ rest)
