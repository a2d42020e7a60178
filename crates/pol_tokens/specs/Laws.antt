-- Laws of tokens.
use Rattle.std.specs.Prelude.{◌≡◌, ◌<◌, ◌^◌, ℕ}
use Rattle.pol_tokens.specs.Text.{text_of_token}

-- tokens with one text have one serial and the same two words, all of these being words of 64 bits
abbrev pub TextsTellTokens : Type 0
TextsTellTokens =
    (serial word_a word_b other other_a other_b : ℕ) → serial < 2 ^ 64 → word_a < 2 ^ 64 → word_b < 2 ^ 64 → other < 2 ^ 64 → other_a < 2 ^ 64 → other_b < 2 ^ 64
    → text_of_token serial word_a word_b ≡ text_of_token other other_a other_b
    → (serial ≡ other) × (word_a ≡ other_a) × (word_b ≡ other_b)
