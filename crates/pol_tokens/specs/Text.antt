-- The text of a token.
use Rattle.std.specs.Prelude.{◌≡◌, ◌<◌, ◌^◌, ℕ, List, ◌++◌, Option, Some}
use Rattle.std.specs.Int.{to_be_bytes, w64}
use Rattle.hex.specs.Hex.{encode_lower}

-- a word as 16 hexadecimal digits in lower case, most significant first
abbrev pub word_digits : ℕ → List ℕ
word_digits word = encode_lower (to_be_bytes w64 word)

-- a token's serial and its two random words, 16 digits each
unfoldable pub text_of_token : ℕ → ℕ → ℕ → List ℕ
text_of_token serial word_a word_b = word_digits serial ++ word_digits word_a ++ word_digits word_b

-- where the text is a token's, this is the token's serial
abbrev pub TellsSerial : List ℕ → Option ℕ → Type 0
TellsSerial text found =
    (serial word_a word_b : ℕ) → serial < 2 ^ 64 → text ≡ text_of_token serial word_a word_b → found ≡ Some serial
