-- The text of a token is UTF-8.
use Rattle.std.proofs.Common.{◌≡◌, ℕ, true, List, [], ◌∷◌, ◌++◌, IsUtf8, refl}
use Rattle.std.specs.Cmp.{first_so, second_so}
use Rattle.std.specs.Int.{to_be_bytes, w64}
use Rattle.std.specs.List.{list_all}
use Rattle.std.specs.Prelude.{nat_lt}
use Rattle.std.specs.Str.{IsAscii}
use Rattle.std.proofs.lemmas.Bool.{ltb-true}
use Rattle.std.proofs.lemmas.Str.{IsAscii-append, IsUtf8-from_ascii}
use Rattle.std.proofs.lemmas.Str.Ascii.{IsAscii-nil, IsAscii-cons}
use Rattle.hex.specs.Hex.{lower_digits}
use Rattle.hex.proofs.HexLemmas.{IsAscii-encode_with}
use Rattle.pol_tokens.specs.Text.{word_digits, text_of_token}

IsAscii-from_test : (bytes : List ℕ) → list_all (λ byte. nat_lt byte 128) bytes ≡ true → IsAscii bytes
IsAscii-from_test [] small = IsAscii-nil
IsAscii-from_test (byte ∷ bytes) small =
    IsAscii-cons byte bytes (ltb-true byte 128 (first_so (nat_lt byte 128) (list_all (λ b. nat_lt b 128) bytes) small))
    (IsAscii-from_test bytes (second_so (nat_lt byte 128) (list_all (λ b. nat_lt b 128) bytes) small))

IsAscii-word_digits : (word : ℕ) → IsAscii (word_digits word)
IsAscii-word_digits word = IsAscii-encode_with lower_digits (to_be_bytes w64 word) (IsAscii-from_test lower_digits refl)

pub IsUtf8-text_of_token : (serial word_a word_b : ℕ) → IsUtf8 (text_of_token serial word_a word_b)
unfolding text_of_token
IsUtf8-text_of_token serial word_a word_b =
    IsUtf8-from_ascii (word_digits serial ++ word_digits word_a ++ word_digits word_b)
    (IsAscii-append (word_digits serial ++ word_digits word_a) (word_digits word_b)
    (IsAscii-append (word_digits serial) (word_digits word_a) (IsAscii-word_digits serial) (IsAscii-word_digits word_a))
    (IsAscii-word_digits word_b))
