-- The digits of words read back.
use Rattle.std.proofs.Common.{◌≡◌, ℕ, Ok, ◌≤◌, zero, suc, ◌<◌, ◌*◌, ◌+◌, ◌^◌, List, ◌++◌, length, take, drop, refl, sym, ap, ◌∙◌, append_assoc, arith}
use Rattle.std.specs.Int.{byte_at, bytes_high_first, to_be_bytes, from_be_bytes, w64}
use Rattle.std.proofs.lemmas.Nat.{from_be_bytes-to_be_bytes_8}
use Rattle.std.proofs.lemmas.List.{take_at, drop_at, length-append}
use Rattle.hex.specs.Hex.{IsBytes, decode_of, decode_sized, lower_digits}
use Rattle.hex.proofs.HexLemmas.{length-encode_with, decode_of-encode_lower, decode_of-same, decode_sized-twice}
use Rattle.pol_tokens.specs.Text.{word_digits, text_of_token}

-- the bytes of a number are bytes
byte_at-small : (i n : ℕ) → byte_at i n < 256
byte_at-small zero n = omega arith
byte_at-small (suc i) n = omega arith

IsBytes-high_first : (count n : ℕ) → IsBytes (bytes_high_first count n)
IsBytes-high_first zero n i = omega arith
IsBytes-high_first (suc count) n zero = byte_at-small count n
IsBytes-high_first (suc count) n (suc i) = IsBytes-high_first count n i

length-high_first : (count n : ℕ) → length (bytes_high_first count n) ≡ count
length-high_first zero n = refl
length-high_first (suc count) n = ap suc (length-high_first count n)

-- a word has 16 digits
pub length-word_digits : (word : ℕ) → length (word_digits word) ≡ 16
length-word_digits word =
    length-encode_with lower_digits (to_be_bytes w64 word) ∙ ap (λ count. 2 * count) (length-high_first 8 word)

-- words with the same digits are equal
word_digits-tell : (word other : ℕ) → word < 2 ^ 64 → other < 2 ^ 64 → word_digits word ≡ word_digits other → word ≡ other
word_digits-tell word other fits other_fits is =
    let bytes = to_be_bytes w64 word in
    let other_bytes = to_be_bytes w64 other in
    let read : decode_of (word_digits word) ≡ Ok bytes = decode_of-encode_lower bytes (IsBytes-high_first 8 word) in
    let other_read : decode_of (word_digits word) ≡ Ok other_bytes = ap decode_of is ∙ decode_of-encode_lower other_bytes (IsBytes-high_first 8 other) in
    sym (from_be_bytes-to_be_bytes_8 word fits) ∙ ap (from_be_bytes w64) (decode_of-same (word_digits word) bytes other_bytes read other_read) ∙ from_be_bytes-to_be_bytes_8 other other_fits

-- lists that begin with as many items are equal part by part
parts_tell : (count : ℕ) (first second other_first other_second : List ℕ) → length first ≡ count → length other_first ≡ count → first ++ second ≡ other_first ++ other_second → (first ≡ other_first) × (second ≡ other_second)
parts_tell count first second other_first other_second long other_long is = (
  sym (take_at first second count long) ∙ ap (take count) is ∙ take_at other_first other_second count other_long,
  sym (drop_at first second count long) ∙ ap (drop count) is ∙ drop_at other_first other_second count other_long,
)

-- tokens with one text have one serial and the same two words
pub text_of_token-tell : (serial word_a word_b other other_a other_b : ℕ) → serial < 2 ^ 64 → word_a < 2 ^ 64 → word_b < 2 ^ 64 → other < 2 ^ 64 → other_a < 2 ^ 64 → other_b < 2 ^ 64 → text_of_token serial word_a word_b ≡ text_of_token other other_a other_b → (serial ≡ other) × (word_a ≡ other_a) × (word_b ≡ other_b)
unfolding text_of_token
text_of_token-tell serial word_a word_b other other_a other_b fits fits_a fits_b other_fits other_fits_a other_fits_b is =
    let long : (one two : ℕ) → length (word_digits one ++ word_digits two) ≡ 32 = λ one two. length-append (word_digits one) (word_digits two) ∙ ap (λ count. count + length (word_digits two)) (length-word_digits one) ∙ ap (λ count. 16 + count) (length-word_digits two) in
    let ends = parts_tell 32 (word_digits serial ++ word_digits word_a) (word_digits word_b) (word_digits other ++ word_digits other_a) (word_digits other_b) (long serial word_a) (long other other_a) is in
    let heads = parts_tell 16 (word_digits serial) (word_digits word_a) (word_digits other) (word_digits other_a) (length-word_digits serial) (length-word_digits other) ends.0 in
    (word_digits-tell serial other fits other_fits heads.0, word_digits-tell word_a other_a fits_a other_fits_a heads.1, word_digits-tell word_b other_b fits_b other_fits_b ends.1)

-- the first 16 digits of a token's text are its serial's
first_digits : (serial word_a word_b : ℕ) → take 16 (text_of_token serial word_a word_b) ≡ word_digits serial
unfolding text_of_token
first_digits serial word_a word_b =
    ap (take 16) (append_assoc (word_digits serial) (word_digits word_a) (word_digits word_b))
    ∙ take_at (word_digits serial) (word_digits word_a ++ word_digits word_b) 16 (length-word_digits serial)

pub text_of_token-long : (serial word_a word_b : ℕ) → 16 ≤ length (text_of_token serial word_a word_b)
unfolding text_of_token
text_of_token-long serial word_a word_b =
    let whole = length-append (word_digits serial ++ word_digits word_a) (word_digits word_b) in
    let heads = length-append (word_digits serial) (word_digits word_a) in
    let first = length-word_digits serial in
    omega (arith, whole, heads, first)

-- and they spell it
pub decode-serial : (serial word_a word_b : ℕ) → decode_sized (take 16 (text_of_token serial word_a word_b)) 8 ≡ Ok (to_be_bytes w64 serial)
decode-serial serial word_a word_b =
    ap (λ digits. decode_sized digits 8) (first_digits serial word_a word_b)
    ∙ decode_sized-twice (word_digits serial) 8 (length-word_digits serial)
    ∙ decode_of-encode_lower (to_be_bytes w64 serial) (IsBytes-high_first 8 serial)
