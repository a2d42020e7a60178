use Rattle.std.proofs.Common.{◌≡◌, length, take, None, Some, ap, ◌∙◌, arith}
use Rattle.std.specs.Int.{from_be_bytes, to_be_bytes, w64}
use Rattle.std.specs.Result.{result_ok}
use Rattle.std.proofs.lemmas.Nat.{from_be_bytes-to_be_bytes_8}
use Rattle.hex.specs.Hex.{decode_sized}
use Rattle.pol_tables.proofs.TableLemmas.{some_is}
use Rattle.pol_tokens.proofs.TextLemmas.{text_of_token-long, decode-serial}
use Rattle.pol_tokens.proofs.text.serial_in.Goals as goal

pub returns-in_err-digits : goal.returns-in_err-digits
returns-in_err-digits c serial word_a word_b fits is =
    let long = text_of_token-long serial word_a word_b in
    let same = ap length is in
    let short = c.in_err-digits.ensures.cases in
    absurd (omega (arith, long, same, short))

pub returns-in_err-word : goal.returns-in_err-word
returns-in_err-word c serial word_a word_b fits is =
    let digits = c.in_ok-digits.ensures.cases.1 ∙ ap (take 16) is in
    let read = c.from_hex.ensures ∙ ap (λ text. decode_sized text 8) digits ∙ decode-serial serial word_a word_b in
    let contrary : None ≡ Some (to_be_bytes w64 serial) = c.in_err-word.ensures.value ∙ ap result_ok read in cc

pub returns : goal.returns
returns c serial word_a word_b fits is =
    let digits = c.in_ok-digits.ensures.cases.1 ∙ ap (take 16) is in
    let read = c.from_hex.ensures ∙ ap (λ text. decode_sized text 8) digits ∙ decode-serial serial word_a word_b in
    let word = some_is c.in_ok-word.word (to_be_bytes w64 serial) (c.in_ok-word.ensures.value ∙ ap result_ok read) in
    ap Some (c.from_be_bytes.ensures ∙ ap (from_be_bytes w64) word ∙ from_be_bytes-to_be_bytes_8 serial fits)
