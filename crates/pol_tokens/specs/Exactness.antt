-- What `==` tells of storage tokens: only equal ones compare as equal.
use Rattle.std.specs.Prelude.{◌≡◌, ℕ, Bool, true, false, ◌&&◌, nat_eq, List, refl}
use Rattle.std.specs.Bool.{beq}
use Rattle.std.specs.Cmp.{first_so, second_so}
use Rattle.std.specs.Cmp.Lexicographic.{pointwise, same_text}
use Rattle.std.proofs.Common.{sym}
use Rattle.std.proofs.lemmas.Bool.{eqb-true}
use Rattle.pol_types.specs.Exact.{pointwise_exact}
use Rattle.pol_tokens.specs.contracts.token.TokenRowPartialEq.TheImpl as tokens_compared
use Rattle.pol_tokens.specs.declared.token.TokenRow.{TokenRow}

-- two comparisons that both hold tell what each of them tells
both : {P Q : Type 0} {a b : Bool} → (a ≡ true → P) → (b ≡ true → Q) → (a && b) ≡ true → P × Q
both {P} {Q} {a} {b} first second same = (first (first_so a b same), second (second_so a b same))

numbers_exact : (left right : ℕ) → nat_eq left right ≡ true → left ≡ right
numbers_exact left right same = eqb-true left right same

texts_exact : (left right : List ℕ) → pointwise nat_eq left right ≡ true → left ≡ right
texts_exact left right same = same_text left right (sym same)

truths_exact : (left right : Bool) → beq left right ≡ true → left ≡ right
truths_exact true true same = refl
truths_exact true false same = cc
truths_exact false true same = cc
truths_exact false false same = refl

pub token_rows_exact : (left right : TokenRow) → (tokens_compared.ghosts).eq left right ≡ true → left ≡ right
token_rows_exact left right same =
    let told =
    both (numbers_exact left.serial right.serial)
    (both (numbers_exact left.word_a right.word_a)
    (both (numbers_exact left.word_b right.word_b)
    (both (numbers_exact left.principal right.principal)
    (both (numbers_exact left.table right.table)
    (both (numbers_exact left.moves right.moves)
    (both (pointwise_exact texts_exact left.location right.location)
    (both (truths_exact left.write right.write)
    (numbers_exact left.expires right.expires)))))))) same
    in
    λ i. record {
      serial = told.0 i;
      word_a = told.1.0 i;
      word_b = told.1.1.0 i;
      principal = told.1.1.1.0 i;
      table = told.1.1.1.1.0 i;
      moves = told.1.1.1.1.1.0 i;
      location = told.1.1.1.1.1.1.0 i;
      write = told.1.1.1.1.1.1.1.0 i;
      expires = told.1.1.1.1.1.1.1.1 i;
    }
