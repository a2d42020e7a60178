-- The words of a scope, counted.
use Rattle.std.proofs.Common.{◌≡◌, ◌≢◌, ℕ, ◌+◌, ◌<◌, ◌≤◌, ◌==◌, true, false, cond, List, [], ◌∷◌, ◌++◌, length, take, get_or, Some, None, sym, ap, ◌∙◌, arith, length-take, take_all}
use Rattle.std.specs.List.{slice_split}
use Rattle.std.specs.Prelude.{nat_le, nat_lt}
use Rattle.std.proofs.lemmas.Bool.Decides.{nat_tests}
use Rattle.std.proofs.lemmas.List.{take_more}
use Rattle.form_urlencoded.specs.Form.{space}
use Rattle.pol_routes.specs.TokenForm.{scope_words, few_words}
use Rattle.pol_routes.specs.declared.token_form.TheConstants.{SCOPE_LIMIT}

-- the words between single spaces
abbrev pub words_between : List ℕ → List (List ℕ)
words_between text = slice_split (λ byte. byte == space) text

few : (words : List (List ℕ)) → length words ≤ SCOPE_LIMIT → few_words words ≡ Some words
few words short =
    let is : nat_le (length words) SCOPE_LIMIT ≡ true = grind (arith, nat_tests) in
    ap (λ b. cond b (Some words) None) is

many : (words : List (List ℕ)) → SCOPE_LIMIT < length words → few_words words ≡ None
many words long =
    let is : nat_le (length words) SCOPE_LIMIT ≡ false = grind (arith, nat_tests) in
    ap (λ b. cond b (Some words) None) is

some_words : (text : List ℕ) → 0 < length text → scope_words text ≡ words_between text
some_words text some =
    let is : nat_lt 0 (length text) ≡ true = grind (arith, nat_tests) in
    ap (λ b. cond b (words_between text) []) is

-- the words that were read are all words
pub all_words : (text : List ℕ) (words : List (List ℕ)) (n : ℕ) → 0 < length text → words ≡ take n (words_between text)
    → n ≡ length (words_between text) → n ≤ SCOPE_LIMIT → Some words ≡ few_words (scope_words text)
all_words text words n some read all short =
    let whole = take_all n (words_between text) (omega arith) in
    ap Some (read ∙ whole) ∙ sym (ap few_words (some_words text some) ∙ few (words_between text) (omega arith))

-- there is a word more than may be
pub word_too_many : (text : List ℕ) (words : List (List ℕ)) (n : ℕ) → 0 < length text → words ≡ take n (words_between text)
    → n < length (words_between text) → length words ≡ SCOPE_LIMIT → None ≡ few_words (scope_words text)
word_too_many text words n some read inside full =
    sym (ap few_words (some_words text some)
    ∙ many (words_between text) (omega (arith, ap length read, length-take n (words_between text))))

-- one word more was read
pub word_more : (text : List ℕ) (words next : List (List ℕ)) (word : List ℕ) (n m : ℕ) → words ≡ take n (words_between text)
    → n < length (words_between text) → word ≡ get_or (words_between text) n word → next ≡ words ++ word ∷ [] → m ≡ n + 1
    → n ≤ SCOPE_LIMIT → length words ≢ SCOPE_LIMIT → (next ≡ take m (words_between text)) × (m ≤ SCOPE_LIMIT)
word_more text words next word n m read inside is pushed one short not_full =
    let all = words_between text in (
      pushed ∙ (λ k. read k ++ is k ∷ []) ∙ sym (take_more all n word inside) ∙ ap (λ i. take i all) (sym one),
      omega (arith, ap length read, length-take n all),
    )
