-- How words are cut into options.
use Rattle.std.proofs.Common.{◌≡◌, ◌≢◌, ◌⊎◌, ℕ, ◌-◌, ◌<◌, Bool, true, false, MatchBool, List, [], ◌∷◌, ◌++◌, Option, Some, None, Bor, length, get_or, refl, sym, ap, subst, ◌∙◌, inl, inr, arith}
use Rattle.std.proofs.lemmas.List.{get_or_at, length-append}
use Rattle.std.proofs.lemmas.List.Elements.{All-cons, All-nil, All-same}
use Rattle.std.proofs.lemmas.Str.Pattern.{IsSplitOnceResult, split_parts}
use Rattle.pol_words.specs.Options.{AreNotThisMany, AreOptions, AreThisMany, BeginsWith, FindsFirst, Has, HasValue, IsApart, IsAttached, IsCut, IsName, both}

-- a text none of whose bytes is `=`
name-from_bytes : (name : List ℕ) → ((i : ℕ) → i < length name → get_or name i 0 ≢ 61) → IsName name
name-from_bytes name none = λ front back is.
    none (length front) (omega (arith, ap length is, length-append front (61 ∷ back))) (ap (λ text. get_or text (length front) 0) is ∙ get_or_at front 61 back 0 (length front) refl)

-- what a cut at the first `=` gives
pub cut : (word : List ℕ) (found : Option (Bor (List ℕ) × Bor (List ℕ))) → IsSplitOnceResult 61 word found → IsCut word (both found)
cut word (Some found) is =
    let parts = split_parts 61 word (Some found) is (omega arith) in
    (name-from_bytes found.0.now parts.1, parts.0)
cut word None is = name-from_bytes word (split_parts 61 word None is (omega arith))

-- a text has one first `=`
pub cut-one : (one two value other : List ℕ) → IsName one → IsName two → one ++ 61 ∷ value ≡ two ++ 61 ∷ other → (one ≡ two) × (value ≡ other)
cut-one [] [] value other named also is =
    let rest : value ≡ other = cc in
    (refl, rest)
cut-one [] (x ∷ two) value other named also is =
    let byte : x ≡ 61 = cc in
    absurd (also [] two (ap (λ b. b ∷ two) byte))
cut-one (x ∷ one) [] value other named also is =
    let byte : x ≡ 61 = cc in
    absurd (named [] one (ap (λ b. b ∷ one) byte))
cut-one (x ∷ one) (y ∷ two) value other named also is =
    let byte : x ≡ y = cc in
    let rest : one ++ 61 ∷ value ≡ two ++ 61 ∷ other = cc in
    let parts = cut-one one two value other (λ front back same. named (x ∷ front) back (ap (λ text. x ∷ text) same)) (λ front back same. also (y ∷ front) back (ap (λ text. y ∷ text) same)) rest in
    (λ i. byte i ∷ parts.0 i, parts.1)

begins-cases : (words : List (List ℕ)) (one two : List ℕ × List ℕ) (rest other : List (List ℕ)) → IsName one.0 → IsName two.0 → IsApart words one rest ⊎ IsAttached words one rest → IsApart words two other ⊎ IsAttached words two other → (one ≡ two) × (rest ≡ other)
begins-cases words one two rest other named also (inl first) (inl second) =
    let is : one.0 ∷ one.1 ∷ rest ≡ two.0 ∷ two.1 ∷ other = sym first.0 ∙ second.0 in
    let names : one.0 ≡ two.0 = cc in
    let values : one.1 ≡ two.1 = cc in
    let rests : rest ≡ other = cc in
    (λ i. (names i, values i), rests)
begins-cases words one two rest other named also (inl first) (inr second) =
    let is : one.0 ∷ one.1 ∷ rest ≡ (two.0 ++ 61 ∷ two.1) ∷ other = sym first.0 ∙ second.0 in
    let name : one.0 ≡ two.0 ++ 61 ∷ two.1 = cc in
    absurd (named two.0 two.1 name)
begins-cases words one two rest other named also (inr first) (inl second) =
    let is : two.0 ∷ two.1 ∷ other ≡ (one.0 ++ 61 ∷ one.1) ∷ rest = sym second.0 ∙ first.0 in
    let name : two.0 ≡ one.0 ++ 61 ∷ one.1 = cc in
    absurd (also one.0 one.1 name)
begins-cases words one two rest other named also (inr first) (inr second) =
    let is : (one.0 ++ 61 ∷ one.1) ∷ rest ≡ (two.0 ++ 61 ∷ two.1) ∷ other = sym first.0 ∙ second.0 in
    let word : one.0 ++ 61 ∷ one.1 ≡ two.0 ++ 61 ∷ two.1 = cc in
    let rests : rest ≡ other = cc in
    let parts = cut-one one.0 two.0 one.1 two.1 named also word in
    (λ i. (parts.0 i, parts.1 i), rests)

-- words begin with one option at most
pub begins-one : (words : List (List ℕ)) (one two : List ℕ × List ℕ) (rest other : List (List ℕ)) → BeginsWith words one rest → BeginsWith words two other → (one ≡ two) × (rest ≡ other)
begins-one words one two rest other first second = begins-cases words one two rest other first.0 second.0 first.1 second.1

empty-cases : (words : List (List ℕ)) (option : List ℕ × List ℕ) (rest : List (List ℕ)) → words ≡ [] → IsApart words option rest ⊎ IsAttached words option rest → ⊥
empty-cases words option rest empty (inl first) =
    let is = sym empty ∙ first.0 in cc
empty-cases words option rest empty (inr first) =
    let is = sym empty ∙ first.0 in cc

-- no words begin with no option
pub empty-begins : (words : List (List ℕ)) (option : List ℕ × List ℕ) (rest : List (List ℕ)) → words ≡ [] → BeginsWith words option rest → ⊥
empty-begins words option rest empty begins = empty-cases words option rest empty begins.1

valueless-cases : (word name : List ℕ) (behind : List (List ℕ)) → IsName name → word ≡ name ++ 61 ∷ [] → (option : List ℕ × List ℕ) (rest : List (List ℕ)) → IsName option.0 → IsApart (word ∷ behind) option rest ⊎ IsAttached (word ∷ behind) option rest → ⊥
valueless-cases word name behind named is option rest also (inl first) =
    let apart = first.0 in
    let same : option.0 ≡ name ++ 61 ∷ [] = cc in
    also name [] same
valueless-cases word name behind named is option rest also (inr first) =
    let attached = first.0 in
    let same : name ++ 61 ∷ [] ≡ option.0 ++ 61 ∷ option.1 = cc in
    let parts = cut-one name option.0 [] option.1 named also same in
    first.1 (sym parts.1)

-- no option has nothing behind its first `=`
pub valueless : (word name value : List ℕ) (behind : List (List ℕ)) → IsCut word (Some (name, value)) → value ≡ [] → FindsFirst (word ∷ behind) None
valueless word name value behind is empty = λ option rest begins.
    valueless-cases word name behind is.0 (is.1 ∙ ap (λ value. name ++ 61 ∷ value) empty) option rest begins.0 begins.1

-- the options of words are read in one way
pub options-one : (words : List (List ℕ)) (given other : List (List ℕ × List ℕ)) → AreOptions words given → AreOptions words other → given ≡ other
options-one words [] [] first second = refl
options-one words [] (two ∷ other) first second = absurd (empty-begins words two second.0 first second.1)
options-one words (one ∷ given) [] first second = absurd (empty-begins words one first.0 second first.1)
options-one words (one ∷ given) (two ∷ other) first second =
    let same = begins-one words one two first.0 second.0 first.1 second.1 in
    let later = options-one second.0 given other (subst (λ rest. AreOptions rest given) same.1 first.2) second.2 in
    λ i. same.0 i ∷ later i

-- the first of words' options is the one that they begin with
pub head-is : (words : List (List ℕ)) (option : List ℕ × List ℕ) (rest : List (List ℕ)) (given : List (List ℕ × List ℕ)) → BeginsWith words option rest → AreOptions words given → (options : List (List ℕ × List ℕ)) × (given ≡ option ∷ options) × AreOptions rest options
head-is words option rest [] begins are = absurd (empty-begins words option rest are begins)
head-is words option rest (one ∷ given) begins are =
    let same = begins-one words one option are.0 rest are.1 begins in
    (given, λ i. same.0 i ∷ given, subst (λ rest. AreOptions rest given) same.1 are.2)

-- words that begin with no option are none
pub none-given : (words : List (List ℕ)) (given : List (List ℕ × List ℕ)) → FindsFirst words None → AreOptions words given → given ≡ []
none-given words [] none are = refl
none-given words (one ∷ given) none are = absurd (none one are.0 are.1)

-- what is among options is among one more
pub has-more : (first : List ℕ × List ℕ) (given : List (List ℕ × List ℕ)) (option : List ℕ × List ℕ) → Has given option → Has (first ∷ given) option
has-more first given option has = (first ∷ has.0, has.1, ap (λ options. first ∷ options) has.2)

module _ (words : List (List ℕ)) (option : List ℕ × List ℕ) (rest : List (List ℕ)) (begins : BeginsWith words option rest) where
  -- the first option has the name
  pub value-first : (name : List ℕ) → option.0 ≡ name → HasValue words name (Some option.1)
  value-first name is = λ given are.
      let head = head-is words option rest given begins are in
      ([], head.0, head.1 ∙ ap (λ name. (name, option.1) ∷ head.0) is)

  -- the first option has another name
  pub value-later : (name : List ℕ) (found : Option (List ℕ)) → option.0 ≢ name → HasValue rest name found → HasValue words name found
  value-later name (Some value) other has = λ given are.
      let head = head-is words option rest given begins are in
      let later = has-more option head.0 (name, value) (has head.0 head.2) in
      (later.0, later.1, head.1 ∙ later.2)
  value-later name None other has = λ given are.
      let head = head-is words option rest given begins are in
      let P : List ℕ × List ℕ → Type 0 = λ option. option.0 ≢ name in
      All-same P given (option ∷ head.0) head.1 (All-cons P option head.0 other (has head.0 head.2))

  -- one option more than those of the rest
  pub many-more : (enough : Bool) (count : ℕ) → 0 < count → MatchBool enough (AreThisMany rest (count - 1)) (AreNotThisMany rest (count - 1)) → MatchBool enough (AreThisMany words count) (AreNotThisMany words count)
  many-more true count some many = (option ∷ many.0, (rest, begins, many.1), omega (arith, many.2))
  many-more false count some many = λ given are counts.
      let head = head-is words option rest given begins are in
      many head.0 head.2 (omega (arith, ap length head.1, counts))

-- words that are no options have no value of a name
pub value-none : (words : List (List ℕ)) (name : List ℕ) → FindsFirst words None → HasValue words name None
value-none words name none = λ given are.
    let P : List ℕ × List ℕ → Type 0 = λ option. option.0 ≢ name in
    All-same P given [] (none-given words given none are) (All-nil P)

-- words that begin with no option aren't some options
pub many-none : (words : List (List ℕ)) (count : ℕ) → 0 < count → FindsFirst words None → AreNotThisMany words count
many-none words count some none = λ given are counts.
    omega (arith, ap length (none-given words given none are), counts)
