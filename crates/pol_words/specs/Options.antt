-- What the options of a line are.
use Rattle.std.specs.Prelude.{◌≡◌, ◌≢◌, ◌⊎◌, ℕ, List, [], ◌∷◌, ◌++◌, Option, Some, None, codes, length, map, option_map}
use Rattle.std.specs.List.{All, zip}
use Rattle.std.specs.List.Sorted.{IsPermutation}
use denote.Ref.{Bor}

-- the name of an option has no `=`
abbrev pub IsName : List ℕ → Type 0
IsName name = (front back : List ℕ) → name ≢ front ++ (codes "=" ++ back)

-- a value that stands as a word of its own has a byte, and doesn't begin with `-` as an option does
abbrev pub StandsApart : List ℕ → Type 0
StandsApart value = (value ≢ []) × ((rest : List ℕ) → value ≢ codes "-" ++ rest)

-- `--name value`, and the rest
abbrev pub IsApart : List (List ℕ) → List ℕ × List ℕ → List (List ℕ) → Type 0
IsApart words option rest = (words ≡ option.0 ∷ option.1 ∷ rest) × StandsApart option.1

-- `--name=value`, and the rest
abbrev pub IsAttached : List (List ℕ) → List ℕ × List ℕ → List (List ℕ) → Type 0
IsAttached words option rest = (words ≡ (option.0 ++ (codes "=" ++ option.1)) ∷ rest) × (option.1 ≢ [])

-- words begin with an option, which is a name and a value, and the rest stands behind it
abbrev pub BeginsWith : List (List ℕ) → List ℕ × List ℕ → List (List ℕ) → Type 0
BeginsWith words option rest = IsName option.0 × (IsApart words option rest ⊎ IsAttached words option rest)

-- words are these options, one behind the other
abbrev pub AreOptions : List (List ℕ) → List (List ℕ × List ℕ) → Type 0
AreOptions words [] = words ≡ []
AreOptions words (option ∷ options) = (rest : List (List ℕ)) × BeginsWith words option rest × AreOptions rest options

-- words are these options in some order
abbrev pub AreInSomeOrder : List (List ℕ) → List (List ℕ × List ℕ) → Type 0
AreInSomeOrder words options = (given : List (List ℕ × List ℕ)) × AreOptions words given × IsPermutation given options

-- the names of options
abbrev pub names_of : List (List ℕ × List ℕ) → List (List ℕ)
names_of options = map (λ option. option.0) options

-- what is read where the options of these names are asked for: their values, or none where words aren't those options
abbrev pub GivesValues : List (List ℕ) → List (List ℕ) → Option (List (List ℕ)) → Type 0
GivesValues words names (Some values) = AreInSomeOrder words (zip names values)
GivesValues words names None =
    (options : List (List ℕ × List ℕ)) → names_of options ≡ names → ¬ (AreInSomeOrder words options)

-- words are this many options
abbrev pub AreThisMany : List (List ℕ) → ℕ → Type 0
AreThisMany words count = (given : List (List ℕ × List ℕ)) × AreOptions words given × (length given ≡ count)

-- words aren't this many options
abbrev pub AreNotThisMany : List (List ℕ) → ℕ → Type 0
AreNotThisMany words count = (given : List (List ℕ × List ℕ)) → AreOptions words given → length given ≢ count

-- an option is among the given ones
abbrev pub Has : List (List ℕ × List ℕ) → List ℕ × List ℕ → Type 0
Has given option =
    (front : List (List ℕ × List ℕ)) × (back : List (List ℕ × List ℕ)) × (given ≡ front ++ option ∷ back)

-- what is read where one name is asked for, of words that are options: a value that stands by it, or none where no
-- option has this name
abbrev pub HasValue : List (List ℕ) → List ℕ → Option (List ℕ) → Type 0
HasValue words name (Some value) = (given : List (List ℕ × List ℕ)) → AreOptions words given → Has given (name, value)
HasValue words name None =
    (given : List (List ℕ × List ℕ)) → AreOptions words given → All (λ option. option.0 ≢ name) given

-- the first option that is read in words, and the rest
abbrev pub FindsFirst : List (List ℕ) → Option ((List ℕ × List ℕ) × List (List ℕ)) → Type 0
FindsFirst words (Some found) = BeginsWith words found.0 found.1
FindsFirst words None = (option : List ℕ × List ℕ) (rest : List (List ℕ)) → ¬ (BeginsWith words option rest)

-- a word is cut at its first `=`, or has none
abbrev pub IsCut : List ℕ → Option (List ℕ × List ℕ) → Type 0
IsCut word (Some parts) = IsName parts.0 × (word ≡ parts.0 ++ (codes "=" ++ parts.1))
IsCut word None = IsName word

-- what stands behind references
abbrev pub one_value : Option (Bor (List ℕ)) → Option (List (List ℕ))
one_value found = option_map (λ value. value.now ∷ []) found

abbrev pub two_values : Option (Bor (List ℕ) × Bor (List ℕ)) → Option (List (List ℕ))
two_values found = option_map (λ values. values.0.now ∷ values.1.now ∷ []) found

abbrev pub both : Option (Bor (List ℕ) × Bor (List ℕ)) → Option (List ℕ × List ℕ)
both found = option_map (λ parts. (parts.0.now, parts.1.now)) found

abbrev pub option_and_rest :
    Option (Bor (List ℕ) × Bor (List ℕ) × Bor (List (List ℕ))) → Option ((List ℕ × List ℕ) × List (List ℕ))
option_and_rest found = option_map (λ parts. ((parts.0.now, parts.1.now), parts.2.now)) found
