-- What each question of a table of values tells of its arguments.
use Rattle.std.specs.Prelude.{◌≡◌, ◌≢◌, ◌⊎◌, ℕ, Bool, List, [], ◌∷◌, ◌++◌, if◌then◌else◌, codes, Any}
use Rattle.pol_names.specs.Name.{IsName, IsNameRefusal, name_refusal_text}
use Rattle.pol_names.specs.Namespace.{IsNamespace, IsNamespaceRefusal, dotted, levels_of, namespace_refusal_text, segment_of}
use Rattle.pol_names.specs.Plain.{IsPlainName, IsPlainRefusal}
use Rattle.pol_names.specs.declared.name.NameRefused.{NameRefused}
use Rattle.pol_names.specs.declared.namespace.NamespaceRefused.{NamespaceRefused}
use Rattle.pol_locations.specs.Location.{IsLocation, IsParseRefusal, is_cover, is_overlap, location_text, segments_of}
use Rattle.pol_locations.specs.LocationRefused.{word_of}
use Rattle.pol_locations.specs.declared.refused.LocationRefused.{LocationRefused}
use Rattle.pol_values.specs.Changes.{TellsChanges, TellsChangesAgain, TellsObjectChange}
use Rattle.pol_values.specs.Commits.{TellsCommit, TellsTransaction}
use Rattle.pol_values.specs.Tables.{TellsMetadata, TellsTable}
use Rattle.pol_values.specs.Views.{TellsView, TellsViewCommit, TellsViewMetadata}
use Rattle.pol_values.specs.declared.values.Question.{Question}
use Rattle.pol_values.specs.declared.values.Question.TheVariants as question
use Rattle.pol_values.specs.declared.values.Value.{Value}

-- a plain name is told as it is, and what is none by why
abbrev pub TellsPlain : List ℕ → List ℕ → Type 0
TellsPlain text told =
    (IsPlainName text × (told ≡ text))
    ⊎ ((why : NameRefused) × IsPlainRefusal text why × (told ≡ name_refusal_text why))

-- the same of a name
abbrev pub TellsName : List ℕ → List ℕ → Type 0
TellsName text told =
    (IsName text × (told ≡ text))
    ⊎ ((why : NameRefused) × IsNameRefusal text why × (told ≡ name_refusal_text why))

-- a segment that is a namespace is told by its levels with dots between them, and what is none by why
abbrev pub TellsSegment : List ℕ → List ℕ → Type 0
TellsSegment text told =
    (IsNamespace (levels_of text) × (told ≡ dotted (levels_of text)))
    ⊎ ((why : NamespaceRefused) × IsNamespaceRefusal (levels_of text) why × (told ≡ namespace_refusal_text why))

-- levels that are a namespace are told as its segment, and what is none by why
abbrev pub TellsLevels : List (List ℕ) → List ℕ → Type 0
TellsLevels levels told =
    (IsNamespace levels × (told ≡ segment_of levels))
    ⊎ ((why : NamespaceRefused) × IsNamespaceRefusal levels why × (told ≡ namespace_refusal_text why))

-- a location is told by its text, and what is none by why
abbrev pub TellsLocation : List ℕ → List ℕ → Type 0
TellsLocation text told =
    (IsLocation (segments_of text) × (told ≡ location_text (segments_of text)))
    ⊎ ((why : LocationRefused) × IsParseRefusal text why × (told ≡ word_of why))

-- the location below another one is told by its text, or there is none
abbrev pub TellsJoin : List ℕ → List (List ℕ) → List ℕ → Type 0
TellsJoin base segments told =
    (told ≡ location_text (segments_of base ++ segments)) ⊎ ((why : LocationRefused) × (told ≡ word_of why))

-- a test is told by a word
abbrev pub TellsTest : Bool → List ℕ → Type 0
TellsTest holds told = told ≡ (if holds then codes "true" else codes "false")

-- a fact of the only one of some arguments, or of the only two; there is none where they are more or fewer
abbrev pub OfOne : (List ℕ → Type 0) → List (List ℕ) → Type 0
OfOne P [] = ⊥
OfOne P (text ∷ []) = P text
OfOne P (text ∷ next ∷ rest) = ⊥

abbrev pub OfTwo : (List ℕ → List ℕ → Type 0) → List (List ℕ) → Type 0
OfTwo P [] = ⊥
OfTwo P (a ∷ []) = ⊥
OfTwo P (a ∷ b ∷ []) = P a b
OfTwo P (a ∷ b ∷ next ∷ rest) = ⊥

-- a fact of the first of some arguments and of the others
abbrev pub OfFirst : (List ℕ → List (List ℕ) → Type 0) → List (List ℕ) → Type 0
OfFirst P [] = ⊥
OfFirst P (text ∷ rest) = P text rest

-- what a question tells of its arguments
abbrev pub Tells : Question → List (List ℕ) → List ℕ → Type 0
Tells question.Plain arguments told = OfOne (λ text. TellsPlain text told) arguments
Tells question.Name arguments told = OfOne (λ text. TellsName text told) arguments
Tells question.Segment arguments told = OfOne (λ text. TellsSegment text told) arguments
Tells question.Levels arguments told = TellsLevels arguments told
Tells question.Location arguments told = OfOne (λ text. TellsLocation text told) arguments
Tells question.Join arguments told = OfFirst (λ base segments. TellsJoin base segments told) arguments
Tells question.Covers arguments told = OfTwo (λ a b. TellsTest (is_cover (segments_of a) (segments_of b)) told) arguments
Tells question.Overlaps arguments told = OfTwo (λ a b. TellsTest (is_overlap (segments_of a) (segments_of b)) told) arguments
Tells question.TableRequest arguments told = OfOne (λ body. TellsTable body told) arguments
Tells question.TableMetadata arguments told = OfOne (λ text. TellsMetadata text told) arguments
Tells question.TableCommit arguments told = OfTwo (λ text body. TellsCommit text body told) arguments
Tells question.TableTransaction arguments told = OfOne (λ body. TellsTransaction body told) arguments
Tells question.ViewRequest arguments told = OfOne (λ body. TellsView body told) arguments
Tells question.ViewMetadata arguments told = OfOne (λ text. TellsViewMetadata text told) arguments
Tells question.ViewCommit arguments told = OfTwo (λ text body. TellsViewCommit text body told) arguments
Tells question.Changes arguments told = OfOne (λ digits. TellsChanges digits told) arguments
Tells question.ChangesAgain arguments told = OfOne (λ digits. TellsChangesAgain digits told) arguments
Tells question.ObjectChange arguments told = OfOne (λ digits. TellsObjectChange digits told) arguments

-- a value is told to be what is wanted
abbrev pub IsAsWanted : Value → Type 0
IsAsWanted value = Tells value.question value.arguments.items value.wanted.items

-- a value is told to be another one
abbrev pub IsAnother : Value → Type 0
IsAnother value = (told : List ℕ) × Tells value.question value.arguments.items told × (told ≢ value.wanted.items)

-- a value that stands at a line is told to be another one
abbrev pub Differs : List Value → ℕ → Type 0
Differs values line = Any (λ value. (value.line ≡ line) × IsAnother value) values
