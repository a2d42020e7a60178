-- Namespaces, why a list of levels is none, and the two texts of a namespace.
use Rattle.std.specs.Prelude.{◌≡◌, ◌≢◌, ◌≤◌, ℕ, ◌+◌, ◌-◌, ◌||◌, ◌==◌, nat_lt, List, [], ◌∷◌, ◌++◌, length, map, take, Option, Some, None, if◌then◌else◌, All, codes, decimal}
use Rattle.std.specs.Bool.{⊤}
use Rattle.std.specs.Borrow.{Bor}
use Rattle.std.specs.List.{join_with_byte, slice_split}
use Rattle.std.specs.Option.{option_map, option_or}
use Rattle.pol_names.specs.Name.{IsName, name_refusal}
use Rattle.pol_names.specs.declared.name.NameRefused.{NameRefused}
use Rattle.pol_names.specs.declared.name.NameRefused.TheVariants as name
use Rattle.pol_names.specs.declared.namespace.NamespaceRefused.{NamespaceRefused}
use Rattle.pol_names.specs.declared.namespace.NamespaceRefused.TheVariants.{TooDeep, EmptyLevel, LongLevel, ControlByte, OutOfMemory}

-- a namespace: 1 to 16 levels, each a name
pub record IsNamespace (levels : List (List ℕ)) : Type 0 where
  pub filled : levels ≢ []
  pub bounded : length levels ≤ 16
  pub named : All IsName levels

-- what the refusal of a name is called where the name is the level at a place
abbrev pub at_level : ℕ → NameRefused → NamespaceRefused
at_level place name.Empty = EmptyLevel place
at_level place name.Long = LongLevel place
at_level place name.ControlByte = ControlByte place
at_level place name.NotPlain = ControlByte place
at_level place name.OutOfMemory = OutOfMemory

-- the refusal of the first level that is no name; the first of these levels stands at a place
abbrev pub level_refusal : ℕ → List (List ℕ) → Option NamespaceRefused
level_refusal place [] = None
level_refusal place (level ∷ levels) =
    option_or (option_map (at_level place) (name_refusal level)) (level_refusal (place + 1) levels)

-- why a list of levels is no namespace: its depth, else its first level that is no name
unfoldable pub namespace_refusal : List (List ℕ) → Option NamespaceRefused
namespace_refusal levels =
    if length levels == 0 || nat_lt 16 (length levels) then Some (TooDeep (length levels))
    else level_refusal 0 levels

-- the text of a refusal
abbrev pub namespace_refusal_text : NamespaceRefused → List ℕ
namespace_refusal_text (TooDeep levels) = codes "a namespace has 1 to 16 levels, and this has " ++ decimal levels
namespace_refusal_text (EmptyLevel level) = codes "level " ++ (decimal level ++ codes " is empty")
namespace_refusal_text (LongLevel level) = codes "level " ++ (decimal level ++ codes " has more than 128 bytes")
namespace_refusal_text (ControlByte level) = codes "level " ++ (decimal level ++ codes " has a control byte")
namespace_refusal_text OutOfMemory = codes "out of memory"

-- what a reader of namespaces may answer in place of one: the first refusal, or want of memory
abbrev pub IsNamespaceRefusal : List (List ℕ) → NamespaceRefused → Type 0
IsNamespaceRefusal levels OutOfMemory = ⊤
IsNamespaceRefusal levels why = namespace_refusal levels ≡ Some why

-- the segment of a path that stands for these levels, and the levels of a segment: 0x1F stands between them
abbrev pub segment_of : List (List ℕ) → List ℕ
segment_of levels = join_with_byte 0x1F levels

abbrev pub levels_of : List ℕ → List (List ℕ)
levels_of segment = slice_split (λ byte. byte == 0x1F) segment

-- the levels with dots between them
abbrev pub dotted : List (List ℕ) → List ℕ
dotted levels = join_with_byte 0x2E levels

-- all levels but the last, where at least one is left
abbrev pub parent_of : List (List ℕ) → Option (List (List ℕ))
parent_of levels = if nat_lt 1 (length levels) then Some (take (length levels - 1) levels) else None

-- the bytes of texts that are lent
abbrev pub texts : List (Bor (List ℕ)) → List (List ℕ)
texts levels = map (λ level. level.now) levels

-- the refusal of any list of so many levels
abbrev pub RefusesDepth : ℕ → NamespaceRefused → Type 0
RefusesDepth count why = (levels : List (List ℕ)) → length levels ≡ count → IsNamespaceRefusal levels why

-- the refusal of a level behind names, whatever follows it
abbrev pub RefusesLevel : List (List ℕ) → List ℕ → NamespaceRefused → Type 0
RefusesLevel names level why =
    (levels : List (List ℕ)) → All IsName names → length (names ++ level ∷ levels) ≤ 16 → IsNamespaceRefusal (names ++ level ∷ levels) why
