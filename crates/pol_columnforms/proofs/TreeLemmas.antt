-- Columns as a tree and as the list of them: what stands where.
use Rattle.std.proofs.Common.{◌≡◌, ◌≤◌, ◌+◌, ℕ, suc, Bool, List, [], ◌∷◌, ◌++◌, length, refl, sym, ap, subst, ◌∙◌, arith}
use Rattle.std.specs.List.{AllByRecursion, filter_map}
use Rattle.std.proofs.lemmas.Bool.{lt-ltb}
use Rattle.std.proofs.lemmas.List.{length-append}
use Rattle.pol_meta.specs.Columns.{Columns, AreIn, StandAt, listed, name_of, nest, none, parts}
use Rattle.pol_meta.specs.declared.column.Column.{Column}
use Rattle.pol_meta.specs.declared.column.Kind.TheVariants as kind
use Rattle.pol_meta.specs.declared.column.Part.{Part}
use Rattle.pol_meta.specs.declared.column.Part.TheVariants.{Field, Element, Key, Value}
use Rattle.pol_columnforms.specs.Columns.{AreDeep, IsChunk, at_depth, chunks, chunks_joined, deep_both, joined, shallower}
use Rattle.pol_columnforms.specs.Named.{names_in}

-- each column that stands beside the others, with those in it
abbrev pub chunks_of : Columns → List (List Column)
chunks_of none = []
chunks_of (nest first inner beside) = (first ∷ listed inner) ∷ chunks_of beside

pub joined_listed : (tree : Columns) → joined (chunks_of tree) ≡ listed tree
joined_listed none = refl
joined_listed (nest first inner beside) = ap (λ (columns : List Column). first ∷ (listed inner ++ columns)) (joined_listed beside)

pub few : (tree : Columns) → length (chunks_of tree) ≤ length (listed tree)
few none = omega arith
few (nest first inner beside) = omega (arith, few beside, length-append (listed inner) (listed beside))

one_on : (depth : ℕ) → suc depth ≡ depth + 1
one_on depth = omega arith

pub next_stand : (depth : ℕ) (tree : Columns) → StandAt (suc depth) tree → StandAt (depth + 1) tree
next_stand depth tree stand = subst (λ (n : ℕ). StandAt n tree) (one_on depth) stand

pub stand_next : (depth : ℕ) (tree : Columns) → StandAt (depth + 1) tree → StandAt (suc depth) tree
stand_next depth tree stand = subst (λ (n : ℕ). StandAt n tree) (sym (one_on depth)) stand

pub stand_deep : (depth : ℕ) (tree : Columns) → StandAt depth tree → AreDeep depth (listed tree)
stand_deep depth none stand = tt
stand_deep depth (nest first inner beside) stand =
    let within : AreDeep (depth + 1) (listed inner) = subst (λ (n : ℕ). AreDeep n (listed inner)) (one_on depth) (stand_deep (suc depth) inner stand.2) in
    (omega (arith, stand.0), deep_both depth (listed inner) (listed beside) (shallower depth (listed inner) within) (stand_deep depth beside stand.3))

pub next_deep : (depth : ℕ) (tree : Columns) → StandAt (suc depth) tree → AreDeep (depth + 1) (listed tree)
next_deep depth tree stand = stand_deep (depth + 1) tree (next_stand depth tree stand)

stand_chunks : (depth : ℕ) (tree : Columns) → StandAt depth tree → AllByRecursion (IsChunk depth) (chunks_of tree)
stand_chunks depth none stand = tt
stand_chunks depth (nest first inner beside) stand = ((stand.0, next_deep depth inner stand.2), stand_chunks depth beside stand.3)

pub chunks_listed : (depth : ℕ) (tree : Columns) → StandAt depth tree → chunks depth (listed tree) ≡ chunks_of tree
chunks_listed depth tree stand =
    ap (chunks depth) (sym (joined_listed tree)) ∙ chunks_joined depth (chunks_of tree) (stand_chunks depth tree stand)

-- the names of the fields are those of the columns beside one another
names_past : (depth : ℕ) (inner rest : List Column) → AreDeep (depth + 1) inner → names_in depth (inner ++ rest) ≡ names_in depth rest
names_past depth [] rest deep = refl
names_past depth (column ∷ inner) rest deep = rw (lt-ltb depth column.depth (omega (arith, deep.0))) (names_past depth inner rest deep.1)

names_here : (depth : ℕ) (column : Column) (columns : List Column) (others : List Part) → column.depth ≡ depth
    → names_in depth columns ≡ filter_map name_of others → names_in depth (column ∷ columns) ≡ filter_map name_of (column.part ∷ others)
names_here depth column columns others at same = rw (at_depth depth column.depth at, same) refl

pub names_listed : (depth : ℕ) (tree : Columns) → StandAt depth tree → names_in depth (listed tree) ≡ filter_map name_of (parts tree)
names_listed depth none stand = refl
names_listed depth (nest first inner beside) stand =
    names_here depth first (listed inner ++ listed beside) (parts beside) stand.0
    (names_past depth (listed inner) (listed beside) (next_deep depth inner stand.2) ∙ names_listed depth beside stand.3)

-- what holds of each of two lists
pub parted_all : (P : Column → Type 0) (front rest : List Column) → AllByRecursion P (front ++ rest) → AllByRecursion P front × AllByRecursion P rest
parted_all P [] rest all = (tt, all)
parted_all P (column ∷ front) rest all = let both = parted_all P front rest all.1 in ((all.0, both.0), both.1)

pub joined_all : (P : Column → Type 0) (front rest : List Column) → AllByRecursion P front → AllByRecursion P rest → AllByRecursion P (front ++ rest)
joined_all P [] rest one two = two
joined_all P (column ∷ front) rest one two = (one.0, joined_all P front rest one.1 two)

-- the columns in a list, and those in a map
pub one_element : (these : List Part) → AreIn kind.List these → (required : Bool) × (these ≡ Element required ∷ [])
one_element [] are = absurd are
one_element (Element required ∷ []) are = (required, refl)
one_element (Element required ∷ other ∷ others) are = absurd are
one_element (Field name required doc ∷ others) are = absurd are
one_element (Key ∷ others) are = absurd are
one_element (Value required ∷ others) are = absurd are

pub key_and_value : (these : List Part) → AreIn kind.Map these → (required : Bool) × (these ≡ Key ∷ Value required ∷ [])
key_and_value [] are = absurd are
key_and_value (Key ∷ []) are = absurd are
key_and_value (Key ∷ Value required ∷ []) are = (required, refl)
key_and_value (Key ∷ Value required ∷ other ∷ others) are = absurd are
key_and_value (Key ∷ Field name required doc ∷ others) are = absurd are
key_and_value (Key ∷ Element required ∷ others) are = absurd are
key_and_value (Key ∷ Key ∷ others) are = absurd are
key_and_value (Field name required doc ∷ others) are = absurd are
key_and_value (Element required ∷ others) are = absurd are
key_and_value (Value required ∷ others) are = absurd are
