-- The trees that columns in preorder make.
use Rattle.std.proofs.Common.{◌≡◌, ℕ, suc, true, false, nat_lt, List, [], ◌∷◌, ◌++◌, refl, ap, sym, ◌∙◌, append_assoc, arith}
use Rattle.std.proofs.lemmas.Bool.Decides.{nat_tests}
use Rattle.std.proofs.lemmas.List.{append-nil}
use Rattle.pol_meta.specs.Columns.{Columns, StandAt, listed, nest, none}
use Rattle.pol_meta.specs.declared.column.Column.{Column}
use Rattle.pol_metaprint.specs.Columns.{Tree, beside_of, grown, inner_of, is_deeper, kind_json, trees_of}

-- the trees of columns that stand beside each other
abbrev pub trees_in : Columns → List Tree
trees_in none = []
trees_in (nest first inner beside) = record { column = first; json = kind_json first.kind (trees_in inner) } ∷
    trees_in beside

not_below : (depth other : ℕ) → other ≡ depth → nat_lt depth other ≡ false
not_below depth other is = grind (arith, nat_tests)

below : (depth other : ℕ) → other ≡ suc depth → nat_lt depth other ≡ true
below depth other is = grind (arith, nat_tests)

not_deeper : (depth : ℕ) (xs : Columns) (rest : List Tree) → StandAt depth xs → is_deeper depth rest ≡ false
    → is_deeper depth (trees_in xs ++ rest) ≡ false
not_deeper depth none rest stands end = end
not_deeper depth (nest first inner beside) rest stands end = not_below depth first.depth stands.0

shallower : (depth : ℕ) (rest : List Tree) → is_deeper depth rest ≡ false → is_deeper (suc depth) rest ≡ false
shallower depth [] end = refl
shallower depth (tree ∷ rest) end = grind (arith, nat_tests)

none_inner : (depth : ℕ) (rest : List Tree) → is_deeper depth rest ≡ false → inner_of depth rest ≡ []
none_inner depth [] end = refl
none_inner depth (tree ∷ rest) end = rw end refl

all_beside : (depth : ℕ) (rest : List Tree) → is_deeper depth rest ≡ false → beside_of depth rest ≡ rest
all_beside depth [] end = refl
all_beside depth (tree ∷ rest) end = rw end refl

inner_are : (depth : ℕ) (xs : Columns) (rest : List Tree) → StandAt (suc depth) xs → is_deeper depth rest ≡ false
    → inner_of depth (trees_in xs ++ rest) ≡ trees_in xs
inner_are depth none rest stands end = none_inner depth rest end
inner_are depth (nest first inner beside) rest stands end =
    rw (below depth first.depth stands.0, inner_are depth beside rest stands.3 end) refl

beside_are : (depth : ℕ) (xs : Columns) (rest : List Tree) → StandAt (suc depth) xs → is_deeper depth rest ≡ false
    → beside_of depth (trees_in xs ++ rest) ≡ rest
beside_are depth none rest stands end = all_beside depth rest end
beside_are depth (nest first inner beside) rest stands end =
    rw (below depth first.depth stands.0, beside_are depth beside rest stands.3 end) refl

grown_is : (depth : ℕ) (first : Column) (inner : Columns) (rest : List Tree) → first.depth ≡ depth
    → StandAt (suc depth) inner → is_deeper depth rest ≡ false
    → grown first (trees_in inner ++ rest) ≡ record { column = first; json = kind_json first.kind (trees_in inner) }
    ∷ rest
unfolding grown
grown_is depth first inner rest is stands end =
    rw (is, inner_are depth inner rest stands end, beside_are depth inner rest stands end) refl

trees_before : (depth : ℕ) (xs : Columns) (more : List Column) → StandAt depth xs
    → is_deeper depth (trees_of more) ≡ false
    → trees_of (listed xs ++ more) ≡ trees_in xs ++ trees_of more
trees_before depth none more stands end = refl
trees_before depth (nest first inner beside) more stands end =
    let after : trees_of (listed beside ++ more) ≡ trees_in beside ++ trees_of more = trees_before depth beside more
    stands.3 end in
    let rest : is_deeper depth (trees_in beside ++ trees_of more) ≡ false = not_deeper depth beside (trees_of more)
    stands.3 end in
    let deeper : is_deeper (suc depth) (trees_of (listed beside ++ more)) ≡ false = rw after
    (shallower depth (trees_in beside ++ trees_of more) rest) in
    rw (
      append_assoc (listed inner) (listed beside) more,
      trees_before (suc depth) inner (listed beside ++ more)
          stands.2 deeper,
      after,
    )
    (grown_is depth first inner (trees_in beside ++ trees_of more) stands.0 stands.2 rest)

pub trees_are : (depth : ℕ) (xs : Columns) → StandAt depth xs → trees_of (listed xs) ≡ trees_in xs
trees_are depth xs stands =
    ap trees_of (sym (append-nil (listed xs))) ∙ trees_before depth xs [] stands refl ∙ append-nil (trees_in xs)
