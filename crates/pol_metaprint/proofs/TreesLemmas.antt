-- The trees that are left when all columns are read.
use Rattle.std.proofs.Common.{◌≡◌, List, [], ◌∷◌, ◌++◌, length, map, reverse, refl, sym, ap, ◌∙◌}
use Rattle.std.proofs.lemmas.List.{map-append, reverse-append}
use Rattle.pol_meta.specs.declared.column.Column.{Column}
use Rattle.pol_metaprint.specs.Columns.{trees_of}
use Rattle.pol_metaprint.specs.Trees.{shown, tree_of, trees_shown}
use Rattle.pol_metaprint.specs.declared.columns.Tree.{Tree}

map-reverse : {A B : Type 0} (f : A → B) (xs : List A) → map f (reverse xs) ≡ reverse (map f xs)
map-reverse f [] = refl
map-reverse f (x ∷ xs) =
    ap (map f) (reverse-append (x ∷ []) xs)
    ∙ map-append f (reverse xs) (x ∷ [])
    ∙ ap (λ ys. ys ++ f x ∷ []) (map-reverse f xs)
    ∙ sym (reverse-append (f x ∷ []) (map f xs))

pub trees_done : (columns left rest : List Column) (items all : List Tree) → length left ≡ 0 → columns ≡ left ++ rest → trees_shown items ≡ trees_of rest → all ≡ reverse items → shown all ≡ trees_of columns
trees_done columns [] rest items all none is made turned = rw (turned, is) (map-reverse tree_of items ∙ made)
trees_done columns (column ∷ left) rest items all none is made turned = absurd (cc)
