-- The names of fields, more of which are read.
use Rattle.std.proofs.Common.{◌≡◌, ℕ, Bool, true, false, ◌||◌, List, [], ◌∷◌, ◌++◌, refl, sym, ap, ◌∙◌}
use Rattle.std.specs.List.{list_any}
use Rattle.std.specs.Str.{bytes_eq}
use Rattle.std.proofs.lemmas.List.Folds.{list_any-append}
use Rattle.pol_meta.specs.declared.column.Column.{Column}
use Rattle.pol_metajson.specs.Schema.{has_name}
use Rattle.pol_metajson.specs.Siblings.{AreNames}

last : (here before : Bool) → (here || before) ≡ (before || (here || false))
last true true = refl
last true false = refl
last false true = refl
last false false = refl

-- the name of one more column is added
pub names_more : (depth : ℕ) (columns : List Column) (column : Column) (names more : List (List ℕ)) → AreNames depth columns names
    → ((name : List ℕ) → list_any (bytes_eq name) more ≡ (has_name depth name column || list_any (bytes_eq name) names))
    → AreNames depth (columns ++ column ∷ []) more
names_more depth columns column names more are added name =
    added name ∙ ap (λ before. has_name depth name column || before) (are name)
    ∙ last (has_name depth name column) (list_any (has_name depth name) columns) ∙ sym (list_any-append (has_name depth name) columns (column ∷ []))
