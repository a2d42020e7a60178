-- Names of fields, one column after another.
use Rattle.std.proofs.Common.{◌≡◌, ◌<◌, ◌+◌, ℕ, List, [], ◌∷◌, ◌++◌, length, take, get_or, sym, ap, ◌∙◌}
use Rattle.std.proofs.lemmas.List.{take_more}
use Rattle.std.proofs.lemmas.List.Elements.{filter_map-append}
use Rattle.pol_meta.specs.declared.column.Column.{Column}
use Rattle.pol_columnforms.specs.Named.{name_at, names_in}

pub names_more : (depth : ℕ) (columns : List Column) (i : ℕ) (column : Column) → i < length columns → column ≡ get_or columns i column
    → names_in depth (take (i + 1) columns) ≡ names_in depth (take i columns) ++ names_in depth (column ∷ [])
names_more depth columns i column within is =
    ap (names_in depth) (take_more columns i column within)
    ∙ filter_map-append (name_at depth) (take i columns) (get_or columns i column ∷ [])
    ∙ ap (λ (one : Column). names_in depth (take i columns) ++ names_in depth (one ∷ [])) (sym is)
