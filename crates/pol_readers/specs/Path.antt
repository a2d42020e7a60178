-- The texts of paths and errors.
use Rattle.std.specs.Prelude.{ℕ, List, [], ◌∷◌, ◌++◌, codes}
use Rattle.std.specs.List.{flat_map}
use Rattle.std.specs.Fmt.{decimal}
use Rattle.pol_readers.specs.declared.error.ReadError.{ReadError}
use Rattle.pol_readers.specs.declared.error.ReadError.TheVariants.{Field, OutOfMemory}
use Rattle.pol_readers.specs.declared.path.Step.{Step}
use Rattle.pol_readers.specs.declared.path.Step.TheVariants.{Key, Place}

-- a step that isn't the first
abbrev pub step_text : Step → List ℕ
step_text (Key key) = codes "." ++ key
step_text (Place place) = codes "[" ++ decimal place ++ codes "]"

-- a path: its steps, with no `.` before the first key
abbrev pub path_text : List Step → List ℕ
path_text [] = codes "body"
path_text (Key key ∷ steps) = key ++ flat_map step_text steps
path_text (Place place ∷ steps) = flat_map step_text (Place place ∷ steps)

-- why a value wasn't read
abbrev pub error_text : ReadError → List ℕ
error_text (Field path) = codes "Unreadable: " ++ path_text path
error_text OutOfMemory = codes "out of memory"
