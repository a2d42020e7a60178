-- The words that the system gave the program.
use Rattle.std.specs.Prelude.{ℕ, List, [], ◌∷◌, map, string_bytes}
use Rattle.std.specs.declared.string.String.{String}
use Rattle.std.specs.declared.io.ErrorKind.{ErrorKind}
use Rattle.std.specs.declared.io.ErrorKind.TheVariants.{OutOfMemory}
use Rattle.pol_cli.specs.declared.reason.Reason.{Reason}
use Rattle.pol_cli.specs.declared.reason.Reason.TheVariants.{NoMemory, Usage}

-- what stands behind the program's name
abbrev pub behind_name : List (List ℕ) → List (List ℕ)
behind_name [] = []
behind_name (name ∷ words) = words

-- the words of a line that the system gave, whose first is the program's name
abbrev pub words_behind : {Z : Type 0} → List (String Z) → List (List ℕ)
words_behind given = behind_name (map string_bytes given)

-- why the system gave no line: memory was wanting, or a word isn't UTF-8
abbrev pub why_not_given : ErrorKind → Reason
why_not_given OutOfMemory = NoMemory
why_not_given kind = Usage
