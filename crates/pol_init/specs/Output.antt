-- What `init` writes.
use Rattle.std.specs.Prelude.{ℕ, List, ◌++◌, codes, decimal}

-- the line that tells how many commands were done
abbrev pub done_line : ℕ → List ℕ
done_line count = codes "init " ++ decimal count ++ codes "\n"

-- the lines of the drawn secrets, and then that line
abbrev pub output_text : List ℕ → ℕ → List ℕ
output_text lines count = lines ++ done_line count
