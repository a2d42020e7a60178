-- Where the file of a metadata stands.
use Rattle.std.specs.Prelude.{ℕ, codes, drop, length, ◌++◌, List}
use Rattle.std.specs.Fmt.{decimal}
use Rattle.uuid.specs.Text.{hyphenated_text, lower}

-- the zeros before a number that make its digits five
abbrev pub zeros_before : ℕ → List ℕ
zeros_before number = drop (length (decimal number)) (codes "00000")

-- a location's text, `/metadata/`, a version's digits, `-`, a uuid's text, and `.metadata.json`
unfoldable pub file_text : List ℕ → List ℕ → List ℕ → List ℕ → List ℕ
file_text location zeros digits uuid =
    location ++ (codes "/metadata/" ++ (zeros ++ (digits ++ (codes "-" ++ (uuid ++ codes ".metadata.json")))))

-- the same of a version, in at least five digits, and a uuid with hyphens
unfoldable pub metadata_file : List ℕ → ℕ → List ℕ → List ℕ
metadata_file location version uuid =
    file_text location (zeros_before version) (decimal version) (hyphenated_text lower uuid)
