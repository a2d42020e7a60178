-- The numbers under which names of tables are found.
use Rattle.std.specs.Prelude.{◌≡◌, ℕ, true, ◌&&◌, nat_eq, List, ◌++◌}
use Rattle.std.specs.Cmp.Lexicographic.{same_text}
use Rattle.std.specs.Hash as fed
use Rattle.std.specs.Str.{bytes_eq}
use Rattle.std.proofs.Common.{sym}
use Rattle.std.proofs.lemmas.Bool.{and_parts, eqb-true}
use Rattle.pol_tables.specs.Number.{number_of}

-- the number of a table, of which a hasher is fed the namespace's id and then the name
unfoldable pub table_number : ℕ → List ℕ → ℕ
table_number namespace name = number_of (fed.u64 namespace ++ fed.str name)

-- equal names have one number
pub table_numbers_agree : (left right : ℕ) (sought name : List ℕ) → (nat_eq left right && bytes_eq sought name) ≡ true → table_number right name ≡ table_number left sought
table_numbers_agree left right sought name same =
    let both = and_parts (nat_eq left right) (bytes_eq sought name) same in
    λ i. table_number (sym (eqb-true left right both.0) i) (sym (same_text sought name (sym both.1)) i)
