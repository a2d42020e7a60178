-- The numbers under which names are found.
use Rattle.std.specs.Prelude.{◌≡◌, ℕ, ◌-◌, true, ◌&&◌, nat_eq, List, ◌++◌, length, map, take}
use Rattle.std.specs.Cmp.Lexicographic.{pointwise, same_text}
use Rattle.std.specs.Hash as fed
use Rattle.std.specs.List.{range_with_len}
use Rattle.std.specs.Str.{bytes_eq}
use Rattle.std.proofs.Common.{ap, sym}
use Rattle.std.proofs.lemmas.Bool.{and_parts, eqb-true}
use Rattle.pol_types.specs.Exact.{pointwise_exact}
use Rattle.pol_tables.specs.Number.{number_of}
use Rattle.pol_content.specs.declared.rows.NamespaceRow.{NamespaceRow}

-- the number of a catalogue's name
unfoldable pub catalog_number : List ℕ → ℕ
catalog_number name = number_of (fed.str name)

-- the number of a namespace, of which a hasher is fed the catalogue's id and then the levels
unfoldable pub namespace_number : ℕ → List (List ℕ) → ℕ
namespace_number catalog levels = number_of (fed.u64 catalog ++ fed.slice fed.str levels)

-- the numbers of the namespaces in which one stands
abbrev pub numbers_above : NamespaceRow → List ℕ
numbers_above row = map (λ depth. namespace_number row.catalog (take depth row.levels)) (range_with_len 1 (length row.levels - 1))

-- equal names have one number
pub catalog_numbers_agree : (sought name : List ℕ) → bytes_eq sought name ≡ true → catalog_number name ≡ catalog_number sought
catalog_numbers_agree sought name same = ap catalog_number (sym (same_text sought name (sym same)))

pub namespace_numbers_agree : (left right : ℕ) (sought levels : List (List ℕ)) → (nat_eq left right && pointwise (pointwise nat_eq) sought levels) ≡ true → namespace_number right levels ≡ namespace_number left sought
namespace_numbers_agree left right sought levels same =
    let both = and_parts (nat_eq left right) (pointwise (pointwise nat_eq) sought levels) same in
    let one = pointwise_exact (λ x y is. same_text x y (sym is)) sought levels both.1 in
    λ i. namespace_number (sym (eqb-true left right both.0) i) (sym one i)
