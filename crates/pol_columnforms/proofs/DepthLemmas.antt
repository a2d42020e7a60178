-- Columns by how many types may stand in one another in them.
use Rattle.std.proofs.Common.{◌≡◌, ◌<◌, ◌+◌, ◌-◌, ℕ, zero, suc, List, [], None, refl, arith}
use Rattle.pol_meta.specs.declared.column.Column.{Column}
use Rattle.pol_columnforms.specs.Columns.{element, fields, inner_forms, pair, type_form}

pub struct_in : (left depth : ℕ) → 0 < left → (inner_forms left depth).struct ≡ fields depth (type_form (left - 1) (depth + 1))
unfolding inner_forms
struct_in zero depth some = absurd (omega (arith, some))
struct_in (suc left) depth some = let same : suc left - 1 ≡ left = omega arith in rw same refl

pub list_in : (left depth : ℕ) → 0 < left → (inner_forms left depth).element ≡ element depth (type_form (left - 1) (depth + 1))
unfolding inner_forms
list_in zero depth some = absurd (omega (arith, some))
list_in (suc left) depth some = let same : suc left - 1 ≡ left = omega arith in rw same refl

pub map_in : (left depth : ℕ) → 0 < left → (inner_forms left depth).pair ≡ pair depth (type_form (left - 1) (depth + 1))
unfolding inner_forms
map_in zero depth some = absurd (omega (arith, some))
map_in (suc left) depth some = let same : suc left - 1 ≡ left = omega arith in rw same refl

-- where none may, nothing is read and nothing is written
pub no_struct : (depth : ℕ) (bytes : List ℕ) → (inner_forms 0 depth).struct.read bytes ≡ None
unfolding inner_forms
no_struct depth bytes = refl

pub no_list : (depth : ℕ) (bytes : List ℕ) → (inner_forms 0 depth).element.read bytes ≡ None
unfolding inner_forms
no_list depth bytes = refl

pub no_map : (depth : ℕ) (bytes : List ℕ) → (inner_forms 0 depth).pair.read bytes ≡ None
unfolding inner_forms
no_map depth bytes = refl

pub struct_unwritten : (depth : ℕ) (columns : List Column) → (inner_forms 0 depth).struct.write columns ≡ []
unfolding inner_forms
struct_unwritten depth columns = refl

pub list_unwritten : (depth : ℕ) (columns : List Column) → (inner_forms 0 depth).element.write columns ≡ []
unfolding inner_forms
list_unwritten depth columns = refl

pub map_unwritten : (depth : ℕ) (columns : List Column) → (inner_forms 0 depth).pair.write columns ≡ []
unfolding inner_forms
map_unwritten depth columns = refl

pub ruleset inner = (struct_in, list_in, map_in, no_struct, no_list, no_map)

pub ruleset inner_written = (struct_in, list_in, map_in, struct_unwritten, list_unwritten, map_unwritten)
