-- A law of the forms of rows.
use Rattle.std.specs.Prelude.{◌≡◌}
use Rattle.std.specs.Cmp.Lexicographic.{slice_cmp}
use Rattle.std.specs.Ordering.{nat_cmp}
use Rattle.std.specs.declared.cmp.Ordering.{Ordering}
use Rattle.pol_access.specs.Order.{grant_cmp, join_cmp, member_cmp}
use Rattle.pol_forms.specs.Form.{Form}
use Rattle.pol_codec.specs.Rows.{grant, join, member}

-- the order of rows is that of their bytes
abbrev pub IsOrderOfBytes : {A : Type 0} → Form A → (A → A → Ordering) → Type 0
IsOrderOfBytes {A} form cmp =
    (left right : A) → form.holds left → form.holds right → slice_cmp nat_cmp (form.write left) (form.write right) ≡ cmp left right

-- that of members, of joins and of grants
abbrev pub FactsAreInByteOrder : Type 0
FactsAreInByteOrder = IsOrderOfBytes member member_cmp × IsOrderOfBytes join join_cmp × IsOrderOfBytes grant grant_cmp
