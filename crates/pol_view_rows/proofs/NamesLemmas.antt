-- Views of one name, which a look-up by namespace and name finds.
use Rattle.std.proofs.Common.{◌≡◌, ℕ, true, List, nat_eq, sym, ◌∙◌}
use Rattle.std.specs.Cmp.{nat_eq_equiv}
use Rattle.std.specs.Cmp.Lexicographic.{nat_list_eq_equiv}
use Rattle.std.specs.Str.{bytes_eq}
use Rattle.std.proofs.lemmas.Bool.{and_from, and_parts}
use Rattle.pol_view_rows.specs.Views.{is_view_named}
use Rattle.pol_view_rows.specs.declared.row.ViewRow.{ViewRow}

-- views of one name have the same name
pub views_alike : (namespace : ℕ) (name : List ℕ) (left right : ViewRow) → is_view_named namespace name left ≡ true → is_view_named namespace name right ≡ true → is_view_named left.namespace left.name right ≡ true
views_alike namespace name left right one other =
    let ones = and_parts (nat_eq namespace left.namespace) (bytes_eq name left.name) one in
    let others = and_parts (nat_eq namespace right.namespace) (bytes_eq name right.name) other in
    and_from (nat_eq left.namespace right.namespace) (bytes_eq left.name right.name) (sym (nat_eq_equiv.congr namespace left.namespace right.namespace ones.0) ∙ others.0) (sym (nat_list_eq_equiv.congr name left.name right.name ones.1) ∙ others.1)
