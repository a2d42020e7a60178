use Rattle.std.proofs.Common.{◌≡◌, ℕ, Bool, true, false, ◌↔◌, IsTrue, List, Option, Some, None, refl, sym, ap, ◌∙◌, inl, inr}
use Rattle.std.specs.Cmp.Lexicographic.{lists_equiv, nat_list_eq_equiv, same_text}
use Rattle.std.proofs.lemmas.Bool.{cases_Bool}
use Rattle.pol_types.specs.Exact.{pointwise_exact}
use Rattle.pol_content.specs.Content.{same_parent}
use Rattle.pol_content.proofs.content.is_child.Goals as goal

-- a test that holds exactly where the parent is this one is `same_parent`
same_parent-is : (test : Bool) (parent : List (List ℕ)) (found : Option (List (List ℕ))) → IsTrue test ↔ (found ≡ Some parent) → test ≡ same_parent parent found
same_parent-is true parent found so = sym (ap (same_parent parent) (so.0 refl) ∙ (lists_equiv nat_list_eq_equiv).refl parent)
same_parent-is false parent None so = refl
same_parent-is false parent (Some other) so = elim (cases_Bool (same_parent parent (Some other))) [
  | inl is ↦
      let one = pointwise_exact (λ x y same. same_text x y (sym same)) parent other is in
      so.1 (ap Some (sym one)) ∙ sym is
  | inr apart ↦ sym apart
]

pub returns-in-Some : goal.returns-in-Some
returns-in-Some c =
    rw c.in-Some.is (same_parent-is c.is_parent_of.result c.in-Some.parent.now _ c.is_parent_of.ensures)
