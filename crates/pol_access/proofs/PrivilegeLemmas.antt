-- Rules for every privilege, from tests that are computed over all of them.
use Rattle.std.proofs.Common.{◌≡◌, Bool, true, false, ◌||◌, List, [], ◌∷◌, Option, Some, None, refl, sym, ap, subst, ◌∙◌, inl, inr, true≢false}
use Rattle.std.specs.List.{find, list_all}
use Rattle.std.specs.Str.{bytes_eq}
use Rattle.std.proofs.lemmas.Bool.{and_parts, cases_Bool}
use Rattle.pol_access.specs.Implication.{implied_by, implies, is_one_of}
use Rattle.pol_access.specs.Privilege.{privilege_is, privileges, same_privilege, text_of}
use Rattle.pol_access.specs.declared.privilege.Privilege.{Privilege}
use Rattle.pol_access.specs.declared.privilege.Privilege.TheVariants.{NamespaceCreate, NamespaceDrop, NamespaceList, NamespaceReadProperties, NamespaceWriteProperties, NamespaceFullMetadata, TableCreate, TableDrop, TableList, TableReadProperties, TableWriteProperties, TableFullMetadata, ViewCreate, ViewDrop, ViewList, ViewReadProperties, ViewWriteProperties, ViewFullMetadata, TableReadData, TableWriteData, CatalogManageAccess, CatalogManageContent, CatalogManageMetadata, CatalogReadProperties, CatalogWriteProperties, ServiceManageAccess}

-- what a test says of each of these it says of one of them
pub test-one : (test : Privilege → Bool) (these : List Privilege) (one : Privilege) → list_all test these ≡ true → is_one_of one these ≡ true → test one ≡ true
test-one test [] one all contrary = cc
test-one test (first ∷ these) one all there =
    let both = and_parts (test first) (list_all test these) all in
    elim (cases_Bool (same_privilege first one)) [
      | inl here ↦ subst (λ kept. test kept ≡ true) (privilege_is first one here) both.0
      | inr other ↦ test-one test these one both.1 (sym (ap (λ b. b || is_one_of one these) other) ∙ there)
    ]

-- each privilege is one of all
listed : (one : Privilege) → is_one_of one privileges ≡ true
listed NamespaceCreate = refl
listed NamespaceDrop = refl
listed NamespaceList = refl
listed NamespaceReadProperties = refl
listed NamespaceWriteProperties = refl
listed NamespaceFullMetadata = refl
listed TableCreate = refl
listed TableDrop = refl
listed TableList = refl
listed TableReadProperties = refl
listed TableWriteProperties = refl
listed TableFullMetadata = refl
listed ViewCreate = refl
listed ViewDrop = refl
listed ViewList = refl
listed ViewReadProperties = refl
listed ViewWriteProperties = refl
listed ViewFullMetadata = refl
listed TableReadData = refl
listed TableWriteData = refl
listed CatalogManageAccess = refl
listed CatalogManageContent = refl
listed CatalogManageMetadata = refl
listed CatalogReadProperties = refl
listed CatalogWriteProperties = refl
listed ServiceManageAccess = refl

-- a test that is computed over all is a rule for each
pub each-privilege : (test : Privilege → Bool) → list_all test privileges ≡ true → (one : Privilege) → test one ≡ true
each-privilege test all one = test-one test privileges one all (listed one)

pub implies-itself : (one : Privilege) → implies one one ≡ true
unfolding implies implied_by
implies-itself = each-privilege (λ one. is_one_of one (one ∷ implied_by one)) refl

-- the table is closed
closed : (held : Privilege) → list_all (λ between. list_all (λ wanted. is_one_of wanted (held ∷ implied_by held)) (between ∷ implied_by between)) (held ∷ implied_by held) ≡ true
unfolding implied_by
closed = each-privilege (λ held. list_all (λ between. list_all (λ wanted. is_one_of wanted (held ∷ implied_by held)) (between ∷ implied_by between)) (held ∷ implied_by held)) refl

pub implies-through : (held between wanted : Privilege) → implies held between ≡ true → implies between wanted ≡ true → implies held wanted ≡ true
unfolding implies
implies-through held between wanted first then_ =
    test-one (λ wanted. is_one_of wanted (held ∷ implied_by held)) (between ∷ implied_by between) wanted
    (test-one (λ between. list_all (λ wanted. is_one_of wanted (held ∷ implied_by held)) (between ∷ implied_by between)) (held ∷ implied_by held) between (closed held) first)
    then_

-- each privilege is found by its text
abbrev is_one : Option Privilege → Privilege → Bool
is_one None one = false
is_one (Some found) one = same_privilege found one

found-one : (found : Option Privilege) (one : Privilege) → is_one found one ≡ true → found ≡ Some one
found-one None one contrary = absurd (true≢false (sym contrary))
found-one (Some found) one is = ap Some (privilege_is found one is)

pub text-read : (one : Privilege) → find (λ kept. bytes_eq (text_of kept) (text_of one)) privileges ≡ Some one
unfolding text_of
text-read one =
    found-one (find (λ kept. bytes_eq (text_of kept) (text_of one)) privileges) one (each-privilege (λ one. is_one (find (λ kept. bytes_eq (text_of kept) (text_of one)) privileges) one) refl one)
