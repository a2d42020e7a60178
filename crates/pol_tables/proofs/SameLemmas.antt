-- Equality by code is equality.
use Rattle.std.proofs.Common.{◌≡◌, Bool, true, false, refl, ap, sym, ◌∙◌, true≢false, inl, inr}
use Rattle.std.specs.Coded.{Coded}
use Rattle.std.proofs.lemmas.Bool.{eqb-true, eq-eqb, and_parts, and_from, false_from_ne_true, cases_Bool}
use base.Stored.{Gv, gnil, gnum, gcons}
use Rattle.pol_tables.specs.Same.{same_code, same}

pub same_code-refl : (g : Gv) → same_code g g ≡ true
unfolding same_code
same_code-refl gnil = refl
same_code-refl (gnum n) = eq-eqb n n refl
same_code-refl (gcons a b) = and_from (same_code a a) (same_code b b) (same_code-refl a) (same_code-refl b)

pub same_code-true : (g h : Gv) → same_code g h ≡ true → g ≡ h
unfolding same_code
same_code-true gnil gnil so = refl
same_code-true gnil (gnum n) so = cc
same_code-true gnil (gcons c d) so = cc
same_code-true (gnum m) gnil so = cc
same_code-true (gnum m) (gnum n) so = ap gnum (eqb-true m n so)
same_code-true (gnum m) (gcons c d) so = cc
same_code-true (gcons a b) gnil so = cc
same_code-true (gcons a b) (gnum n) so = cc
same_code-true (gcons a b) (gcons c d) so =
    let both = and_parts (same_code a c) (same_code b d) so in
    λ i. gcons (same_code-true a c both.0 i) (same_code-true b d both.1 i)

module _ {T : Type 0} (code : Coded T) where
  pub same-refl : (x : T) → same code x x ≡ true
  unfolding same
  same-refl x = same_code-refl (code.code x)

  pub same-true : (x y : T) → same code x y ≡ true → x ≡ y
  unfolding same
  same-true x y so = code.inj x y (same_code-true (code.code x) (code.code y) so)

  pub same-false : (x y : T) → same code x y ≡ false → x ≡ y → ⊥
  same-false x y differ is = true≢false (sym (same-refl x) ∙ ap (same code x) is ∙ differ)

  pub same-differ : (x y : T) → (x ≡ y → ⊥) → same code x y ≡ false
  same-differ x y differ = false_from_ne_true (same code x y) (λ so. differ (same-true x y so))

  pub same-symmetric : (x y : T) → same code x y ≡ same code y x
  same-symmetric x y = elim (cases_Bool (same code x y)) [
    | inl is ↦ is ∙ sym (ap (same code y) (same-true x y is) ∙ same-refl y)
    | inr differ ↦ differ ∙ sym (same-differ y x (λ is. same-false x y differ (sym is)))
  ]

  -- every exact test of equality is this one
  pub same-exact : (equal : T → T → Bool) → ((x y : T) → equal x y ≡ true → x ≡ y) → ((x : T) → equal x x ≡ true) → equal ≡ same code
  same-exact equal exact reflexive = λ i x y. by x y i
    where
      by : (x y : T) → equal x y ≡ same code x y
      by x y = elim (cases_Bool (equal x y)) [
        | inl yes_ ↦ yes_ ∙ sym (ap (same code x) (sym (exact x y yes_)) ∙ same-refl x)
        | inr no_ ↦ no_ ∙ sym (same-differ x y (λ is. true≢false (sym (reflexive x) ∙ ap (equal x) is ∙ no_)))
      ]
