-- Changes of which there are few.
use Rattle.std.proofs.Common.{◌≡◌, ◌<◌, ◌≤◌, List, [], ◌∷◌, get_or, length, refl, sym, ap, arith}

module _ {X : Type 0} where
  pub no-item : (xs : List X) → length xs ≡ 0 → xs ≡ []
  no-item [] none = refl
  no-item (x ∷ xs) none = absurd (omega (arith, none))

  pub one-item : (xs : List X) (x : X) → 1 ≤ length xs → length xs < 2 → x ≡ get_or xs 0 x → xs ≡ x ∷ []
  one-item [] x some few is = absurd (omega (arith, some))
  one-item (y ∷ []) x some few is = ap (λ one. one ∷ []) (sym is)
  one-item (y ∷ z ∷ xs) x some few is = absurd (omega (arith, few))

  pub two-items : (xs : List X) (x y : X) → 2 ≤ length xs → length xs < 3 → x ≡ get_or xs 0 x → y ≡ get_or xs 1 y → xs ≡ x ∷ y ∷ []
  two-items [] x y some few first second = absurd (omega (arith, some))
  two-items (v ∷ []) x y some few first second = absurd (omega (arith, some))
  two-items (v ∷ w ∷ []) x y some few first second = λ i. sym first i ∷ sym second i ∷ []
  two-items (v ∷ w ∷ z ∷ xs) x y some few first second = absurd (omega (arith, few))
