-- The order of members, joins and grants is that of their bytes.
use Rattle.std.proofs.Common.{◌≡◌, ℕ, ◌+◌, ◌*◌, ◌^◌, ◌<◌, List, [], ◌∷◌, ◌++◌, length, nat_cmp, Ordering, Less, Equal, Greater, refl, sym, ap, ◌∙◌, arith}
use Rattle.std.specs.Cmp.Lexicographic.{slice_cmp}
use Rattle.std.specs.Int.{w64, byte_at, from_be_bytes, to_be_bytes}
use Rattle.std.specs.List.{AllByRecursion}
use Rattle.std.specs.Ordering.{MatchOrdering, ordering_then}
use Rattle.std.proofs.lemmas.Bool.Decides.{nat_tests}
use Rattle.std.proofs.lemmas.Cmp.{ranked}
use Rattle.std.proofs.lemmas.Nat.{from_be_bytes-to_be_bytes_8}
use Rattle.pol_access.specs.Order.{grant_cmp, join_cmp, member_cmp, securable_numbers}
use Rattle.pol_access.specs.Privilege.{privilege_number}
use Rattle.pol_access.specs.declared.securable.Securable.{Securable}
use Rattle.pol_access.specs.declared.securable.Securable.TheVariants.{Realm, Catalog, Namespace, Table, View}
use Rattle.pol_codec.specs.Laws.{FactsAreInByteOrder, IsOrderOfBytes}
use Rattle.pol_forms.specs.Forms.{number}
use Rattle.pol_codec.specs.Rows.{grant, join, member, privilege, securable}

less_is : (x y : ℕ) → x < y → nat_cmp x y ≡ Less
less_is x y below = grind (arith, nat_tests)

greater_is : (x y : ℕ) → y < x → nat_cmp x y ≡ Greater
greater_is x y above = grind (arith, nat_tests)

shifted : (shift b d : ℕ) → nat_cmp (shift + b) (shift + d) ≡ nat_cmp b d
shifted shift b d = grind (arith, nat_tests)

then_equal : (o : Ordering) → o ≡ ordering_then o Equal
then_equal Less = refl
then_equal Equal = refl
then_equal Greater = refl

then_assoc : (o p q : Ordering) → ordering_then (ordering_then o p) q ≡ ordering_then o (ordering_then p q)
then_assoc Less p q = refl
then_assoc Equal p q = refl
then_assoc Greater p q = refl

-- the higher digit decides, and else the lower one
above : (a b c d : ℕ) → b < 256 → a < c → a * 256 + b < c * 256 + d
above a b c d small less = omega arith

digits_told : (a b c d : ℕ) → b < 256 → d < 256 → (o : Ordering) → nat_cmp a c ≡ o → MatchOrdering o (a < c) (a ≡ c) (c < a)
    → nat_cmp (a * 256 + b) (c * 256 + d) ≡ ordering_then (nat_cmp a c) (nat_cmp b d)
digits_told a b c d small small_too Less is less =
    less_is (a * 256 + b) (c * 256 + d) (above a b c d small less) ∙ sym (ap (λ (o : Ordering). ordering_then o (nat_cmp b d)) is)
digits_told a b c d small small_too Equal is same =
    ap (λ (n : ℕ). nat_cmp (n * 256 + b) (c * 256 + d)) same
    ∙ shifted (c * 256) b d
    ∙ sym (ap (λ (o : Ordering). ordering_then o (nat_cmp b d)) is)
digits_told a b c d small small_too Greater is greater =
    greater_is (a * 256 + b) (c * 256 + d) (above c d a b small_too greater) ∙ sym (ap (λ (o : Ordering). ordering_then o (nat_cmp b d)) is)

digits : (a b c d : ℕ) → b < 256 → d < 256 → nat_cmp (a * 256 + b) (c * 256 + d) ≡ ordering_then (nat_cmp a c) (nat_cmp b d)
digits a b c d small small_too = digits_told a b c d small small_too (nat_cmp a c) refl (ranked a c (nat_cmp a c) refl)

-- the number that digits are behind another
abbrev value : ℕ → List ℕ → ℕ
value front [] = front
value front (digit ∷ digits) = value (front * 256 + digit) digits

abbrev AreDigits : List ℕ → Type 0
AreDigits xs = AllByRecursion (λ digit. digit < 256) xs

values_compared : (a c : ℕ) (xs ys : List ℕ) → AreDigits xs → AreDigits ys → length xs ≡ length ys → nat_cmp (value a xs) (value c ys) ≡ ordering_then (nat_cmp a c) (slice_cmp nat_cmp xs ys)
values_compared a c [] [] small small_too long = then_equal (nat_cmp a c)
values_compared a c [] (y ∷ ys) small small_too long = absurd (omega (arith, long))
values_compared a c (x ∷ xs) [] small small_too long = absurd (omega (arith, long))
values_compared a c (x ∷ xs) (y ∷ ys) small small_too long =
    values_compared (a * 256 + x) (c * 256 + y) xs ys small.1 small_too.1 (omega (arith, long))
    ∙ ap (λ (o : Ordering). ordering_then o (slice_cmp nat_cmp xs ys)) (digits a x c y small.0 small_too.0)
    ∙ then_assoc (nat_cmp a c) (nat_cmp x y) (slice_cmp nat_cmp xs ys)

-- lists that begin with as many numbers
joined : (bs cs xs ys : List ℕ) → length bs ≡ length cs → slice_cmp nat_cmp (bs ++ xs) (cs ++ ys) ≡ ordering_then (slice_cmp nat_cmp bs cs) (slice_cmp nat_cmp xs ys)
joined [] [] xs ys long = refl
joined [] (c ∷ cs) xs ys long = absurd (omega (arith, long))
joined (b ∷ bs) [] xs ys long = absurd (omega (arith, long))
joined (b ∷ bs) (c ∷ cs) xs ys long =
    ap (ordering_then (nat_cmp b c)) (joined bs cs xs ys (omega (arith, long))) ∙ sym (then_assoc (nat_cmp b c) (slice_cmp nat_cmp bs cs) (slice_cmp nat_cmp xs ys))

-- eight bytes compare as the number that they are
value_read : (a b c d e f g h : ℕ) → value 0 (a ∷ b ∷ c ∷ d ∷ e ∷ f ∷ g ∷ h ∷ []) ≡ from_be_bytes w64 (a ∷ b ∷ c ∷ d ∷ e ∷ f ∷ g ∷ h ∷ [])
value_read a b c d e f g h = omega arith

value_written : (n : ℕ) → n < 2 ^ 64 → value 0 (to_be_bytes w64 n) ≡ n
value_written n small =
    value_read (byte_at 7 n) (byte_at 6 n) (byte_at 5 n) (byte_at 4 n) (byte_at 3 n) (byte_at 2 n) (byte_at 1 n) (byte_at 0 n) ∙ from_be_bytes-to_be_bytes_8 n small

are_digits : (n : ℕ) → AreDigits (to_be_bytes w64 n)
are_digits n = (omega arith, (omega arith, (omega arith, (omega arith, (omega arith, (omega arith, (omega arith, (omega arith, tt))))))))

number_order : (m n : ℕ) → m < 2 ^ 64 → n < 2 ^ 64 → slice_cmp nat_cmp (to_be_bytes w64 m) (to_be_bytes w64 n) ≡ nat_cmp m n
number_order m n small small_too =
    sym (values_compared 0 0 (to_be_bytes w64 m) (to_be_bytes w64 n) (are_digits m) (are_digits n) refl)
    ∙ ap (λ (k : ℕ). nat_cmp k (value 0 (to_be_bytes w64 n))) (value_written m small)
    ∙ ap (nat_cmp m) (value_written n small_too)

-- the first field decides, and else what follows it
number_first : (m n : ℕ) (xs ys : List ℕ) → m < 2 ^ 64 → n < 2 ^ 64 → slice_cmp nat_cmp (to_be_bytes w64 m ++ xs) (to_be_bytes w64 n ++ ys) ≡ ordering_then (nat_cmp m n) (slice_cmp nat_cmp xs ys)
number_first m n xs ys small small_too =
    joined (to_be_bytes w64 m) (to_be_bytes w64 n) xs ys refl
    ∙ ap (λ (o : Ordering). ordering_then o (slice_cmp nat_cmp xs ys)) (number_order m n small small_too)

two_numbers : (a b c d : ℕ) → a < 2 ^ 64 → b < 2 ^ 64 → c < 2 ^ 64 → d < 2 ^ 64
    → slice_cmp nat_cmp (to_be_bytes w64 a ++ to_be_bytes w64 b) (to_be_bytes w64 c ++ to_be_bytes w64 d) ≡ slice_cmp nat_cmp (a ∷ b ∷ []) (c ∷ d ∷ [])
two_numbers a b c d a_small b_small c_small d_small =
    number_first a c (to_be_bytes w64 b) (to_be_bytes w64 d) a_small c_small
    ∙ ap (ordering_then (nat_cmp a c)) (number_order b d b_small d_small ∙ then_equal (nat_cmp b d))

members_in_order : IsOrderOfBytes member member_cmp
unfolding member number
members_in_order left right held held_too = two_numbers left.principal left.role right.principal right.role held.0 held.1 held_too.0 held_too.1

joins_in_order : IsOrderOfBytes join join_cmp
unfolding join number
joins_in_order left right held held_too =
    two_numbers left.principal_role left.catalog_role right.principal_role right.catalog_role held.0 held.1 held_too.0 held_too.1

one_id : (m n : ℕ) → m < 2 ^ 64 → n < 2 ^ 64 → slice_cmp nat_cmp (to_be_bytes w64 m) (to_be_bytes w64 n) ≡ slice_cmp nat_cmp (m ∷ []) (n ∷ [])
one_id m n small small_too = number_order m n small small_too ∙ then_equal (nat_cmp m n)

securables_in_order : (left right : Securable) → securable.holds left → securable.holds right
    → slice_cmp nat_cmp (securable.write left) (securable.write right) ≡ slice_cmp nat_cmp (securable_numbers left) (securable_numbers right)
unfolding securable number
securables_in_order Realm Realm held held_too = refl
securables_in_order Realm (Catalog other) held held_too = refl
securables_in_order Realm (Namespace other) held held_too = refl
securables_in_order Realm (Table other) held held_too = refl
securables_in_order Realm (View other) held held_too = refl
securables_in_order (Catalog one) Realm held held_too = refl
securables_in_order (Catalog one) (Catalog other) held held_too = one_id one other held held_too
securables_in_order (Catalog one) (Namespace other) held held_too = refl
securables_in_order (Catalog one) (Table other) held held_too = refl
securables_in_order (Catalog one) (View other) held held_too = refl
securables_in_order (Namespace one) Realm held held_too = refl
securables_in_order (Namespace one) (Catalog other) held held_too = refl
securables_in_order (Namespace one) (Namespace other) held held_too = one_id one other held held_too
securables_in_order (Namespace one) (Table other) held held_too = refl
securables_in_order (Namespace one) (View other) held held_too = refl
securables_in_order (Table one) Realm held held_too = refl
securables_in_order (Table one) (Catalog other) held held_too = refl
securables_in_order (Table one) (Namespace other) held held_too = refl
securables_in_order (Table one) (Table other) held held_too = one_id one other held held_too
securables_in_order (Table one) (View other) held held_too = refl
securables_in_order (View one) Realm held held_too = refl
securables_in_order (View one) (Catalog other) held held_too = refl
securables_in_order (View one) (Namespace other) held held_too = refl
securables_in_order (View one) (Table other) held held_too = refl
securables_in_order (View one) (View other) held held_too = one_id one other held held_too

grants_in_order : IsOrderOfBytes grant grant_cmp
unfolding grant privilege number
grants_in_order left right held held_too =
    number_first left.catalog_role right.catalog_role (privilege_number left.privilege ∷ securable.write left.securable) (privilege_number right.privilege ∷ securable.write right.securable) held.0 held_too.0
    ∙ ap (λ (o : Ordering). ordering_then (nat_cmp left.catalog_role right.catalog_role) (ordering_then (nat_cmp (privilege_number left.privilege) (privilege_number right.privilege)) o))
    (securables_in_order left.securable right.securable held.1.1 held_too.1.1)

pub facts_in_byte_order : FactsAreInByteOrder
facts_in_byte_order = (members_in_order, joins_in_order, grants_in_order)
