-- What words name is within its bounds.
use Rattle.std.proofs.Common.{◌≡◌, ◌≤◌, ℕ, ◌+◌, drop, take, Bool, true, false, ◌||◌, not, nat_lt, List, [], ◌∷◌, Option, Some, None, option_map, codes, cond, refl, subst, arith, if◌then◌else◌}
use Rattle.std.specs.Char.{is_ascii_digit}
use Rattle.std.specs.List.{AllByRecursion, find, list_all}
use Rattle.std.specs.Option.{option_and_then, option_or}
use Rattle.std.specs.Str.{bytes_eq}
use Rattle.std.specs.Str.Parse.{digits_value}
use Rattle.std.proofs.lemmas.Bool.{ltb-false}
use Rattle.pol_readers.specs.Forms.{meaning}
use Rattle.pol_meta.specs.Columns.{AreIn}
use Rattle.pol_meta.specs.Valid.{IsKind, IsSize, IsTransform, levels}
use Rattle.pol_meta.specs.declared.column.Kind.{Kind}
use Rattle.pol_meta.specs.declared.column.Kind.TheVariants as kind
use Rattle.pol_meta.specs.declared.transform.Transform.{Transform}
use Rattle.pol_meta.specs.declared.transform.Transform.TheVariants.{Bucket, Truncate}
use Rattle.pol_metajson.specs.Brackets.{between, sized}
use Rattle.pol_metajson.specs.Kind.{comma_of, decimal_at, decimal_of, kind_of, plain_kind, plain_kinds, timed_kind, timed_kinds, without_space}
use Rattle.pol_metajson.specs.Numeral.{has_leading_zero, numeral}
use Rattle.pol_metajson.specs.Transform.{plain_transform, plain_transforms, sized_transform, transform_of}

-- a value that is made of another
pub mapped : {A B : Type 0} (f : A → B) (o : Option A) (value : B) → option_map f o ≡ Some value → (held : A) × (o ≡ Some held) × (f held ≡ value)
mapped f None value is = absurd (cc)
mapped f (Some held) value is = (held, refl, cc)

followed : {A B : Type 0} (f : A → Option B) (o : Option A) (value : B) → option_and_then f o ≡ Some value → (held : A) × (o ≡ Some held) × (f held ≡ Some value)
followed f None value is = absurd (cc)
followed f (Some held) value is = (held, refl, is)

-- what holds of either choice holds of the first that is there
either_holds : {A : Type 0} (P : A → Type 0) (first second : Option A) → ((value : A) → first ≡ Some value → P value) → ((value : A) → second ≡ Some value → P value) → (value : A) → option_or first second ≡ Some value → P value
either_holds P None second one other value is = other value is
either_holds P (Some held) second one other value is = one value is

-- what holds of each meaning holds of that of a word
meaning_at : {A : Type 0} (P : A → Type 0) (row : List ℕ × A) (rows : List (List ℕ × A)) (word : List ℕ) (here : Bool) (value : A) → P row.1
    → ((value : A) → option_map (λ (other : List ℕ × A). other.1) (find (λ (other : List ℕ × A). bytes_eq other.0 word) rows) ≡ Some value → P value)
    → option_map (λ (other : List ℕ × A). other.1) (cond here (Some row) (find (λ (other : List ℕ × A). bytes_eq other.0 word) rows)) ≡ Some value → P value
meaning_at P row rows word true value one others is = let same : row.1 ≡ value = cc in subst P same one
meaning_at P row rows word false value one others is = others value is

meaning_holds : {A : Type 0} (P : A → Type 0) (rows : List (List ℕ × A)) (word : List ℕ) → AllByRecursion (λ (row : List ℕ × A). P row.1) rows → (value : A) → meaning rows word ≡ Some value → P value
meaning_holds P [] word all value is = absurd (cc)
meaning_holds P (row ∷ rows) word all value is =
    meaning_at P row rows word (bytes_eq row.0 word) value all.0 (meaning_holds P rows word all.1) is

-- a number that digits are is within its bounds
numeral_at : (low high value number : ℕ) (bad below above : Bool) → (below ≡ false → low ≤ value) → (above ≡ false → value ≤ high)
    → (if bad then None else if below || above then None else Some value) ≡ Some number → (low ≤ number) × (number ≤ high)
numeral_at low high value number true below above least most is = absurd (cc)
numeral_at low high value number false true above least most is = absurd (cc)
numeral_at low high value number false false true least most is = absurd (cc)
numeral_at low high value number false false false least most is =
    let same : value ≡ number = cc in
    let lower : low ≤ value = least refl in
    let upper : value ≤ high = most refl in
    (omega arith, omega arith)

numeral_within : (low high : ℕ) (digits : List ℕ) (number : ℕ) → numeral low high digits ≡ Some number → (low ≤ number) × (number ≤ high)
unfolding numeral
numeral_within low high digits number is =
    numeral_at low high (digits_value 10 digits) number (has_leading_zero digits || not (list_all is_ascii_digit digits))
    (nat_lt (digits_value 10 digits) low) (nat_lt high (digits_value 10 digits)) (ltb-false _ _) (ltb-false _ _) is

sized_within : (start word : List ℕ) (number : ℕ) → sized start word ≡ Some number → IsSize number
sized_within start word number is =
    let told = followed (numeral 1 2147483647) (between start (codes "]") word) number is in
    let bounds = numeral_within 1 2147483647 told.0 number told.2 in
    record { least = bounds.0; most = bounds.1 }

-- a type without columns
pub record IsPlain (found : Kind) : Type 0 where
  pub bound : IsKind found
  pub empty : AreIn found []
  pub flat : levels found ≡ 0

plain_plain : (word : List ℕ) (found : Kind) → plain_kind word ≡ Some found → IsPlain found
plain_plain word = meaning_holds IsPlain plain_kinds word ((record { bound = tt; empty = tt; flat = refl }), ((record { bound = tt; empty = tt; flat = refl }), ((record { bound = tt; empty = tt; flat = refl }), ((record { bound = tt; empty = tt; flat = refl }), ((record { bound = tt; empty = tt; flat = refl }), ((record { bound = tt; empty = tt; flat = refl }), tt))))))

timed_plain : (word : List ℕ) (found : Kind) → timed_kind word ≡ Some found → IsPlain found
timed_plain word = meaning_holds IsPlain timed_kinds word ((record { bound = tt; empty = tt; flat = refl }), ((record { bound = tt; empty = tt; flat = refl }), ((record { bound = tt; empty = tt; flat = refl }), ((record { bound = tt; empty = tt; flat = refl }), ((record { bound = tt; empty = tt; flat = refl }), ((record { bound = tt; empty = tt; flat = refl }), tt))))))

fixed_plain : (word : List ℕ) (found : Kind) → option_map kind.Fixed (sized (codes "fixed[") word) ≡ Some found → IsPlain found
fixed_plain word found is =
    let told = mapped kind.Fixed (sized (codes "fixed[") word) found is in
    subst IsPlain told.2 (record { bound = sized_within (codes "fixed[") word told.0 told.1; empty = tt; flat = refl })

decimal_plain : (word : List ℕ) (found : Kind) → decimal_of word ≡ Some found → IsPlain found
decimal_plain word found is =
    let inner = followed (λ inner. option_and_then (decimal_at inner) (comma_of inner)) (between (codes "decimal(") (codes ")") word) found is in
    let comma = followed (decimal_at inner.0) (comma_of inner.0) found inner.2 in
    let precise = followed (λ precision. option_map (kind.Decimal precision) (numeral 0 precision (without_space (drop (comma.0 + 1) inner.0)))) (numeral 1 38 (take comma.0 inner.0)) found comma.2 in
    let scaled = mapped (kind.Decimal precise.0) (numeral 0 precise.0 (without_space (drop (comma.0 + 1) inner.0))) found precise.2 in
    let precision = numeral_within 1 38 (take comma.0 inner.0) precise.0 precise.1 in
    let scale = numeral_within 0 precise.0 (without_space (drop (comma.0 + 1) inner.0)) scaled.0 scaled.1 in
    subst IsPlain scaled.2 (record {
      bound = record { least = precision.0; most = precision.1; scaled = scale.1 };
      empty = tt;
      flat = refl;
    })

pub kind_plain : (word : List ℕ) (found : Kind) → kind_of word ≡ Some found → IsPlain found
unfolding kind_of
kind_plain word =
    either_holds IsPlain (option_or (option_or (plain_kind word) (timed_kind word)) (option_map kind.Fixed (sized (codes "fixed[") word))) (decimal_of word)
    (either_holds IsPlain (option_or (plain_kind word) (timed_kind word)) (option_map kind.Fixed (sized (codes "fixed[") word))
    (either_holds IsPlain (plain_kind word) (timed_kind word) (plain_plain word) (timed_plain word)) (fixed_plain word))
    (decimal_plain word)

-- a transform whose number is within its bounds
pub transform_within : (word : List ℕ) (found : Transform) → transform_of word ≡ Some found → IsTransform found
unfolding transform_of
transform_within word =
    either_holds IsTransform (plain_transform word) (sized_transform word)
    (meaning_holds IsTransform plain_transforms word (tt, (tt, (tt, (tt, (tt, (tt, tt)))))))
    (either_holds IsTransform (option_map Bucket (sized (codes "bucket[") word)) (option_map Truncate (sized (codes "truncate[") word))
    (λ found is. let told = mapped Bucket (sized (codes "bucket[") word) found is in subst IsTransform told.2 (sized_within (codes "bucket[") word told.0 told.1))
    (λ found is. let told = mapped Truncate (sized (codes "truncate[") word) found is in subst IsTransform told.2 (sized_within (codes "truncate[") word told.0 told.1)))
