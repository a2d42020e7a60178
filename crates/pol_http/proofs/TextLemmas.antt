-- Bytes that stop being UTF-8: whether more of them can mend it (Unicode, table 3-7).
use Rattle.std.proofs.Common.{◌≡◌, ℕ, ◌+◌, ◌-◌, ◌*◌, ◌<◌, ◌≤◌, ◌⊎◌, Bool, true, false, List, [], ◌∷◌, ◌++◌, length, take, drop, get_or, cond, Option, None, Some, nat_lt, IsUtf8, All, refl, sym, ap, ◌∙◌, subst, inl, inr, arith, append-nil, append_assoc, length-append, length-drop, take-append-drop, get_or-drop}
use Rattle.std.proofs.lemmas.List.{take-append-le, drop-append-le, get_or_append_left}
use Rattle.std.proofs.lemmas.List.Elements.{All-nil, All-cons}
use Rattle.std.proofs.lemmas.Bool.{cases_eq, cases_lt}
use Rattle.std.proofs.lemmas.Bool.Decides.{nat_tests}
use Rattle.std.proofs.lemmas.Grind.{common_steps}
use Rattle.std.proofs.lemmas.Str.{IsUtf8-append}
use Rattle.std.specs.Int.{is_in_range}
use Rattle.std.specs.Str.{IsValidUpTo, StartsWithNoChar}
use Rattle.std.specs.Str.Lossy.{utf8_error_len, second_byte_min, second_byte_max}
use Rattle.std.proofs.str.Laws.{Follows}
use Rattle.std.proofs.str.Lossy.{utf8_error_len_some}
use Rattle.std.proofs.str.Faults.{Ranged, no_char}
use Rattle.std.proofs.str.Valid.{of_one, of_two, of_three, of_four, longer}
use Rattle.std.proofs.iter.FirstChar.{after_text, no_text}
use Rattle.pol_http.specs.Text.{IsBeyondRepair, CanBecomeText}

-- the error's length, by the tests that give it
abbrev len_by : Bool → Bool → Bool → Bool → Bool → Bool → Option ℕ
len_by first short second shorter third cut =
    cond first (cond short None (cond second (cond shorter None (cond third (cond cut None (Some 3)) (Some 2))) (Some 1))) (Some 1)

-- the bytes end within a character: after one byte of it, two or three
abbrev EndsWithin : Bool → Bool → Bool → Bool → Bool → Bool → Type 0
EndsWithin first short second shorter third cut =
    (first ≡ true) × ((short ≡ true) ⊎ ((short ≡ false) × (second ≡ true)
    × ((shorter ≡ true) ⊎ ((shorter ≡ false) × (third ≡ true) × (cut ≡ true)))))

ends_within : (first short second shorter third cut : Bool) → len_by first short second shorter third cut ≡ None
    → EndsWithin first short second shorter third cut
ends_within false short second shorter third cut e = absurd (cc)
ends_within true true second shorter third cut e = (refl, inl refl)
ends_within true false false shorter third cut e = absurd (cc)
ends_within true false true true third cut e = (refl, inr (refl, refl, inl refl))
ends_within true false true false false cut e = absurd (cc)
ends_within true false true false true true e = (refl, inr (refl, refl, inr (refl, refl, refl)))
ends_within true false true false true false e = absurd (cc)

-- a byte is out of its range: the first, the second, the third or the fourth
abbrev HasFault : Bool → Bool → Bool → Bool → Bool → Bool → Type 0
HasFault first short second shorter third cut =
    (first ≡ false)
    ⊎ ((first ≡ true) × (short ≡ false) × (second ≡ false))
    ⊎ ((first ≡ true) × (second ≡ true) × (shorter ≡ false) × (third ≡ false))
    ⊎ ((first ≡ true) × (second ≡ true) × (third ≡ true) × (cut ≡ false))

has_fault : (first short second shorter third cut : Bool) (k : ℕ) → len_by first short second shorter third cut ≡ Some k
    → HasFault first short second shorter third cut
has_fault false short second shorter third cut k e = inl refl
has_fault true true second shorter third cut k e = absurd (cc)
has_fault true false false shorter third cut k e = inr (inl (refl, refl, refl))
has_fault true false true true third cut k e = absurd (cc)
has_fault true false true false false cut k e = inr (inr (inl (refl, refl, refl, refl)))
has_fault true false true false true true k e = absurd (cc)
has_fault true false true false true false k e = inr (inr (inr (refl, refl, refl, refl)))

-- y may follow the first byte x
record IsSecond (x y : ℕ) : Type 0 where
  pub follows : Follows y
  pub e0 : x ≡ 0xE0 → 0xA0 ≤ y
  pub ed : x ≡ 0xED → y < 0xA0
  pub f0 : x ≡ 0xF0 → 0x90 ≤ y
  pub f4 : x ≡ 0xF4 → y < 0x90

second_follows : (x y : ℕ) → is_in_range (second_byte_min x) (second_byte_max x) y ≡ true → Follows y
second_follows x y passes = grind (arith, common_steps, nat_tests)

second_e0 : (x y : ℕ) → is_in_range (second_byte_min x) (second_byte_max x) y ≡ true → x ≡ 0xE0 → 0xA0 ≤ y
second_e0 x y passes is = grind (arith, common_steps, nat_tests)

second_ed : (x y : ℕ) → is_in_range (second_byte_min x) (second_byte_max x) y ≡ true → x ≡ 0xED → y < 0xA0
second_ed x y passes is = grind (arith, common_steps, nat_tests)

second_f0 : (x y : ℕ) → is_in_range (second_byte_min x) (second_byte_max x) y ≡ true → x ≡ 0xF0 → 0x90 ≤ y
second_f0 x y passes is = grind (arith, common_steps, nat_tests)

second_f4 : (x y : ℕ) → is_in_range (second_byte_min x) (second_byte_max x) y ≡ true → x ≡ 0xF4 → y < 0x90
second_f4 x y passes is = grind (arith, common_steps, nat_tests)

second_is : (x y : ℕ) → is_in_range (second_byte_min x) (second_byte_max x) y ≡ true → IsSecond x y
second_is x y passes = record {
  follows = second_follows x y passes;
  e0 = second_e0 x y passes;
  ed = second_ed x y passes;
  f0 = second_f0 x y passes;
  f4 = second_f4 x y passes;
}

second_fails : (x y : ℕ) → is_in_range (second_byte_min x) (second_byte_max x) y ≡ false → ¬ (IsSecond x y)
second_fails x y fails second =
    let follows = second.follows in
    let e0 = second.e0 in
    let ed = second.ed in
    let f0 = second.f0 in
    let f4 = second.f4 in
    grind (arith, common_steps, nat_tests)

-- the least byte that may follow x
least_second : (x : ℕ) → IsSecond x (second_byte_min x)
least_second x = second_is x (second_byte_min x) (grind (arith, common_steps, nat_tests))

first_is : (x : ℕ) → is_in_range 0xC2 0xF4 x ≡ true → (194 ≤ x) × (x < 245)
first_is x passes = grind (arith, common_steps, nat_tests)

first_fails : (x : ℕ) → is_in_range 0xC2 0xF4 x ≡ false → (x < 194) ⊎ (245 ≤ x)
first_fails x fails = grind (arith, common_steps, nat_tests)

third_is : (z : ℕ) → is_in_range 0x80 0xBF z ≡ true → Follows z
third_is z passes = grind (arith, common_steps, nat_tests)

third_fails : (z : ℕ) → is_in_range 0x80 0xBF z ≡ false → ¬ (Follows z)
third_fails z fails (low, high) = grind (arith, common_steps, nat_tests)

-- what follows the longest front that is UTF-8
record Stops (bs : List ℕ) (n : ℕ) (s : List ℕ) : Type 0 where
  pub is : s ≡ drop n bs
  pub some : 0 < length s
  pub front : IsUtf8 (take n bs)
  pub none : (w : ℕ) → 0 < w → ¬ (IsUtf8 (take w s))

stops : (bs : List ℕ) (n : ℕ) → IsValidUpTo bs n → Stops bs n (drop n bs)
stops bs n valid =
    let short = valid.short in
    record {
      is = refl;
      some = omega (arith, length-drop n bs);
      front = valid.front;
      none = λ w some text. valid.longest (n + w) (omega arith) (longer bs n w valid.front text);
    }

-- no whole character stands at the front of s
no_one : {bs s : List ℕ} {n : ℕ} → Stops bs n s → 128 ≤ get_or s 0 0
no_one {s} at = elim (cases_lt (get_or s 0 0) 128) [
  | inl low ↦ absurd (at.none 1 (omega arith) (of_one s 0 at.some low))
  | inr high ↦ high
]

no_two : {bs s : List ℕ} {n : ℕ} → Stops bs n s → 1 < length s → 194 ≤ get_or s 0 0 → Follows (get_or s 1 0)
    → 224 ≤ get_or s 0 0
no_two {s} at long low follows = elim (cases_lt (get_or s 0 0) 224) [
  | inl below ↦ absurd (at.none 2 (omega arith) (of_two s 0 long (low, below) follows))
  | inr high ↦ high
]

from_e0 : (x y z : ℕ) → 224 ≤ x → (x ≡ 0xE0 → 0xA0 ≤ y) → Follows y → Follows z
    → 2048 ≤ (x - 224) * 4096 + (y - 128) * 64 + (z - 128)
from_e0 x y z low e0 follows third = elim (cases_eq x 224) [ inl is ↦ let h = e0 is in omega arith | inr isnt ↦ omega arith ]

-- the number that three bytes write is past two bytes' reach and no surrogate
in_three : (x y z : ℕ) → 224 ≤ x → x < 240 → IsSecond x y → Follows z
    → let c : ℕ = (x - 224) * 4096 + (y - 128) * 64 + (z - 128) in (2048 ≤ c) × ((c < 55296) ⊎ (57344 ≤ c))
in_three x y z low high second third =
    let follows = second.follows in
    let ed = second.ed in (
      from_e0 x y z low second.e0 follows third,
      elim (cases_lt x 238) [
        | inl below ↦ elim (cases_eq x 237) [ inl is ↦ let h = ed is in inl (omega arith) | inr isnt ↦ inl (omega arith) ]
        | inr above ↦ inr (omega arith)
      ],
    )

no_three : {bs s : List ℕ} {n : ℕ} → Stops bs n s → 2 < length s → 224 ≤ get_or s 0 0
    → IsSecond (get_or s 0 0) (get_or s 1 0) → Follows (get_or s 2 0) → 240 ≤ get_or s 0 0
no_three {s} at long low second third = elim (cases_lt (get_or s 0 0) 240) [
  | inl high ↦
      let range = in_three (get_or s 0 0) (get_or s 1 0) (get_or s 2 0) low high second third in
      absurd (at.none 3 (omega arith) (of_three s 0 long (low, high) second.follows third range.0 range.1))
  | inr above ↦ above
]

in_four : (x y : ℕ) → 240 ≤ x → x < 245 → IsSecond x y → let high : ℕ = (x - 240) * 64 + (y - 128) in (16 ≤ high) × (high < 272)
in_four x y low high second =
    let follows = second.follows in
    let f0 = second.f0 in
    let f4 = second.f4 in (
      elim (cases_eq x 240) [ inl is ↦ let h = f0 is in omega arith | inr isnt ↦ omega arith ],
      elim (cases_eq x 244) [ inl is ↦ let h = f4 is in omega arith | inr isnt ↦ omega arith ],
    )

no_four : {bs s : List ℕ} {n : ℕ} → Stops bs n s → 3 < length s → 240 ≤ get_or s 0 0 → get_or s 0 0 < 245
    → IsSecond (get_or s 0 0) (get_or s 1 0) → Follows (get_or s 2 0) → ¬ (Follows (get_or s 3 0))
no_four {s} at long low high second third fourth =
    at.none 4 (omega arith) (of_four s 0 long low second.follows third fourth (in_four (get_or s 0 0) (get_or s 1 0) low high second))

-- ---- the error's length, read

abbrev first_fits : List ℕ → Bool
first_fits s = is_in_range 0xC2 0xF4 (get_or s 0 0)

abbrev second_fits : List ℕ → Bool
second_fits s = is_in_range (second_byte_min (get_or s 0 0)) (second_byte_max (get_or s 0 0)) (get_or s 1 0)

abbrev third_fits : List ℕ → Bool
third_fits s = is_in_range 0x80 0xBF (get_or s 2 0)

error_len_is : (s : List ℕ) → 0 < length s → utf8_error_len s
    ≡ len_by (first_fits s) (nat_lt (length s) 2) (second_fits s) (nat_lt (length s) 3) (third_fits s) (nat_lt (length s) 4)
error_len_is s some = utf8_error_len_some s some

ranged_second : {n x y z w : ℕ} → Ranged n x y z w → 128 ≤ x → IsSecond x y
ranged_second {x} {y} ranged high = record {
  follows = (ranged.second high).2;
  e0 = λ is. let range = (ranged.in_three (omega arith) (omega arith)).0 in omega arith;
  ed = λ is. elim (ranged.in_three (omega arith) (omega arith)).1 [ inl below ↦ omega arith | inr above ↦ let follows = (ranged.second high).2 in omega arith ];
  f0 = λ is. let range = (ranged.fourth (omega arith)).2 in omega arith;
  f4 = λ is. let range = (ranged.fourth (omega arith)).2 in omega arith;
}

long : (n k : ℕ) → nat_lt n k ≡ false → k ≤ n
long n k test = grind (arith, nat_tests)

-- bytes out of their ranges stay so, whatever follows
no_range : {bs s : List ℕ} {n : ℕ} → Stops bs n s → (total x y z w : ℕ) → length s ≤ total → get_or s 0 0 ≡ x
    → (1 < length s → get_or s 1 0 ≡ y) → (2 < length s → get_or s 2 0 ≡ z) → (3 < length s → get_or s 3 0 ≡ w)
    → HasFault (first_fits s) (nat_lt (length s) 2) (second_fits s) (nat_lt (length s) 3) (third_fits s) (nat_lt (length s) 4)
    → ¬ (Ranged total x y z w)
no_range {s} at total x y z w more e0 e1 e2 e3 fault ranged =
    let high = no_one at in
    let least : 128 ≤ x = omega arith in
    let second = ranged_second ranged least in
    let first_byte = get_or s 0 0 in
    let second_byte = get_or s 1 0 in
    elim fault [
      | inl fails ↦ elim (first_fails first_byte fails) [
        | inl low ↦ let range = ranged.second least in omega arith
        | inr above ↦ let range = (ranged.fourth (omega arith)).2 in let follows = second.follows in omega arith
      ]
      | inr (inl (first, short, fails)) ↦
          let some : 1 < length s = omega (arith, long (length s) 2 short) in
          second_fails first_byte second_byte fails (rw (e0, e1 some) second)
      | inr (inr (inl (first, fits, short, fails))) ↦
          let some : 2 < length s = omega (arith, long (length s) 3 short) in
          let follows = second_follows first_byte second_byte fits in
          let from = no_two at (omega arith) (first_is first_byte first).0 follows in
          third_fails (get_or s 2 0) fails (rw (e2 some) (ranged.third (omega arith)).1)
      | inr (inr (inr (first, fits, third, short))) ↦
          let some : 3 < length s = omega (arith, long (length s) 4 short) in
          let follows = second_follows first_byte second_byte fits in
          let from = no_two at (omega arith) (first_is first_byte first).0 follows in
          let is = second_is first_byte second_byte fits in
          let third_follows = third_is (get_or s 2 0) third in
          let top = no_three at (omega arith) from is third_follows in
          no_four at some top (first_is first_byte first).1 is third_follows (rw (e3 some) (ranged.fourth (omega arith)).1)
    ]

byte_at : (bs more : List ℕ) (n i k : ℕ) → k ≡ n + i → n ≤ length bs → i < length (drop n bs)
    → get_or (drop n bs) i 0 ≡ get_or (bs ++ more) k 0
byte_at bs more n i k place within inside =
    rw place
    (sym (get_or_append_left (drop n bs) more 0 i inside)
    ∙ ap (λ t. get_or t i 0) (sym (drop-append-le n bs more within))
    ∙ get_or-drop n (bs ++ more) i 0)

pub beyond_repair : (bs : List ℕ) (n k : ℕ) → IsValidUpTo bs n → utf8_error_len (drop n bs) ≡ Some k → IsBeyondRepair bs
beyond_repair bs n k valid len more text =
    let at = stops bs n valid in
    let all = bs ++ more in
    let short = valid.short in
    let within : n ≤ length bs = omega arith in
    let front : IsUtf8 (take n all) = subst IsUtf8 (sym (take-append-le n bs more within)) valid.front in
    let fault = has_fault _ _ _ _ _ _ k (sym (error_len_is (drop n bs) at.some) ∙ len) in
    let none = no_range at (length all - n) (get_or all n 0) (get_or all (n + 1) 0) (get_or all (n + 2) 0) (get_or all (n + 3) 0)
    (omega (arith, length-append bs more, length-drop n bs))
    (byte_at bs more n 0 n (omega arith) within at.some)
    (λ inside. byte_at bs more n 1 (n + 1) refl within inside)
    (λ inside. byte_at bs more n 2 (n + 2) refl within inside)
    (λ inside. byte_at bs more n 3 (n + 3) refl within inside) fault in
    no_text (drop n all) [] (subst StartsWithNoChar (sym (append-nil (drop n all))) (no_char all n none)) (after_text all n text front)
    (omega (arith, length-drop n all, length-append bs more))

-- ---- what mends a character that is cut short

abbrev Mends : List ℕ → Type 0
Mends s = (more : List ℕ) × All (λ byte. 128 ≤ byte) more × IsUtf8 (s ++ more)

abbrev IsHigh : ℕ → Type 0
IsHigh byte = 128 ≤ byte

one_high : (y : ℕ) → 128 ≤ y → All IsHigh (y ∷ [])
one_high y high = All-cons IsHigh y [] high (All-nil IsHigh)

mend_three : (x y z : ℕ) → 240 ≤ x → x < 245 → IsSecond x y → Follows z → Mends (x ∷ y ∷ z ∷ [])
mend_three x y z low high second third = (
  128 ∷ [],
  one_high 128 (omega arith),
  of_four (x ∷ y ∷ z ∷ 128 ∷ []) 0 (omega arith) low second.follows third (omega arith, omega arith) (in_four x y low high second),
)

mend_two : (x y : ℕ) → 224 ≤ x → x < 245 → IsSecond x y → Mends (x ∷ y ∷ [])
mend_two x y low high second = elim (cases_lt x 240) [
  | inl below ↦
      let range = in_three x y 128 low below second (omega arith, omega arith) in (
        128 ∷ [],
        one_high 128 (omega arith),
        of_three (x ∷ y ∷ 128 ∷ []) 0 (omega arith) (low, below) second.follows (omega arith, omega arith) range.0 range.1,
      )
  | inr from ↦
      let more = mend_three x y 128 from high second (omega arith, omega arith) in
      (128 ∷ more.0, All-cons IsHigh 128 more.0 (omega arith) more.1, more.2)
]

mend_one : (x : ℕ) → 194 ≤ x → x < 245 → Mends (x ∷ [])
mend_one x low high = elim (cases_lt x 224) [
  | inl below ↦ (
    128 ∷ [],
    one_high 128 (omega arith),
    of_two (x ∷ 128 ∷ []) 0 (omega arith) (low, below) (omega arith, omega arith),
  )
  | inr from ↦
      let second = least_second x in
      let more = mend_two x (second_byte_min x) from high second in
      (second_byte_min x ∷ more.0, All-cons IsHigh (second_byte_min x) more.0 second.follows.0 more.1, more.2)
]

mends : {bs : List ℕ} {n : ℕ} (s : List ℕ) → Stops bs n s
    → EndsWithin (first_fits s) (nat_lt (length s) 2) (second_fits s) (nat_lt (length s) 3) (third_fits s) (nat_lt (length s) 4)
    → Mends s
mends [] at ends = let some = at.some in absurd (omega arith)
mends (x ∷ []) at (first, rest) = mend_one x (first_is x first).0 (first_is x first).1
mends (x ∷ y ∷ []) at (first, inl short) = absurd (cc)
mends (x ∷ y ∷ []) at (first, inr (long, fits, rest)) =
    let second = second_is x y fits in
    mend_two x y (no_two at (omega arith) (first_is x first).0 second.follows) (first_is x first).1 second
mends (x ∷ y ∷ z ∷ []) at (first, inl short) = absurd (cc)
mends (x ∷ y ∷ z ∷ []) at (first, inr (long, fits, inl shorter)) = absurd (cc)
mends (x ∷ y ∷ z ∷ []) at (first, inr (long, fits, inr (longer', third, cut))) =
    let second = second_is x y fits in
    let from = no_two at (omega arith) (first_is x first).0 second.follows in
    mend_three x y z (no_three at (omega arith) from second (third_is z third)) (first_is x first).1 second (third_is z third)
mends (x ∷ y ∷ z ∷ w ∷ s) at (first, inl short) = absurd (grind (arith, nat_tests))
mends (x ∷ y ∷ z ∷ w ∷ s) at (first, inr (long', fits, inl shorter)) = absurd (grind (arith, nat_tests))
mends (x ∷ y ∷ z ∷ w ∷ s) at (first, inr (long', fits, inr (longer', third, cut))) = absurd (grind (arith, nat_tests))

pub can_become : (bs : List ℕ) (n : ℕ) → IsValidUpTo bs n → utf8_error_len (drop n bs) ≡ None → CanBecomeText bs
can_become bs n valid none =
    let at = stops bs n valid in
    let ends = ends_within _ _ _ _ _ _ (sym (error_len_is (drop n bs) at.some) ∙ none) in
    let more = mends (drop n bs) at ends in
    let whole : take n bs ++ (drop n bs ++ more.0) ≡ bs ++ more.0 =
    sym (append_assoc (take n bs) (drop n bs) more.0) ∙ ap (λ t. t ++ more.0) (take-append-drop n bs) in
    (more.0, more.1, subst IsUtf8 whole (IsUtf8-append (take n bs) (drop n bs ++ more.0) valid.front more.2))
