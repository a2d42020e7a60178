-- A text that no rule refuses is a name of its kind, and the other way round.
use Rattle.std.proofs.Common.{◌≡◌, ◌≢◌, ◌≤◌, ℕ, Bool, true, false, not, List, [], ◌∷◌, length, refl, arith}
use Rattle.std.specs.Prelude.{None, Some, nat_lt, ◌==◌, if◌then◌else◌}
use Rattle.std.specs.List.{list_all}
use Rattle.std.specs.Str.{IsUtf8}
use Rattle.std.proofs.lemmas.Grind.{common_steps}
use Rattle.std.proofs.lemmas.List.Sums.{AllPass-from_list_all, list_all-from_AllPass}
use Rattle.pol_names.specs.Name.{IsName, is_name_byte, name_refusal}
use Rattle.pol_names.specs.Plain.{IsPlainName, is_plain_byte, plain_refusal}

-- what a test of each byte tells
pub ruleset list_all_passes = (AllPass-from_list_all)

-- none of three rules in a row refuses
record Passes (first second third : Bool) : Type 0 where
  first_passes : first ≡ false
  second_passes : second ≡ false
  third_passes : third ≡ true

passes : {A : Type 0} (x y z : A) (first second third : Bool) →
    (if first then Some x else if second then Some y else if not third then Some z else None) ≡ None → Passes first second third
passes x y z true second third none = cc
passes x y z false true third none = cc
passes x y z false false false none = cc
passes x y z false false true none = record { first_passes = refl; second_passes = refl; third_passes = refl }

no_refusal : {A : Type 0} (x y z : A) (first second third : Bool) → Passes first second third →
    (if first then Some x else if second then Some y else if not third then Some z else None) ≡ None
no_refusal x y z first second third p = rw (p.first_passes, p.second_passes, p.third_passes) refl

-- a text of at least one byte, and of at most so many
not_empty : (text : List ℕ) → (length text == 0) ≡ false → text ≢ []
not_empty [] some empty = cc
not_empty (byte ∷ text) some empty = cc

some_bytes : (text : List ℕ) → text ≢ [] → (length text == 0) ≡ false
some_bytes [] filled = absurd (filled refl)
some_bytes (byte ∷ text) filled = grind (arith, common_steps)

at_most : (bound : ℕ) (text : List ℕ) → nat_lt bound (length text) ≡ false → length text ≤ bound
at_most bound text short = grind (arith, common_steps)

not_over : (bound : ℕ) (text : List ℕ) → length text ≤ bound → nat_lt bound (length text) ≡ false
not_over bound text short = grind (arith, common_steps)

pub IsName-from_refusal : (text : List ℕ) → IsUtf8 text → name_refusal text ≡ None → IsName text
unfolding name_refusal
IsName-from_refusal text utf8 none =
    let tests : Passes (length text == 0) (nat_lt 128 (length text)) (list_all is_name_byte text) = passes _ _ _ _ _ _ none in
    record {
      filled = not_empty text tests.first_passes;
      bounded = at_most 128 text tests.second_passes;
      clean = AllPass-from_list_all is_name_byte text tests.third_passes;
      utf8 = utf8;
    }

pub name_refusal-IsName : (text : List ℕ) → IsName text → name_refusal text ≡ None
unfolding name_refusal
name_refusal-IsName text name =
    no_refusal _ _ _ _ _ _ (record {
      first_passes = some_bytes text name.filled;
      second_passes = not_over 128 text name.bounded;
      third_passes = list_all-from_AllPass is_name_byte text name.clean;
    })

pub IsPlainName-from_refusal : (text : List ℕ) → plain_refusal text ≡ None → IsPlainName text
unfolding plain_refusal
IsPlainName-from_refusal text none =
    let tests : Passes (length text == 0) (nat_lt 128 (length text)) (list_all is_plain_byte text) = passes _ _ _ _ _ _ none in
    record {
      filled = not_empty text tests.first_passes;
      bounded = at_most 128 text tests.second_passes;
      clean = AllPass-from_list_all is_plain_byte text tests.third_passes;
    }

pub plain_refusal-IsPlainName : (text : List ℕ) → IsPlainName text → plain_refusal text ≡ None
unfolding plain_refusal
plain_refusal-IsPlainName text name =
    no_refusal _ _ _ _ _ _ (record {
      first_passes = some_bytes text name.filled;
      second_passes = not_over 128 text name.bounded;
      third_passes = list_all-from_AllPass is_plain_byte text name.clean;
    })
