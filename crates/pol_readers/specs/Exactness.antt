-- Forms are exact: each reads a value exactly where its grammar relates the two.
use Rattle.std.proofs.Common.{◌≡◌, ◌≢◌, ℕ, zero, suc, ◌≤◌, pos, negsuc, List, [], ◌∷◌, Bool, true, false, nat_le, ◌&&◌, Option, Some, None, option_map, option_and_then, Ok, Err, IsUtf8, inl, inr, cond, nat_lt, ◌^◌, arith, refl, sym, ap, subst, ◌∙◌}
use Rattle.std.proofs.lemmas.Bool.{false≢true}
use Rattle.std.proofs.lemmas.Bool.Decides.{nat_tests}
use Rattle.std.proofs.lemmas.Str.{is_utf8-from_IsUtf8, IsUtf8-from_is_utf8}
use Rattle.std.proofs.lemmas.Slice.Eq.{bytes_eq-Decides}
use Rattle.std.specs.Str.{bytes_eq, is_utf8}
use Rattle.serde_json.specs.Data.{Data, null, boolean, number, string, array, object, unsigned, negative, float, Items, no_items, item, Members, no_members, member}
use Rattle.serde_json.specs.Find.{get, as_i64, as_number}
use Rattle.serde_json.specs.Read.{read}
use Rattle.pol_readers.specs.declared.minus_one.OrMinusOne.{OrMinusOne}
use Rattle.pol_readers.specs.declared.minus_one.OrMinusOne.TheVariants.{MinusOne, Other}
use Rattle.pol_readers.specs.declared.path.Step.{Step}
use Rattle.pol_readers.specs.declared.path.Step.TheVariants.{Key, Place}
use Rattle.pol_readers.specs.Reading.{Reading, ◌>>=◌, found, under, as_one}
use Rattle.pol_readers.specs.Forms as form
use Rattle.pol_readers.specs.Grammar.{Exact, Then, IsObject, IsText, IsTruth, IsWhole, IsOrMinusOne, Means, IsOneOf, IsFixed, HasField, MayHold, MayHaveField, AreItems, IsList, AreMembers, HasEntries, IsBody}

found_ok : {A : Type 0} (o : Option A) (value : A) → found o ≡ Ok value → o ≡ Some value
found_ok None value is = cc
found_ok (Some other) value is = cc

pub under_ok : {A : Type 0} (step : Step) (reading : Reading A) (value : A) → under step reading ≡ Ok value → reading ≡ Ok value
under_ok step (Ok other) value is = is
under_ok step (Err path) value is = cc

as_one_ok : {A : Type 0} (reading : Reading A) (value : A) → as_one reading ≡ Ok value → reading ≡ Ok value
as_one_ok (Ok other) value is = is
as_one_ok (Err path) value is = cc

pub next_ok : {A B : Type 0} (reading : Reading A) (next : A → Reading B) (value : B) → (reading >>= next) ≡ Ok value → (first : A) × (reading ≡ Ok first) × (next first ≡ Ok value)
next_ok (Ok first) next value is = (first, refl, is)
next_ok (Err path) next value is = absurd (cc)

-- one part after another
pub then_exact : {S A B : Type 0} {first : S → Reading A} {next : A → S → Reading B} {P : S → A → Type 0} {Q : A → S → B → Type 0} → Exact first P → ((found : A) → Exact (next found) (Q found))
    → Exact (λ s. first s >>= (λ found. next found s)) (Then P Q)
then_exact {S} {A} {B} {first} {next} {P} {Q} p q = record { sound = sound; complete = complete }
  where
    sound : (s : S) (value : B) → (first s >>= (λ found. next found s)) ≡ Ok value → Then P Q s value
    sound s value is =
        let parts = next_ok (first s) (λ found. next found s) value is in
        (parts.0, p.sound s parts.0 parts.1, (q parts.0).sound s value parts.2)

    complete : (s : S) (value : B) → Then P Q s value → (first s >>= (λ found. next found s)) ≡ Ok value
    complete s value so = rw (p.complete s so.0 so.1) ((q so.0).complete s value so.2)

-- the end of a form: the value that its parts make
pub done_exact : {S A : Type 0} (made : A) → Exact {S = S} (λ s. Ok made) (λ s value. value ≡ made)
done_exact made = record { sound = λ s value is. cc; complete = λ s value is. cc }

rule_sound : (rule : Bool) (nothing : Unit {0}) → form.holds rule ≡ Ok nothing → rule ≡ true
unfolding form.holds
rule_sound true nothing is = refl
rule_sound false nothing is = absurd (cc)

rule_complete : (rule : Bool) (nothing : Unit {0}) → rule ≡ true → form.holds rule ≡ Ok nothing
unfolding form.holds
rule_complete rule nothing is = rw is refl

-- a rule that what was read must meet, told at the value itself or at a step
pub rules_exact : {S : Type 0} (rule : Bool) → Exact {S = S} (λ s. form.holds rule) (λ s nothing. rule ≡ true)
rules_exact rule = record { sound = λ s. rule_sound rule; complete = λ s. rule_complete rule }

pub rules_under_exact : {S : Type 0} (step : Step) (rule : Bool) → Exact {S = S} (λ s. under step (form.holds rule)) (λ s nothing. rule ≡ true)
rules_under_exact step rule = record {
  sound = λ s nothing is. rule_sound rule nothing (under_ok step (form.holds rule) nothing is);
  complete = λ s nothing so. rw (rule_complete rule nothing so) refl;
}

-- a value that there must be, told at the value itself or at a step
pub found_exact : {S A : Type 0} (wanted : Option A) → Exact {S = S} (λ s. found wanted) (λ s value. wanted ≡ Some value)
found_exact wanted = record { sound = λ s value. found_ok wanted value; complete = λ s value is. rw is refl }

pub found_under_exact : {S A : Type 0} (step : Step) (wanted : Option A) → Exact {S = S} (λ s. under step (found wanted)) (λ s value. wanted ≡ Some value)
found_under_exact step wanted = record {
  sound = λ s value is. found_ok wanted value (under_ok step (found wanted) value is);
  complete = λ s value is. rw is refl;
}

object_sound : (d : Data) (nothing : Unit {0}) → form.is_object d ≡ Ok nothing → IsObject d nothing
unfolding form.is_object form.holds
object_sound (object ms) nothing is = (ms, refl)
object_sound null nothing is = absurd (cc)
object_sound (boolean b) nothing is = absurd (cc)
object_sound (number n) nothing is = absurd (cc)
object_sound (string s) nothing is = absurd (cc)
object_sound (array ds) nothing is = absurd (cc)

object_complete : (d : Data) (nothing : Unit {0}) → IsObject d nothing → form.is_object d ≡ Ok nothing
unfolding form.is_object form.holds
object_complete d nothing is = rw is.1 refl

pub objects_exact : Exact form.is_object IsObject
objects_exact = record { sound = object_sound; complete = object_complete }

pub data_read : (bytes : List ℕ) (d : Data) → IsUtf8 bytes → read bytes ≡ Some d → found (form.data_of bytes) ≡ Ok d
data_read bytes d valid reads = rw (is_utf8-from_IsUtf8 bytes valid, reads) refl

held_at : (bytes : List ℕ) (d : Data) (b : Bool) → is_utf8 bytes ≡ b → cond b (read bytes) None ≡ Some d → IsUtf8 bytes × (read bytes ≡ Some d)
held_at bytes d true is reads = (IsUtf8-from_is_utf8 bytes is, reads)
held_at bytes d false is reads = absurd (cc)

pub data_held : (bytes : List ℕ) (d : Data) → form.data_of bytes ≡ Some d → IsUtf8 bytes × (read bytes ≡ Some d)
data_held bytes d is = held_at bytes d (is_utf8 bytes) refl is

text_sound : (d : Data) (text : List ℕ) → form.text d ≡ Ok text → IsText d text
unfolding form.text
text_sound (string s) text is = cc
text_sound null text is = absurd (cc)
text_sound (boolean b) text is = absurd (cc)
text_sound (number n) text is = absurd (cc)
text_sound (array ds) text is = absurd (cc)
text_sound (object ms) text is = absurd (cc)

text_complete : (d : Data) (text : List ℕ) → IsText d text → form.text d ≡ Ok text
unfolding form.text
text_complete d text is = rw is refl

pub texts_exact : Exact form.text IsText
texts_exact = record { sound = text_sound; complete = text_complete }

truth_sound : (d : Data) (truth : Bool) → form.truth d ≡ Ok truth → IsTruth d truth
unfolding form.truth
truth_sound (boolean b) truth is = cc
truth_sound null truth is = absurd (cc)
truth_sound (string s) truth is = absurd (cc)
truth_sound (number n) truth is = absurd (cc)
truth_sound (array ds) truth is = absurd (cc)
truth_sound (object ms) truth is = absurd (cc)

truth_complete : (d : Data) (truth : Bool) → IsTruth d truth → form.truth d ≡ Ok truth
unfolding form.truth
truth_complete d truth is = rw is refl

pub truth_values_exact : Exact form.truth IsTruth
truth_values_exact = record { sound = truth_sound; complete = truth_complete }

module _ {A : Type 0} {part : Data → Reading A} {P : Data → A → Type 0} (exact : Exact part P) where
  field_sound : (key : List ℕ) (d : Data) (value : A) → form.field key part d ≡ Ok value → HasField key P d value
  unfolding form.field
  field_sound key d value is =
      let parts = next_ok (found (get key d)) part value (under_ok (Key key) (found (get key d) >>= part) value is) in
      (parts.0, found_ok (get key d) parts.0 parts.1, exact.sound parts.0 value parts.2)

  field_complete : (key : List ℕ) (d : Data) (value : A) → HasField key P d value → form.field key part d ≡ Ok value
  unfolding form.field
  field_complete key d value so = rw (so.1, exact.complete so.0 value so.2) refl

  pub fields_exact : (key : List ℕ) → Exact (form.field key part) (HasField key P)
  fields_exact key = record { sound = field_sound key; complete = field_complete key }

  items_sound : (place : ℕ) (ds : Items) (values : List A) → form.items part place ds ≡ Ok values → AreItems P ds values
  items_sound place no_items [] is = tt
  items_sound place no_items (value ∷ values) is = cc
  items_sound place (item d ds) values is =
      let parts = next_ok (under (Place place) (part d)) (λ v. form.items part (suc place) ds >>= (λ vs. Ok (v ∷ vs))) values is in
      let rest = next_ok (form.items part (suc place) ds) (λ vs. Ok (parts.0 ∷ vs)) values parts.2 in
      let one = exact.sound d parts.0 (under_ok (Place place) (part d) parts.0 parts.1) in
      let e : parts.0 ∷ rest.0 ≡ values = cc (rest.2) in
      subst (AreItems P (item d ds)) e (one, items_sound (suc place) ds rest.0 rest.1)

  items_complete : (place : ℕ) (ds : Items) (values : List A) → AreItems P ds values → form.items part place ds ≡ Ok values
  items_complete place no_items [] so = refl
  items_complete place no_items (value ∷ values) so = absurd so
  items_complete place (item d ds) [] so = absurd so
  items_complete place (item d ds) (value ∷ values) so =
      rw (exact.complete d value so.0, items_complete (suc place) ds values so.1) refl

  list_sound : (d : Data) (values : List A) → form.list part d ≡ Ok values → IsList P d values
  unfolding form.list
  list_sound (array ds) values is = (ds, refl, items_sound 0 ds values is)
  list_sound null values is = absurd (cc)
  list_sound (boolean b) values is = absurd (cc)
  list_sound (number n) values is = absurd (cc)
  list_sound (string s) values is = absurd (cc)
  list_sound (object ms) values is = absurd (cc)

  list_complete : (d : Data) (values : List A) → IsList P d values → form.list part d ≡ Ok values
  unfolding form.list
  list_complete d values so = rw so.1 (items_complete 0 so.0 values so.2)

  pub lists_exact : Exact (form.list part) (IsList P)
  lists_exact = record { sound = list_sound; complete = list_complete }

  members_sound : (ms : Members) (entries : List (List ℕ × A)) → form.members part ms ≡ Ok entries → AreMembers P ms entries
  members_sound no_members [] is = tt
  members_sound no_members (entry ∷ entries) is = cc
  members_sound (member key d ms) entries is =
      let parts = next_ok (under (Key key) (part d)) (λ v. form.members part ms >>= (λ vs. Ok ((key, v) ∷ vs))) entries is in
      let rest = next_ok (form.members part ms) (λ vs. Ok ((key, parts.0) ∷ vs)) entries parts.2 in
      let one = exact.sound d parts.0 (under_ok (Key key) (part d) parts.0 parts.1) in
      let e : (key, parts.0) ∷ rest.0 ≡ entries = cc (rest.2) in
      subst (AreMembers P (member key d ms)) e (refl, one, members_sound ms rest.0 rest.1)

  members_complete : (ms : Members) (entries : List (List ℕ × A)) → AreMembers P ms entries → form.members part ms ≡ Ok entries
  members_complete no_members [] so = refl
  members_complete no_members (entry ∷ entries) so = absurd so
  members_complete (member key d ms) [] so = absurd so
  members_complete (member key d ms) (entry ∷ entries) so =
      rw (exact.complete d entry.1 so.1, members_complete ms entries so.2, ← so.0) refl

  entries_sound : (d : Data) (entries : List (List ℕ × A)) → form.entries part d ≡ Ok entries → HasEntries P d entries
  unfolding form.entries
  entries_sound (object ms) entries is = (ms, refl, members_sound ms entries is)
  entries_sound null entries is = absurd (cc)
  entries_sound (boolean b) entries is = absurd (cc)
  entries_sound (number n) entries is = absurd (cc)
  entries_sound (string s) entries is = absurd (cc)
  entries_sound (array ds) entries is = absurd (cc)

  entries_complete : (d : Data) (entries : List (List ℕ × A)) → HasEntries P d entries → form.entries part d ≡ Ok entries
  unfolding form.entries
  entries_complete d entries so = rw so.1 (members_complete so.0 entries so.2)

  pub entries_exact : Exact (form.entries part) (HasEntries P)
  entries_exact = record { sound = entries_sound; complete = entries_complete }

  held_sound : (d : Data) → d ≢ null → (value : Option A) → form.if_present part (Some d) ≡ Ok value → MayHold P (Some d) value
  held_sound d other None is =
      let parts = next_ok (part d) (λ v. Ok (Some v)) None is in
      absurd (cc (parts.2))
  held_sound d other (Some value) is =
      let parts = next_ok (part d) (λ v. Ok (Some v)) (Some value) is in
      let e : parts.0 ≡ value = cc (parts.2) in
      (d, refl, other, subst (P d) e (exact.sound d parts.0 parts.1))

  present_sound : (o : Option Data) (value : Option A) → form.if_present part (form.present o) ≡ Ok value → MayHold P o value
  present_sound None None is = inl refl
  present_sound None (Some value) is = absurd (cc)
  present_sound (Some null) None is = inr refl
  present_sound (Some null) (Some value) is = absurd (cc)
  present_sound (Some (boolean b)) value is = held_sound (boolean b) (λ e. cc) value is
  present_sound (Some (number n)) value is = held_sound (number n) (λ e. cc) value is
  present_sound (Some (string s)) value is = held_sound (string s) (λ e. cc) value is
  present_sound (Some (array ds)) value is = held_sound (array ds) (λ e. cc) value is
  present_sound (Some (object ms)) value is = held_sound (object ms) (λ e. cc) value is

  present_held : (d : Data) → d ≢ null → form.present (Some d) ≡ Some d
  present_held null other = absurd (other refl)
  present_held (boolean b) other = refl
  present_held (number n) other = refl
  present_held (string s) other = refl
  present_held (array ds) other = refl
  present_held (object ms) other = refl

  present_complete : (o : Option Data) (value : Option A) → MayHold P o value → form.if_present part (form.present o) ≡ Ok value
  present_complete o None (inl e) = rw e refl
  present_complete o None (inr e) = rw e refl
  present_complete o (Some value) so =
      rw (so.1, present_held so.0 so.2, exact.complete so.0 value so.3) refl

  optional_sound : (key : List ℕ) (d : Data) (value : Option A) → form.optional key part d ≡ Ok value → MayHaveField key P d value
  unfolding form.optional
  optional_sound key d value is =
      present_sound (get key d) value (under_ok (Key key) (form.if_present part (form.present (get key d))) value is)

  optional_complete : (key : List ℕ) (d : Data) (value : Option A) → MayHaveField key P d value → form.optional key part d ≡ Ok value
  unfolding form.optional
  optional_complete key d value so = rw (present_complete (get key d) value so) refl

  pub optional_fields_exact : (key : List ℕ) → Exact (form.optional key part) (MayHaveField key P)
  optional_fields_exact key = record { sound = optional_sound key; complete = optional_complete key }

  whole_sound : (d : Data) (value : A) → form.whole part d ≡ Ok value → P d value
  unfolding form.whole
  whole_sound d value is = exact.sound d value (as_one_ok (part d) value is)

  whole_complete : (d : Data) (value : A) → P d value → form.whole part d ≡ Ok value
  unfolding form.whole
  whole_complete d value so = rw (exact.complete d value so) refl

  pub wholes_exact : Exact (form.whole part) P
  wholes_exact = record { sound = whole_sound; complete = whole_complete }

  body_sound : (bytes : List ℕ) (value : A) → form.body part bytes ≡ Ok value → IsBody P bytes value
  unfolding form.body
  body_sound bytes value is =
      let held = next_ok (found (form.data_of bytes)) (λ d. form.is_object d >>= (λ nothing. part d)) value is in
      let inner = next_ok (form.is_object held.0) (λ nothing. part held.0) value held.2 in
      let text = data_held bytes held.0 (found_ok (form.data_of bytes) held.0 held.1) in
      (held.0, text.0, text.1, objects_exact.sound held.0 inner.0 inner.1, exact.sound held.0 value inner.2)

  body_complete : (bytes : List ℕ) (value : A) → IsBody P bytes value → form.body part bytes ≡ Ok value
  unfolding form.body
  body_complete bytes value so =
      rw (data_read bytes so.0 so.1 so.2, objects_exact.complete so.0 tt so.3) (exact.complete so.0 value so.4)

  pub bodies_exact : Exact (form.body part) (IsBody P)
  bodies_exact = record { sound = body_sound; complete = body_complete }

within_some : (low high n value : ℕ) → form.within low high n ≡ Some value → (n ≡ value) × (low ≤ n) × (n ≤ high)
within_some low high n value is = within_at (nat_le low n) (nat_le n high) refl refl is
  where
    within_at : (above below : Bool) → nat_le low n ≡ above → nat_le n high ≡ below → cond (above && below) (Some n) None ≡ Some value → (n ≡ value) × (low ≤ n) × (n ≤ high)
    within_at true true above below is = (cc, grind (arith, nat_tests), grind (arith, nat_tests))
    within_at true false above below is = absurd (cc)
    within_at false below above other is = absurd (cc)

within_is : (low high n : ℕ) → low ≤ n → n ≤ high → form.within low high n ≡ Some n
within_is low high n above below = grind (arith, nat_tests)

whole_number_sound : (low high : ℕ) (d : Data) (n : ℕ) → form.whole_number low high d ≡ Ok n → IsWhole low high d n
unfolding form.whole_number
whole_number_sound low high (number (unsigned m)) n is =
    let so = within_some low high m n (found_ok (form.within low high m) n is) in
    let same : m ≡ n = so.0 in
    (ap (λ k. number (unsigned k)) same, subst (λ k. low ≤ k) same so.1, subst (λ k. k ≤ high) same so.2)
whole_number_sound low high (number (negative z)) n is = absurd (cc)
whole_number_sound low high (number (float x)) n is = absurd (cc)
whole_number_sound low high null n is = absurd (cc)
whole_number_sound low high (boolean b) n is = absurd (cc)
whole_number_sound low high (string s) n is = absurd (cc)
whole_number_sound low high (array ds) n is = absurd (cc)
whole_number_sound low high (object ms) n is = absurd (cc)

whole_number_complete : (low high : ℕ) (d : Data) (n : ℕ) → IsWhole low high d n → form.whole_number low high d ≡ Ok n
unfolding form.whole_number
whole_number_complete low high d n so = rw (so.0, within_is low high n so.1 so.2) refl

pub numbers_exact : (low high : ℕ) → Exact (form.whole_number low high) (IsWhole low high)
numbers_exact low high = record { sound = whole_number_sound low high; complete = whole_number_complete low high }

-- the value is tested for -1
minus : Data → Bool
minus d = form.is_minus_one (option_and_then as_i64 (as_number d))

unsigned_at : (n : ℕ) (b : Bool) → form.is_minus_one (cond b (Some (pos n)) None) ≡ false
unsigned_at n true = refl
unsigned_at n false = refl

minus_true : (d : Data) → minus d ≡ true → d ≡ number (negative (negsuc 0))
unfolding minus
minus_true (number (negative (negsuc zero))) is = refl
minus_true (number (negative (negsuc (suc n)))) is = absurd (cc)
minus_true (number (negative (pos n))) is = absurd (cc)
minus_true (number (unsigned n)) is = absurd (false≢true (sym (unsigned_at n (nat_lt n (2 ^ 63))) ∙ is))
minus_true (number (float x)) is = absurd (cc)
minus_true null is = absurd (cc)
minus_true (boolean b) is = absurd (cc)
minus_true (string s) is = absurd (cc)
minus_true (array ds) is = absurd (cc)
minus_true (object ms) is = absurd (cc)

minus_at : (d : Data) → d ≡ number (negative (negsuc 0)) → minus d ≡ true
unfolding minus
minus_at d is = rw is refl

minus_other : (d : Data) (b : Bool) → minus d ≡ b → d ≢ number (negative (negsuc 0)) → minus d ≡ false
minus_other d true is other = absurd (other (minus_true d is))
minus_other d false is other = is

module _ {A : Type 0} {part : Data → Reading A} {P : Data → A → Type 0} (exact : Exact part P) where
  either : Bool → Data → Reading (OrMinusOne A)
  either b d = cond b (Ok MinusOne) (part d >>= (λ value. Ok (Other value)))

  either_sound : (d : Data) (b : Bool) → minus d ≡ b → (value : OrMinusOne A) → either b d ≡ Ok value → IsOrMinusOne P d value
  unfolding either
  either_sound d true minus_is MinusOne is = minus_true d minus_is
  either_sound d true minus_is (Other value) is = absurd (cc)
  either_sound d false minus_is MinusOne is =
      let parts = next_ok (part d) (λ v. Ok (Other v)) MinusOne is in
      absurd (cc (parts.2))
  either_sound d false minus_is (Other value) is =
      let parts = next_ok (part d) (λ v. Ok (Other v)) (Other value) is in
      let e : parts.0 ≡ value = cc (parts.2) in
      (λ one. false≢true (sym minus_is ∙ minus_at d one), subst (P d) e (exact.sound d parts.0 parts.1))

  or_minus_one_sound : (d : Data) (value : OrMinusOne A) → form.or_minus_one part d ≡ Ok value → IsOrMinusOne P d value
  unfolding form.or_minus_one minus either
  or_minus_one_sound d value is = either_sound d (minus d) refl value is

  or_minus_one_complete : (d : Data) (value : OrMinusOne A) → IsOrMinusOne P d value → form.or_minus_one part d ≡ Ok value
  unfolding form.or_minus_one minus
  or_minus_one_complete d MinusOne so = rw so refl
  or_minus_one_complete d (Other value) so =
      let no : form.is_minus_one (option_and_then as_i64 (as_number d)) ≡ false = minus_other d (minus d) refl so.0 in
      rw (no, exact.complete d value so.1) refl

  pub numbers_or_minus_one_exact : Exact (form.or_minus_one part) (IsOrMinusOne P)
  numbers_or_minus_one_exact = record { sound = or_minus_one_sound; complete = or_minus_one_complete }

other_word : (xs ys : List ℕ) (b : Bool) → bytes_eq xs ys ≡ b → xs ≢ ys → bytes_eq xs ys ≡ false
other_word xs ys true is other = absurd (other ((bytes_eq-Decides xs ys).0 is))
other_word xs ys false is other = is

module _ {A : Type 0} where
  meaning_more : (b : Bool) (row : List ℕ × A) (o : Option (List ℕ × A)) → option_map (λ r. r.1) (cond b (Some row) o) ≡ cond b (Some row.1) (option_map (λ r. r.1) o)
  meaning_more true row o = refl
  meaning_more false row o = refl

  means_sound_at : (row : List ℕ × A) (rows : List (List ℕ × A)) (word : List ℕ) (value : A) (b : Bool) → bytes_eq row.0 word ≡ b → (form.meaning rows word ≡ Some value → Means rows word value)
      → cond b (Some row.1) (form.meaning rows word) ≡ Some value → Means (row ∷ rows) word value
  means_sound_at row rows word value true same later is = inl ((bytes_eq-Decides row.0 word).0 same, cc)
  means_sound_at row rows word value false same later is =
      inr (λ e. false≢true (sym same ∙ (bytes_eq-Decides row.0 word).1 e), later is)

  means_sound : (rows : List (List ℕ × A)) (word : List ℕ) (value : A) → form.meaning rows word ≡ Some value → Means rows word value
  means_sound [] word value is = cc
  means_sound (row ∷ rows) word value is =
      means_sound_at row rows word value (bytes_eq row.0 word) refl (means_sound rows word value)
      (sym (meaning_more (bytes_eq row.0 word) row _) ∙ is)

  means_complete : (rows : List (List ℕ × A)) (word : List ℕ) (value : A) → Means rows word value → form.meaning rows word ≡ Some value
  means_complete [] word value so = absurd so
  means_complete (row ∷ rows) word value (inl so) = rw ((bytes_eq-Decides row.0 word).1 so.0, so.1) refl
  means_complete (row ∷ rows) word value (inr so) =
      rw (other_word row.0 word (bytes_eq row.0 word) refl so.0) (means_complete rows word value so.1)

  one_of_sound : (rows : List (List ℕ × A)) (d : Data) (value : A) → form.one_of rows d ≡ Ok value → IsOneOf rows d value
  unfolding form.one_of
  one_of_sound rows d value is =
      let parts = next_ok (form.text d) (λ word. found (form.meaning rows word)) value is in
      (parts.0, text_sound d parts.0 parts.1, means_sound rows parts.0 value (found_ok (form.meaning rows parts.0) value parts.2))

  one_of_complete : (rows : List (List ℕ × A)) (d : Data) (value : A) → IsOneOf rows d value → form.one_of rows d ≡ Ok value
  unfolding form.one_of
  one_of_complete rows d value so = rw (text_complete d so.0 so.1, means_complete rows so.0 value so.2) refl

  pub words_exact : (rows : List (List ℕ × A)) → Exact (form.one_of rows) (IsOneOf rows)
  words_exact rows = record { sound = one_of_sound rows; complete = one_of_complete rows }

the_word : (word other : List ℕ) (nothing : Unit {0}) → Means ((word, tt) ∷ []) other nothing → word ≡ other
the_word word other nothing (inl so) = so.0
the_word word other nothing (inr so) = absurd so.1

fixed_sound : (word : List ℕ) (d : Data) (nothing : Unit {0}) → form.fixed word d ≡ Ok nothing → IsFixed word d nothing
unfolding form.fixed
fixed_sound word d nothing is =
    let so = one_of_sound ((word, tt) ∷ []) d nothing is in
    so.1 ∙ ap string (sym (the_word word so.0 nothing so.2))

fixed_complete : (word : List ℕ) (d : Data) (nothing : Unit {0}) → IsFixed word d nothing → form.fixed word d ≡ Ok nothing
unfolding form.fixed
fixed_complete word d nothing so = one_of_complete ((word, tt) ∷ []) d nothing (word, so, inl (refl, refl))

pub fixed_words_exact : (word : List ℕ) → Exact (form.fixed word) (IsFixed word)
fixed_words_exact word = record { sound = fixed_sound word; complete = fixed_complete word }
