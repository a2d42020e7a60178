-- What is written and what is read agree: lemmas for the forms that are made of others.
use Rattle.std.proofs.Common.{◌≡◌, ℕ, zero, suc, ◌+◌, ◌^◌, ◌<◌, ◌≤◌, Bool, true, false, cond, nat_eq, nat_lt, List, [], ◌∷◌, ◌++◌, length, take, drop, flat_map, find, Option, Some, None, refl, sym, ap, subst, ◌∙◌, inl, inr, append_assoc, arith}
use Rattle.std.specs.Int.{w32, w64, from_be_bytes, to_be_bytes}
use Rattle.std.specs.List.{AllByRecursion}
use Rattle.std.proofs.lemmas.Bool.{cases_lt, eqb-true, ltb-false, le-ltb}
use Rattle.std.proofs.lemmas.List.{take_at, drop_at, take-append-drop, length-append, length-take, get_or-drop, get_or-take, get_or_past}
use Rattle.std.proofs.lemmas.Nat.{be_bytes_4, be_bytes_8, from_be_bytes-to_be_bytes_4, from_be_bytes-to_be_bytes_8}
use Rattle.pol_forms.specs.Form.{AreBytes, Begins, Form}
use Rattle.pol_forms.specs.Reading.{Reading, and_then, ◌>>=◌, done, only_if, found, one_byte, front_of, times}

-- a list of bytes and what is cut from it
AreBytes-drop : (count : ℕ) (bytes : List ℕ) → AreBytes bytes → AreBytes (drop count bytes)
AreBytes-drop count bytes each i = rw get_or-drop (each (count + i))

AreBytes-take : (count : ℕ) (bytes : List ℕ) → AreBytes bytes → AreBytes (take count bytes)
AreBytes-take count bytes each i =
    elim (cases_lt i count) [
      | inl before ↦ rw (get_or-take count bytes i 0 before) (each i)
      | inr past ↦ rw (get_or_past (take count bytes) i 0 (omega (arith, length-take count bytes))) (omega arith)
    ]

AreBytes-back : (front rest bytes : List ℕ) → bytes ≡ front ++ rest → AreBytes bytes → AreBytes rest
AreBytes-back front rest bytes cut each =
    subst AreBytes (ap (λ (l : List ℕ). drop (length front) l) cut ∙ drop_at front rest (length front) refl) (AreBytes-drop (length front) bytes each)

AreBytes-front : (front rest bytes : List ℕ) → bytes ≡ front ++ rest → AreBytes bytes → AreBytes front
AreBytes-front front rest bytes cut each =
    subst AreBytes (ap (λ (l : List ℕ). take (length front) l) cut ∙ take_at front rest (length front) refl) (AreBytes-take (length front) bytes each)

-- what two readings tell where they are one
some_is : {A : Type 0} (x y : A) → Some x ≡ Some y → x ≡ y
some_is x y is = cc

pub parts_of : {A : Type 0} (made value : A) (left rest : List ℕ) → done made left ≡ done value rest → (made ≡ value) × (left ≡ rest)
parts_of {A} made value left rest is =
    let one : A × List ℕ = (made, left) in
    let other : A × List ℕ = (value, rest) in
    let both : one ≡ other = some_is one other is in
    (ap (λ (read : A × List ℕ). read.0) both, ap (λ (read : A × List ℕ). read.1) both)

-- what is said of the value that a chain made is said of the one that it tells
pub told : {A : Type 0} (holds : A → Type 0) (write : A → List ℕ) (bytes : List ℕ) (made value : A) (left rest : List ℕ) → done made left ≡ done value rest
    → Begins (holds made) (write made) bytes left → Begins (holds value) (write value) bytes rest
told {A} holds write bytes made value left rest is so =
    let same = parts_of made value left rest is in
    subst (λ (l : List ℕ). Begins (holds value) (write value) bytes l) same.1
    (subst (λ (v : A). Begins (holds v) (write v) bytes left) same.0 so)

-- a chain that makes a value has read one before, and one that goes on behind a value reads what stands there
pub then_some : {A B : Type 0} (reading : Reading A) (next : A → List ℕ → Reading B) (value : B) (rest : List ℕ) → and_then reading next ≡ Some (value, rest)
    → (first : A) × (between : List ℕ) × (reading ≡ Some (first, between)) × (next first between ≡ Some (value, rest))
then_some (Some read) next value rest is = (read.0, read.1, refl, is)
then_some None next value rest is = absurd (cc)

pub then_reads : {A B : Type 0} (reading : Reading A) (next : A → List ℕ → Reading B) (first : A) (between : List ℕ) → reading ≡ Some (first, between)
    → and_then reading next ≡ next first between
then_reads {A} reading next first between is = ap (λ (r : Reading A). and_then r next) is

-- so many bytes in front of others
pub front_reads_back : (front rest : List ℕ) → front_of (length front) (front ++ rest) ≡ Some (front, rest)
front_reads_back front rest =
    let long : nat_lt (length (front ++ rest)) (length front) ≡ false = le-ltb _ _ (omega (arith, length-append front rest)) in
    rw (long, take_at front rest (length front) refl, drop_at front rest (length front) refl) refl

front_tested : (test : Bool) (front rest made left : List ℕ) → cond test None (done made left) ≡ done front rest → (test ≡ false) × (done made left ≡ done front rest)
front_tested true front rest made left is = absurd (cc)
front_tested false front rest made left is = (refl, is)

pub front_exact : (count : ℕ) (bytes front rest : List ℕ) → front_of count bytes ≡ Some (front, rest) → Begins (length front ≡ count) front bytes rest
front_exact count bytes front rest is =
    let test = front_tested (nat_lt (length bytes) count) front rest (take count bytes) (drop count bytes) is in
    let enough : count ≤ length bytes = ltb-false _ _ test.0 in
    told (λ (l : List ℕ). length l ≡ count) (λ (l : List ℕ). l) bytes (take count bytes) front (drop count bytes) rest test.1 (record {
      held = omega (arith, length-take count bytes);
      cut = sym (take-append-drop count bytes);
    })

pub fixed_reads_back : (count : ℕ) (value rest : List ℕ) → length value ≡ count → front_of count (value ++ rest) ≡ Some (value, rest)
fixed_reads_back count value rest long = ap (λ (n : ℕ). front_of n (value ++ rest)) (sym long) ∙ front_reads_back value rest

-- no bytes
pub nothing_exact : (bytes : List ℕ) (value : Unit {0}) (rest : List ℕ) → AreBytes bytes → done tt bytes ≡ Some (value, rest) → Begins (Unit {0}) [] bytes rest
nothing_exact bytes value rest each is = record { held = tt; cut = (parts_of tt value bytes rest is).1 }

-- eight bytes and the number that they are
number_below : (bytes : List ℕ) → AreBytes bytes → from_be_bytes w64 bytes < 2 ^ 64
number_below bytes each = omega (arith, each 0, each 1, each 2, each 3, each 4, each 5, each 6, each 7)

abbrev pub number_read : List ℕ → Reading ℕ
number_read = front_of 8 >>= (λ digits. done (from_be_bytes w64 digits))

pub number_reads_back : (number : ℕ) (rest : List ℕ) → number < 2 ^ 64 → number_read (to_be_bytes w64 number ++ rest) ≡ Some (number, rest)
number_reads_back number rest small =
    then_reads (front_of 8 (to_be_bytes w64 number ++ rest)) (λ digits. done (from_be_bytes w64 digits)) (to_be_bytes w64 number) rest (front_reads_back (to_be_bytes w64 number) rest)
    ∙ ap (λ (n : ℕ). done n rest) (from_be_bytes-to_be_bytes_8 number small)

pub number_exact : (bytes : List ℕ) (number : ℕ) (rest : List ℕ) → AreBytes bytes → number_read bytes ≡ Some (number, rest) → Begins (number < 2 ^ 64) (to_be_bytes w64 number) bytes rest
number_exact bytes number rest each is =
    let one = then_some (front_of 8 bytes) (λ digits. done (from_be_bytes w64 digits)) number rest is in
    let front = front_exact 8 bytes one.0 one.1 one.2 in
    let digits : AreBytes one.0 = AreBytes-front one.0 one.1 bytes front.cut each in
    told (λ (n : ℕ). n < 2 ^ 64) (λ (n : ℕ). to_be_bytes w64 n) bytes (from_be_bytes w64 one.0) number one.1 rest one.3 (record {
      held = number_below one.0 digits;
      cut = front.cut ∙ ap (λ (l : List ℕ). l ++ one.1) (sym (be_bytes_8 one.0 (from_be_bytes w64 one.0) front.held digits refl));
    })

-- the same of four bytes
short_below : (bytes : List ℕ) → AreBytes bytes → from_be_bytes w32 bytes < 2 ^ 32
short_below bytes each = omega (arith, each 0, each 1, each 2, each 3)

abbrev pub short_read : List ℕ → Reading ℕ
short_read = front_of 4 >>= (λ digits. done (from_be_bytes w32 digits))

pub short_reads_back : (number : ℕ) (rest : List ℕ) → number < 2 ^ 32 → short_read (to_be_bytes w32 number ++ rest) ≡ Some (number, rest)
short_reads_back number rest small =
    then_reads (front_of 4 (to_be_bytes w32 number ++ rest)) (λ digits. done (from_be_bytes w32 digits)) (to_be_bytes w32 number) rest (front_reads_back (to_be_bytes w32 number) rest)
    ∙ ap (λ (n : ℕ). done n rest) (from_be_bytes-to_be_bytes_4 number small)

pub short_exact : (bytes : List ℕ) (number : ℕ) (rest : List ℕ) → AreBytes bytes → short_read bytes ≡ Some (number, rest) → Begins (number < 2 ^ 32) (to_be_bytes w32 number) bytes rest
short_exact bytes number rest each is =
    let one = then_some (front_of 4 bytes) (λ digits. done (from_be_bytes w32 digits)) number rest is in
    let front = front_exact 4 bytes one.0 one.1 one.2 in
    let digits : AreBytes one.0 = AreBytes-front one.0 one.1 bytes front.cut each in
    told (λ (n : ℕ). n < 2 ^ 32) (λ (n : ℕ). to_be_bytes w32 n) bytes (from_be_bytes w32 one.0) number one.1 rest one.3 (record {
      held = short_below one.0 digits;
      cut = front.cut ∙ ap (λ (l : List ℕ). l ++ one.1) (sym (be_bytes_4 one.0 (from_be_bytes w32 one.0) front.held digits refl));
    })

-- what is written of a part, and what is written behind it
module _ {A : Type 0} (form : Form A) where
  pub next_bytes : (bytes : List ℕ) (value : A) (rest : List ℕ) → AreBytes bytes → Begins (form.holds value) (form.write value) bytes rest → AreBytes rest
  next_bytes bytes value rest each so = AreBytes-back (form.write value) rest bytes so.cut each

  -- a value that stands for another
  module _ {B : Type 0} (of : A → B) (to : B → A) where
    pub mapped_reads_back : ((value : B) → of (to value) ≡ value) → (value : B) (rest : List ℕ) → form.holds (to value) → (form.read >>= (λ found. done (of found))) (form.write (to value) ++ rest) ≡ Some (value, rest)
    mapped_reads_back there value rest held =
        then_reads (form.read (form.write (to value) ++ rest)) (λ found. done (of found)) (to value) rest (form.reads_back (to value) rest held)
        ∙ ap (λ (v : B). done v rest) (there value)

    pub mapped_exact : ((value : A) → to (of value) ≡ value) → (bytes : List ℕ) (value : B) (rest : List ℕ) → AreBytes bytes → (form.read >>= (λ found. done (of found))) bytes ≡ Some (value, rest)
        → Begins (form.holds (to value)) (form.write (to value)) bytes rest
    mapped_exact back bytes value rest each is =
        let one = then_some (form.read bytes) (λ found. done (of found)) value rest is in
        told (λ (v : B). form.holds (to v)) (λ (v : B). form.write (to v)) bytes (of one.0) value one.1 rest one.3
        (subst (λ (v : A). Begins (form.holds v) (form.write v) bytes one.1) (sym (back one.0)) (form.exact bytes one.0 one.1 each one.2))

  -- a value that a rule tests
  module _ (IsRight : A → Type 0) (test : A → Bool) where
    pub ruled_reads_back : ((value : A) → IsRight value → test value ≡ true) → (value : A) (rest : List ℕ) → form.holds value × IsRight value
        → (form.read >>= (λ found. only_if (test found) found)) (form.write value ++ rest) ≡ Some (value, rest)
    ruled_reads_back passes value rest so =
        then_reads (form.read (form.write value ++ rest)) (λ found. only_if (test found) found) value rest (form.reads_back value rest so.0)
        ∙ ap (λ (b : Bool). only_if b value rest) (passes value so.1)

    passed : (b : Bool) (made value : A) (left rest : List ℕ) → only_if b made left ≡ Some (value, rest) → (b ≡ true) × (done made left ≡ done value rest)
    passed true made value left rest is = (refl, is)
    passed false made value left rest is = absurd (cc)

    pub ruled_exact : ((value : A) → form.holds value → test value ≡ true → IsRight value) → (bytes : List ℕ) (value : A) (rest : List ℕ) → AreBytes bytes
        → (form.read >>= (λ found. only_if (test found) found)) bytes ≡ Some (value, rest) → Begins (form.holds value × IsRight value) (form.write value) bytes rest
    ruled_exact right bytes value rest each is =
        let one = then_some (form.read bytes) (λ found. only_if (test found) found) value rest is in
        let so = form.exact bytes one.0 one.1 each one.2 in
        let kept = passed (test one.0) one.0 value one.1 rest one.3 in
        told (λ (v : A). form.holds v × IsRight v) form.write bytes one.0 value one.1 rest kept.1
        (record { held = (so.held, right one.0 so.held kept.0); cut = so.cut })

  -- so many values in front of other bytes
  pub times_read_back : (values : List A) (rest : List ℕ) → AllByRecursion form.holds values → times form.read (length values) (flat_map form.write values ++ rest) ≡ Some (values, rest)
  times_read_back [] rest each = refl
  times_read_back (value ∷ values) rest each =
      ap (λ (l : List ℕ). times form.read (suc (length values)) l) (append_assoc (form.write value) (flat_map form.write values) rest)
      ∙ then_reads (form.read (form.write value ++ (flat_map form.write values ++ rest))) (λ v. times form.read (length values) >>= (λ vs. done (v ∷ vs))) value (flat_map form.write values ++ rest) (form.reads_back value (flat_map form.write values ++ rest) each.0)
      ∙ then_reads (times form.read (length values) (flat_map form.write values ++ rest)) (λ vs. done (value ∷ vs)) values rest (times_read_back values rest each.1)

  -- what is known of values that were read so
  abbrev pub AreRead : ℕ → List A → Type 0
  AreRead count values = (length values ≡ count) × AllByRecursion form.holds values

  pub times_exact : (count : ℕ) (bytes : List ℕ) (values : List A) (rest : List ℕ) → AreBytes bytes → times form.read count bytes ≡ Some (values, rest)
      → Begins (AreRead count values) (flat_map form.write values) bytes rest
  times_exact zero bytes values rest each is =
      told (AreRead zero) (flat_map form.write) bytes [] values bytes rest is (record { held = (refl, tt); cut = refl })
  times_exact (suc count) bytes values rest each is =
      let one = then_some (form.read bytes) (λ v. times form.read count >>= (λ vs. done (v ∷ vs))) values rest is in
      let two = then_some (times form.read count one.1) (λ vs. done (one.0 ∷ vs)) values rest one.3 in
      let first = form.exact bytes one.0 one.1 each one.2 in
      let others = times_exact count one.1 two.0 two.1 (next_bytes bytes one.0 one.1 each first) two.2 in
      told (AreRead (suc count)) (flat_map form.write) bytes (one.0 ∷ two.0) values two.1 rest two.3 (record {
        held = (ap suc others.held.0, (first.held, others.held.1));
        cut = first.cut ∙ ap (λ (l : List ℕ). form.write one.0 ++ l) others.cut ∙ sym (append_assoc (form.write one.0) (flat_map form.write two.0) two.1);
      })

-- one value behind another
module _ {A B : Type 0} (first : Form A) (second : Form B) where
  abbrev pub both_read : List ℕ → Reading (A × B)
  both_read = first.read >>= (λ one. second.read >>= (λ two. done (one, two)))

  pub both_read_back : (value : A × B) (rest : List ℕ) → first.holds value.0 × second.holds value.1 → both_read (first.write value.0 ++ second.write value.1 ++ rest) ≡ Some (value, rest)
  both_read_back value rest so =
      ap both_read (append_assoc (first.write value.0) (second.write value.1) rest)
      ∙ then_reads (first.read (first.write value.0 ++ (second.write value.1 ++ rest))) (λ one. second.read >>= (λ two. done (one, two))) value.0 (second.write value.1 ++ rest) (first.reads_back value.0 (second.write value.1 ++ rest) so.0)
      ∙ then_reads (second.read (second.write value.1 ++ rest)) (λ two. done (value.0, two)) value.1 rest (second.reads_back value.1 rest so.1)

  pub both_exact : (bytes : List ℕ) (value : A × B) (rest : List ℕ) → AreBytes bytes → both_read bytes ≡ Some (value, rest) → Begins (first.holds value.0 × second.holds value.1) (first.write value.0 ++ second.write value.1) bytes rest
  both_exact bytes value rest each is =
      let one = then_some (first.read bytes) (λ x. second.read >>= (λ y. done (x, y))) value rest is in
      let two = then_some (second.read one.1) (λ y. done (one.0, y)) value rest one.3 in
      let front = first.exact bytes one.0 one.1 each one.2 in
      let back = second.exact one.1 two.0 two.1 (next_bytes first bytes one.0 one.1 each front) two.2 in
      told (λ (v : A × B). first.holds v.0 × second.holds v.1) (λ (v : A × B). first.write v.0 ++ second.write v.1) bytes (one.0, two.0) value two.1 rest two.3 (record {
        held = (front.held, back.held);
        cut = front.cut ∙ ap (λ (l : List ℕ). first.write one.0 ++ l) back.cut ∙ sym (append_assoc (first.write one.0) (second.write two.0) two.1);
      })

-- a number of members and the members
module _ {A : Type 0} (form : Form A) where
  abbrev pub list_read : List ℕ → Reading (List A)
  list_read = number_read >>= times form.read

  abbrev pub list_written : List A → List ℕ
  list_written values = to_be_bytes w64 (length values) ++ flat_map form.write values

  abbrev pub IsListed : List A → Type 0
  IsListed values = (length values < 2 ^ 64) × AllByRecursion form.holds values

  pub list_reads_back : (values : List A) (rest : List ℕ) → IsListed values → list_read (list_written values ++ rest) ≡ Some (values, rest)
  list_reads_back values rest so =
      ap list_read (append_assoc (to_be_bytes w64 (length values)) (flat_map form.write values) rest)
      ∙ then_reads (number_read (to_be_bytes w64 (length values) ++ (flat_map form.write values ++ rest))) (times form.read) (length values) (flat_map form.write values ++ rest) (number_reads_back (length values) (flat_map form.write values ++ rest) so.0)
      ∙ times_read_back form values rest so.1

  pub list_exact : (bytes : List ℕ) (values : List A) (rest : List ℕ) → AreBytes bytes → list_read bytes ≡ Some (values, rest) → Begins (IsListed values) (list_written values) bytes rest
  list_exact bytes values rest each is =
      let one = then_some (number_read bytes) (times form.read) values rest is in
      let count = number_exact bytes one.0 one.1 each one.2 in
      let members = times_exact form one.0 one.1 values rest (AreBytes-back (to_be_bytes w64 one.0) one.1 bytes count.cut each) one.3 in
      let same : one.0 ≡ length values = sym members.held.0 in
      record {
        held = (subst (λ (n : ℕ). n < 2 ^ 64) same count.held, members.held.1);
        cut = count.cut
            ∙ ap (λ (l : List ℕ). to_be_bytes w64 one.0 ++ l) members.cut
            ∙ ap (λ (n : ℕ). to_be_bytes w64 n ++ (flat_map form.write values ++ rest)) same
            ∙ sym (append_assoc (to_be_bytes w64 (length values)) (flat_map form.write values) rest);
      }

-- a number of bytes and the bytes
abbrev pub bytes_read : List ℕ → Reading (List ℕ)
bytes_read = number_read >>= front_of

abbrev pub bytes_written : List ℕ → List ℕ
bytes_written bytes = to_be_bytes w64 (length bytes) ++ bytes

pub bytes_read_back : (value rest : List ℕ) → length value < 2 ^ 64 → bytes_read (bytes_written value ++ rest) ≡ Some (value, rest)
bytes_read_back value rest short =
    ap bytes_read (append_assoc (to_be_bytes w64 (length value)) value rest)
    ∙ then_reads (number_read (to_be_bytes w64 (length value) ++ (value ++ rest))) front_of (length value) (value ++ rest) (number_reads_back (length value) (value ++ rest) short)
    ∙ front_reads_back value rest

pub bytes_exact : (bytes value rest : List ℕ) → AreBytes bytes → bytes_read bytes ≡ Some (value, rest) → Begins (length value < 2 ^ 64) (bytes_written value) bytes rest
bytes_exact bytes value rest each is =
    let one = then_some (number_read bytes) front_of value rest is in
    let count = number_exact bytes one.0 one.1 each one.2 in
    let front = front_exact one.0 one.1 value rest one.3 in
    let same : one.0 ≡ length value = sym front.held in
    record {
      held = subst (λ (n : ℕ). n < 2 ^ 64) same count.held;
      cut = count.cut
          ∙ ap (λ (l : List ℕ). to_be_bytes w64 one.0 ++ l) front.cut
          ∙ ap (λ (n : ℕ). to_be_bytes w64 n ++ (value ++ rest)) same
          ∙ sym (append_assoc (to_be_bytes w64 (length value)) value rest);
    }

-- one of a list of values, told by its number
module _ {A : Type 0} (all : List A) (number : A → ℕ) where
  abbrev pub numbered : ℕ → Option A
  numbered place = find (λ kept. nat_eq (number kept) place) all

  abbrev pub numbered_read : List ℕ → Reading A
  numbered_read = one_byte >>= (λ place. found (numbered place))

  pub numbered_reads_back : ((value : A) → numbered (number value) ≡ Some value) → (value : A) (rest : List ℕ) → numbered_read (number value ∷ rest) ≡ Some (value, rest)
  numbered_reads_back known value rest = ap (λ (o : Option A). found o rest) (known value)

  found_is : (o : Option A) (value : A) (left rest : List ℕ) → found o left ≡ Some (value, rest) → (o ≡ Some value) × (left ≡ rest)
  found_is (Some made) value left rest is = let same = parts_of made value left rest is in (ap Some same.0, same.1)
  found_is None value left rest is = absurd (cc)

  found_passes : (test : A → Bool) (these : List A) (value : A) → find test these ≡ Some value → test value ≡ true
  found_passes test [] value is = absurd (cc)
  found_passes test (first ∷ these) value is = passes_at (test first) refl (found_passes test these value) is
    where
      passes_at : (b : Bool) → test first ≡ b → (find test these ≡ Some value → test value ≡ true) → cond b (Some first) (find test these) ≡ Some value → test value ≡ true
      passes_at true passes later here = ap test (sym (some_is first value here)) ∙ passes
      passes_at false passes later here = later here

  pub numbered_exact : (bytes : List ℕ) (value : A) (rest : List ℕ) → numbered_read bytes ≡ Some (value, rest) → Begins (Unit {0}) (number value ∷ []) bytes rest
  numbered_exact [] value rest is = absurd (cc)
  numbered_exact (place ∷ bytes) value rest is =
      let one = found_is (numbered place) value bytes rest is in
      let same : number value ≡ place = eqb-true (number value) place (found_passes (λ kept. nat_eq (number kept) place) all value one.0) in
      record { held = tt; cut = λ i. sym same i ∷ one.1 i }
