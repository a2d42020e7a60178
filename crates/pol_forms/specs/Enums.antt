-- Forms of enums: one byte, the place of the variant, and its fields. An enum is given by what is written of each of
-- its values and by the list of its variants, each with its place, what makes it of its fields, and their form.
use Rattle.std.proofs.Common.{◌≡◌, ◌≢◌, ℕ, suc, Bool, true, false, cond, nat_eq, List, [], ◌∷◌, ◌++◌, Option, Some, None, refl, sym, ap, subst}
use Rattle.std.specs.Prelude.{if◌then◌else◌, ⊤}
use Rattle.std.specs.List.{AllByRecursion}
use Rattle.std.proofs.lemmas.Bool.{eqb-true}
use Rattle.pol_forms.specs.Agreement.{told, then_some, then_reads}
use Rattle.pol_forms.specs.Form.{AreBytes, Begins, Form}
use Rattle.pol_forms.specs.Forms.{no_fields}
use Rattle.pol_forms.specs.Reading.{Reading, ◌>>=◌, done, one_byte}

-- what is written of a value, and whether it keeps its type's rules
pub record Written : Type 1 where
  pub holds : Type 0
  pub bytes : List ℕ

-- the same of a variant with these fields at this place
abbrev pub written_as : {A : Type 0} → ℕ → Form A → A → Written
written_as place form fields = record { holds = form.holds fields; bytes = place ∷ form.write fields }

-- bytes begin with what is written so
abbrev pub BeginsSo : Written → List ℕ → List ℕ → Type 0
BeginsSo written bytes rest = Begins written.holds written.bytes bytes rest

-- a variant of the enum of which this is written: its place, and what is read of its fields
pub record Variant {E : Type 0} (written : E → Written) : Type 0 where
  pub place : ℕ
  pub read : List ℕ → Reading E
  pub exact : (bytes : List ℕ) (value : E) (rest : List ℕ) → AreBytes bytes → read bytes ≡ Some (value, rest) → BeginsSo (written value) (place ∷ bytes) rest

-- the fields of a variant, and what makes it of them
abbrev pub made : {A E : Type 0} → (A → E) → Form A → List ℕ → Reading E
made make form = form.read >>= (λ fields. done (make fields))

pub made_read_back : {A E : Type 0} (make : A → E) (form : Form A) (fields : A) (rest : List ℕ) → form.holds fields → made make form (form.write fields ++ rest) ≡ Some (make fields, rest)
made_read_back make form fields rest held =
    then_reads (form.read (form.write fields ++ rest)) (λ found. done (make found)) fields rest (form.reads_back fields rest held)

pub made_exact : {A E : Type 0} (written : E → Written) (place : ℕ) (make : A → E) (form : Form A) → ((fields : A) → written (make fields) ≡ written_as place form fields)
    → (bytes : List ℕ) (value : E) (rest : List ℕ) → AreBytes bytes → made make form bytes ≡ Some (value, rest) → BeginsSo (written value) (place ∷ bytes) rest
made_exact written place make form so bytes value rest each is =
    let one = then_some (form.read bytes) (λ found. done (make found)) value rest is in
    let fields = form.exact bytes one.0 one.1 each one.2 in
    let stands : BeginsSo (written_as place form one.0) (place ∷ bytes) one.1 = record {
      held = fields.held;
      cut = ap (λ (l : List ℕ). place ∷ l) fields.cut;
    } in
    told (λ v. (written v).holds) (λ v. (written v).bytes) (place ∷ bytes) (make one.0) value one.1 rest one.3
    (subst (λ (w : Written). BeginsSo w (place ∷ bytes) one.1) (sym (so one.0)) stands)

abbrev pub case_of : {A E : Type 0} {written : E → Written} (place : ℕ) (make : A → E) (form : Form A) → ((fields : A) → written (make fields) ≡ written_as place form fields) → Variant written
case_of {A} {E} {written} place make form so = record {
  place = place;
  read = made make form;
  exact = made_exact written place make form so;
}

-- the variant of a place
abbrev pub variant_at : {E : Type 0} {written : E → Written} → List (Variant written) → ℕ → List ℕ → Reading E
variant_at [] place bytes = None
variant_at (one ∷ variants) place bytes = if nat_eq place one.place then one.read bytes else variant_at variants place bytes

abbrev pub enum_read : {E : Type 0} {written : E → Written} → List (Variant written) → List ℕ → Reading E
enum_read variants = one_byte >>= variant_at variants

passed_over : {E : Type 0} {written : E → Written} (one : Variant written) (variants : List (Variant written)) (place : ℕ) (bytes : List ℕ) → place ≢ one.place
    → variant_at variants place bytes ≡ None → (here : Bool) → nat_eq place one.place ≡ here → cond here (one.read bytes) (variant_at variants place bytes) ≡ None
passed_over one variants place bytes other none true same = absurd (other (eqb-true place one.place same))
passed_over one variants place bytes other none false same = none

-- no variant has the place
pub no_variant : {E : Type 0} {written : E → Written} (variants : List (Variant written)) (place : ℕ) (bytes : List ℕ) → AllByRecursion (λ one. place ≢ one.place) variants
    → variant_at variants place bytes ≡ None
no_variant [] place bytes other = refl
no_variant (one ∷ variants) place bytes other =
    passed_over one variants place bytes other.0 (no_variant variants place bytes other.1) (nat_eq place one.place) refl

chosen : {E : Type 0} {written : E → Written} (one : Variant written) (variants : List (Variant written)) (place : ℕ) (bytes : List ℕ) (value : E) (rest : List ℕ) → AreBytes bytes
    → (variant_at variants place bytes ≡ Some (value, rest) → BeginsSo (written value) (place ∷ bytes) rest)
    → (here : Bool) → nat_eq place one.place ≡ here → cond here (one.read bytes) (variant_at variants place bytes) ≡ Some (value, rest)
    → BeginsSo (written value) (place ∷ bytes) rest
chosen {E} {written} one variants place bytes value rest each later true same is =
    subst (λ (n : ℕ). BeginsSo (written value) (n ∷ bytes) rest) (sym (eqb-true place one.place same)) (one.exact bytes value rest each is)
chosen one variants place bytes value rest each later false same is = later is

variant_exact : {E : Type 0} {written : E → Written} (variants : List (Variant written)) (place : ℕ) (bytes : List ℕ) (value : E) (rest : List ℕ) → AreBytes bytes
    → variant_at variants place bytes ≡ Some (value, rest) → BeginsSo (written value) (place ∷ bytes) rest
variant_exact [] place bytes value rest each is = absurd (cc)
variant_exact (one ∷ variants) place bytes value rest each is =
    chosen one variants place bytes value rest each (variant_exact variants place bytes value rest each) (nat_eq place one.place) refl is

pub enum_exact : {E : Type 0} (written : E → Written) (variants : List (Variant written)) (bytes : List ℕ) (value : E) (rest : List ℕ) → AreBytes bytes
    → enum_read variants bytes ≡ Some (value, rest) → BeginsSo (written value) bytes rest
enum_exact written variants [] value rest each is = absurd (cc)
enum_exact written variants (place ∷ bytes) value rest each is =
    variant_exact variants place bytes value rest (λ i. each (suc i)) is

abbrev pub enum : {E : Type 0} (written : E → Written) (variants : List (Variant written))
    → ((value : E) (rest : List ℕ) → (written value).holds → enum_read variants ((written value).bytes ++ rest) ≡ Some (value, rest)) → Form E
enum written variants read_back = record {
  holds = λ value. (written value).holds;
  write = λ value. (written value).bytes;
  read = enum_read variants;
  reads_back = read_back;
  exact = enum_exact written variants;
}

-- a truth value: 0 or 1
abbrev truth_written : Bool → Written
truth_written false = written_as 0 no_fields tt
truth_written true = written_as 1 no_fields tt

abbrev truth_variants : List (Variant truth_written)
truth_variants = case_of 0 (λ fields. false) no_fields (λ fields. refl) ∷ case_of 1 (λ fields. true) no_fields (λ fields. refl) ∷ []

pub truth_read_back : (value : Bool) (rest : List ℕ) → (truth_written value).holds → enum_read truth_variants ((truth_written value).bytes ++ rest) ≡ Some (value, rest)
truth_read_back false rest held = made_read_back (λ fields. false) no_fields tt rest held
truth_read_back true rest held = made_read_back (λ fields. true) no_fields tt rest held

unfoldable pub truth : Form Bool
truth = enum truth_written truth_variants truth_read_back

-- a value that may be absent: 0, or 1 and the value
module _ {A : Type 0} (form : Form A) where
  abbrev optional_written : Option A → Written
  optional_written None = written_as 0 no_fields tt
  optional_written (Some value) = written_as 1 form value

  abbrev absent : ⊤ → Option A
  absent fields = None

  abbrev present : A → Option A
  present value = Some value

  abbrev optional_variants : List (Variant optional_written)
  optional_variants = case_of 0 absent no_fields (λ fields. refl) ∷ case_of 1 present form (λ value. refl) ∷ []

  pub optional_read_back : (value : Option A) (rest : List ℕ) → (optional_written value).holds → enum_read optional_variants ((optional_written value).bytes ++ rest) ≡ Some (value, rest)
  optional_read_back None rest held = made_read_back absent no_fields tt rest held
  optional_read_back (Some value) rest held = made_read_back present form value rest held

  unfoldable pub optional : Form (Option A)
  optional = enum optional_written optional_variants optional_read_back

-- a value that may be absent keeps a rule
abbrev pub IfPresent : {A : Type 0} → (A → Type 0) → Option A → Type 0
IfPresent rule None = ⊤
IfPresent rule (Some value) = rule value
