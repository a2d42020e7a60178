-- Forms written once: what a value of JSON (RFC 8259) is read as, the grammar of the same as a relation, and the proof
-- that the two agree. A form of an object is a chain of its parts, in the order in which they are tested.
use Rattle.std.specs.Prelude.{◌≡◌, ℕ, Bool, List, Option, Some, Ok, ⊤, is_some, if◌then◌else◌, MatchBool, true, false}
use Rattle.serde_json.specs.Data.{Data}
use Rattle.serde_json.specs.Find.{as_str}
use Rattle.pol_readers.specs.declared.minus_one.OrMinusOne.{OrMinusOne}
use Rattle.pol_readers.specs.declared.path.Step.TheVariants.{Key}
use Rattle.pol_readers.specs.Exactness as exactness
use Rattle.pol_readers.specs.Forms as form
use Rattle.pol_readers.specs.Grammar as grammar
use Rattle.pol_readers.specs.Grammar.{Exact, Then}
use Rattle.pol_readers.specs.Reading.{Reading, chain, found, under}

pub record Shape (A : Type 0) : Type 1 where
  pub read : Data → Reading A
  pub stands : Data → A → Type 0
  pub exact : Exact read stands

-- one part after another
infixl 10 ◌>>=◌
abbrev pub ◌>>=◌ : {A B : Type 0} → Shape A → (A → Shape B) → Shape B
first >>= next = record {
  read = chain first.read (λ value. (next value).read);
  stands = Then first.stands (λ value. (next value).stands);
  exact = exactness.then_exact first.exact (λ value. (next value).exact);
}

-- the end of a chain: the value that its parts make
abbrev pub done : {A : Type 0} → A → Shape A
done value = record { read = λ d. Ok value; stands = λ d other. other ≡ value; exact = exactness.done_exact value }

abbrev pub an_object : Shape ⊤
an_object = record { read = form.is_object; stands = grammar.IsObject; exact = exactness.objects_exact }

abbrev pub text : Shape (List ℕ)
text = record { read = form.text; stands = grammar.IsText; exact = exactness.texts_exact }

abbrev pub truth : Shape Bool
truth = record { read = form.truth; stands = grammar.IsTruth; exact = exactness.truth_values_exact }

abbrev pub whole_number : ℕ → ℕ → Shape ℕ
whole_number low high = record {
  read = form.whole_number low high;
  stands = grammar.IsWhole low high;
  exact = exactness.numbers_exact low high;
}

abbrev pub or_minus_one : {A : Type 0} → Shape A → Shape (OrMinusOne A)
or_minus_one shape = record {
  read = form.or_minus_one shape.read;
  stands = grammar.IsOrMinusOne shape.stands;
  exact = exactness.numbers_or_minus_one_exact shape.exact;
}

abbrev pub one_of : {A : Type 0} → List (List ℕ × A) → Shape A
one_of rows = record { read = form.one_of rows; stands = grammar.IsOneOf rows; exact = exactness.words_exact rows }

abbrev pub fixed : List ℕ → Shape ⊤
fixed word = record { read = form.fixed word; stands = grammar.IsFixed word; exact = exactness.fixed_words_exact word }

-- a value that there must be, whatever is read
abbrev pub one_found : {A : Type 0} → Option A → Shape A
one_found wanted = record {
  read = λ d. found wanted;
  stands = λ d value. wanted ≡ Some value;
  exact = exactness.found_exact wanted;
}

-- the same, where the member of a key is bad without it
abbrev pub found_at : {A : Type 0} → List ℕ → Option A → Shape A
found_at key wanted = record {
  read = λ d. under (Key key) (found wanted);
  stands = λ d value. wanted ≡ Some value;
  exact = exactness.found_under_exact (Key key) wanted;
}

-- a text that names a value
abbrev pub text_of : {A : Type 0} → (List ℕ → Option A) → Shape A
text_of value_of = text >>= (λ word. one_found (value_of word))

-- a rule that what was read must meet
abbrev pub rule : Bool → Shape ⊤
rule test = record { read = λ d. form.holds test; stands = λ d nothing. test ≡ true; exact = exactness.rules_exact test }

-- a rule that the member of a key must meet
abbrev pub holds_at : List ℕ → Bool → Shape ⊤
holds_at key test = record {
  read = λ d. under (Key key) (form.holds test);
  stands = λ d nothing. test ≡ true;
  exact = exactness.rules_under_exact (Key key) test;
}

abbrev pub field : {A : Type 0} → List ℕ → Shape A → Shape A
field key shape = record {
  read = form.field key shape.read;
  stands = grammar.HasField key shape.stands;
  exact = exactness.fields_exact shape.exact key;
}

abbrev pub optional : {A : Type 0} → List ℕ → Shape A → Shape (Option A)
optional key shape = record {
  read = form.optional key shape.read;
  stands = grammar.MayHaveField key shape.stands;
  exact = exactness.optional_fields_exact shape.exact key;
}

abbrev pub list : {A : Type 0} → Shape A → Shape (List A)
list shape = record { read = form.list shape.read; stands = grammar.IsList shape.stands; exact = exactness.lists_exact shape.exact }

abbrev pub entries : {A : Type 0} → Shape A → Shape (List (List ℕ × A))
entries shape = record {
  read = form.entries shape.read;
  stands = grammar.HasEntries shape.stands;
  exact = exactness.entries_exact shape.exact;
}

-- a value as one field, into which no path goes
abbrev pub whole : {A : Type 0} → Shape A → Shape A
whole shape = record { read = form.whole shape.read; stands = shape.stands; exact = exactness.wholes_exact shape.exact }

-- a text of one form, or another value of another form
choice_sound : {A : Type 0} (first second : Shape A) (test : Bool) (d : Data) (value : A)
    → (if test then first.read d else second.read d) ≡ Ok value → MatchBool test (first.stands d value) (second.stands d value)
choice_sound first second true d value is = first.exact.sound d value is
choice_sound first second false d value is = second.exact.sound d value is

choice_complete : {A : Type 0} (first second : Shape A) (test : Bool) (d : Data) (value : A)
    → MatchBool test (first.stands d value) (second.stands d value) → (if test then first.read d else second.read d) ≡ Ok value
choice_complete first second true d value so = first.exact.complete d value so
choice_complete first second false d value so = second.exact.complete d value so

pub choice_exact : {A : Type 0} (first second : Shape A)
    → Exact (λ d. if is_some (as_str d) then first.read d else second.read d) (λ d value. MatchBool (is_some (as_str d)) (first.stands d value) (second.stands d value))
choice_exact first second = record {
  sound = λ d. choice_sound first second (is_some (as_str d)) d;
  complete = λ d. choice_complete first second (is_some (as_str d)) d;
}

abbrev pub text_or : {A : Type 0} → Shape A → Shape A → Shape A
text_or first second = record {
  read = λ d. if is_some (as_str d) then first.read d else second.read d;
  stands = λ d value. MatchBool (is_some (as_str d)) (first.stands d value) (second.stands d value);
  exact = choice_exact first second;
}

-- a body of that form, which must be an object
abbrev pub body : {A : Type 0} → Shape A → List ℕ → Reading A
body shape = form.body shape.read
