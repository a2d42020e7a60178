-- The forms of numbers, bytes, texts and lists, and what makes a form of others.
use Rattle.std.specs.Prelude.{◌≡◌, ◌<◌, ◌^◌, ℕ, Bool, true, List, [], ◌∷◌, ◌++◌, length, find, nat_eq, Some, ⊤, IsUtf8, refl}
use Rattle.std.specs.Int.{w32, w64, to_be_bytes}
use Rattle.std.specs.Str.{is_utf8}
use Rattle.std.proofs.lemmas.Str.{is_utf8-from_IsUtf8, IsUtf8-from_is_utf8}
use Rattle.pol_forms.specs.Agreement as agree
use Rattle.pol_forms.specs.Form.{Form}
use Rattle.pol_forms.specs.Reading.{◌>>=◌, done, only_if, front_of}

-- no bytes, for the fields of a variant that has none
abbrev pub no_fields : Form ⊤
no_fields = record {
  holds = λ nothing. ⊤;
  write = λ nothing. [];
  read = done tt;
  reads_back = λ nothing rest held. refl;
  exact = agree.nothing_exact;
}

-- a number of 64 bits: eight bytes, most significant first
unfoldable pub number : Form ℕ
number = record {
  holds = λ n. n < 2 ^ 64;
  write = λ n. to_be_bytes w64 n;
  read = agree.number_read;
  reads_back = agree.number_reads_back;
  exact = agree.number_exact;
}

-- a number of 32 bits: four bytes, most significant first
unfoldable pub short_number : Form ℕ
short_number = record {
  holds = λ n. n < 2 ^ 32;
  write = λ n. to_be_bytes w32 n;
  read = agree.short_read;
  reads_back = agree.short_reads_back;
  exact = agree.short_exact;
}

-- so many bytes as they are
unfoldable pub bytes_of : ℕ → Form (List ℕ)
bytes_of count = record {
  holds = λ bytes. length bytes ≡ count;
  write = λ bytes. bytes;
  read = front_of count;
  reads_back = agree.fixed_reads_back count;
  exact = λ bytes value rest each. agree.front_exact count bytes value rest;
}

-- any bytes: their number, and they
unfoldable pub byte_string : Form (List ℕ)
byte_string = record {
  holds = λ bytes. length bytes < 2 ^ 64;
  write = agree.bytes_written;
  read = agree.bytes_read;
  reads_back = agree.bytes_read_back;
  exact = agree.bytes_exact;
}

-- a value of another form that a rule tests
abbrev pub ruled : {A : Type 0} (form : Form A) (IsRight : A → Type 0) (test : A → Bool)
    → ((value : A) → form.holds value → test value ≡ true → IsRight value) → ((value : A) → IsRight value → test value ≡ true) → Form A
ruled form IsRight test right passes = record {
  holds = λ value. form.holds value × IsRight value;
  write = form.write;
  read = form.read >>= (λ value. only_if (test value) value);
  reads_back = agree.ruled_reads_back form IsRight test passes;
  exact = agree.ruled_exact form IsRight test right;
}

-- a value that stands for another, and the other way round: a struct for its fields
abbrev pub mapped : {A B : Type 0} (form : Form A) (of : A → B) (to : B → A) → ((value : B) → of (to value) ≡ value) → ((value : A) → to (of value) ≡ value) → Form B
mapped form of to there back = record {
  holds = λ value. form.holds (to value);
  write = λ value. form.write (to value);
  read = form.read >>= (λ value. done (of value));
  reads_back = agree.mapped_reads_back form of to there;
  exact = agree.mapped_exact form of to back;
}

-- one value behind another
infixr 15 ◌&◌
abbrev pub ◌&◌ : {A B : Type 0} → Form A → Form B → Form (A × B)
first & second = record {
  holds = λ value. first.holds value.0 × second.holds value.1;
  write = λ value. first.write value.0 ++ second.write value.1;
  read = agree.both_read first second;
  reads_back = agree.both_read_back first second;
  exact = agree.both_exact first second;
}

-- a list: the number of its members, and they
unfoldable pub list : {A : Type 0} → Form A → Form (List A)
list form = record {
  holds = agree.IsListed form;
  write = agree.list_written form;
  read = agree.list_read form;
  reads_back = agree.list_reads_back form;
  exact = agree.list_exact form;
}

-- a text: bytes that are UTF-8
unfoldable pub text : Form (List ℕ)
text = ruled byte_string IsUtf8 is_utf8 (λ value held passes. IsUtf8-from_is_utf8 value passes) (λ value right. is_utf8-from_IsUtf8 value right)

-- one of a list of values: one byte, its number
abbrev pub numbered : {A : Type 0} (all : List A) (number_of : A → ℕ) → ((value : A) → find (λ kept. nat_eq (number_of kept) (number_of value)) all ≡ Some value) → Form A
numbered all number_of known = record {
  holds = λ value. ⊤;
  write = λ value. number_of value ∷ [];
  read = agree.numbered_read all number_of;
  reads_back = λ value rest held. agree.numbered_reads_back all number_of known value rest;
  exact = λ bytes value rest each. agree.numbered_exact all number_of bytes value rest;
}
