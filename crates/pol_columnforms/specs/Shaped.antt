-- Forms of values that are made of others: those that no other makes have no form.
use Rattle.std.specs.Prelude.{◌≡◌, ℕ, List, [], ◌++◌, Some, None, refl}
use Rattle.std.proofs.Common.{ap, sym, subst, ◌∙◌}
use Rattle.pol_forms.specs.Agreement.{told, then_reads, then_some}
use Rattle.pol_forms.specs.Form.{AreBytes, Begins, Form}
use Rattle.pol_forms.specs.Forms.{no_fields}
use Rattle.pol_forms.specs.Reading.{Reading, ◌>>=◌, done}

module _ {A B : Type 0} (form : Form A) (of : A → B) (to : B → A) where
  -- a value that is made of what is told of it, where that has a form
  abbrev pub IsShaped : B → Type 0
  IsShaped value = form.holds (to value) × (of (to value) ≡ value)

  pub shaped_read_back : (value : B) (rest : List ℕ) → IsShaped value → (form.read >>= (λ found. done (of found))) (form.write (to value) ++ rest) ≡ Some (value, rest)
  shaped_read_back value rest so =
      then_reads (form.read (form.write (to value) ++ rest)) (λ found. done (of found)) (to value) rest (form.reads_back (to value) rest so.0)
      ∙ ap (λ (v : B). done v rest) so.1

  pub shaped_exact : ((value : A) → form.holds value → to (of value) ≡ value) → (bytes : List ℕ) (value : B) (rest : List ℕ) → AreBytes bytes
      → (form.read >>= (λ found. done (of found))) bytes ≡ Some (value, rest) → Begins (IsShaped value) (form.write (to value)) bytes rest
  shaped_exact back bytes value rest each is =
      let one = then_some (form.read bytes) (λ found. done (of found)) value rest is in
      let so = form.exact bytes one.0 one.1 each one.2 in
      let same : to (of one.0) ≡ one.0 = back one.0 so.held in
      told IsShaped (λ (v : B). form.write (to v)) bytes (of one.0) value one.1 rest one.3 (record {
        held = (subst form.holds (sym same) so.held, ap of same);
        cut = so.cut ∙ ap (λ (v : A). form.write v ++ one.1) (sym same);
      })

  abbrev pub shaped : ((value : A) → form.holds value → to (of value) ≡ value) → Form B
  shaped back = record {
    holds = IsShaped;
    write = λ value. form.write (to value);
    read = form.read >>= (λ value. done (of value));
    reads_back = shaped_read_back;
    exact = shaped_exact back;
  }

-- the one value of a type that is read of no bytes
abbrev pub always : {A : Type 0} → A → Form A
always value = shaped no_fields (λ nothing. value) (λ other. tt) (λ nothing held. refl)

-- no value
abbrev pub not_read : {A : Type 0} → List ℕ → Reading A
not_read bytes = None

pub never_exact : {A : Type 0} (bytes : List ℕ) (value : A) (rest : List ℕ) → AreBytes bytes → not_read bytes ≡ Some (value, rest) → Begins ⊥ [] bytes rest
never_exact bytes value rest each is = absurd (cc)

abbrev pub never : {A : Type 0} → Form A
never {A} = record {
  holds = λ value. ⊥;
  write = λ value. [];
  read = not_read;
  reads_back = λ value rest held. absurd held;
  exact = never_exact;
}
