-- The laws of forms follow from what each form keeps: what is written is read back, and what is read is what is written.
use Rattle.std.proofs.Common.{◌≡◌, ℕ, List, [], ◌∷◌, Some, None, Result, Ok, Err, IfOk, IfErr, sym, ap, ◌∙◌, append-nil}
use Rattle.pol_forms.specs.Agreement.{parts_of}
use Rattle.pol_forms.specs.Form.{AreBytes, Form, IsFormOf, ended, whole, with_none_left}
use Rattle.pol_forms.specs.Laws.{FormsTellValues, IsCutOnce, WholesAreExact}
use Rattle.pol_forms.specs.Reading.{Reading, done}
use Rattle.pol_forms.specs.Refused.{GivesAll, IsCodecRefusal}
use Rattle.pol_forms.specs.declared.refused.CodecRefused.{CodecRefused}
use Rattle.pol_forms.specs.declared.refused.CodecRefused.TheVariants.{NoForm, OutOfMemory}

some_is : {A : Type 0} (x y : A) → Some x ≡ Some y → x ≡ y
some_is x y is = cc

-- a reading of a whole text of bytes left nothing
none_left : {A : Type 0} (made : A) (left : List ℕ) (value : A) → with_none_left made left ≡ Some value → done made left ≡ done value []
none_left {A} made [] value is = ap (λ (v : A). done v []) (some_is made value is)
none_left made (byte ∷ left) value is = absurd (cc)

ended_some : {A : Type 0} (reading : Reading A) (value : A) → ended reading ≡ Some value → reading ≡ Some (value, [])
ended_some None value is = absurd (cc)
ended_some (Some read) value is = none_left read.0 read.1 value is

module _ {A : Type 0} (form : Form A) where
  pub cut_once : IsCutOnce form
  cut_once value other rest more held held_too same =
      parts_of value other rest more (sym (form.reads_back value rest held) ∙ ap form.read same ∙ form.reads_back other more held_too)

  -- the form of a value is read as it, with nothing left
  form_read : (bytes : List ℕ) (value : A) → IsFormOf form value bytes → form.read bytes ≡ Some (value, [])
  form_read bytes value so =
      ap form.read (sym so.1 ∙ sym (append-nil (form.write value))) ∙ form.reads_back value [] so.0

  -- and what is read with nothing left is the value's form
  read_form : (bytes : List ℕ) (value : A) → AreBytes bytes → form.read bytes ≡ Some (value, []) → IsFormOf form value bytes
  read_form bytes value each is =
      let so = form.exact bytes value [] each is in
      (so.held, sym (so.cut ∙ append-nil (form.write value)))

  pub wholes_exact : WholesAreExact form
  wholes_exact bytes value each =
      (λ is. read_form bytes value each (ended_some (form.read bytes) value is), λ so. ap ended (form_read bytes value so))

  pub tell_values : FormsTellValues form
  tell_values bytes value other so so_too =
      (parts_of value other [] [] (sym (form_read bytes value so) ∙ form_read bytes other so_too)).0

  -- what is told of a whole text of bytes
  pub value_told : (bytes : List ℕ) (result : Result A CodecRefused) → AreBytes bytes → GivesAll result (whole form bytes) → IfOk result (λ value. IsFormOf form value bytes)
  value_told bytes (Ok value) each is = (wholes_exact bytes value each).0 is
  value_told bytes (Err why) each is = tt

  none_there : (bytes : List ℕ) → whole form bytes ≡ None → (value : A) → IsFormOf form value bytes → ⊥
  none_there bytes none value so = let contrary : None ≡ Some value = sym none ∙ ap ended (form_read bytes value so) in cc

  pub refusal_told : (bytes : List ℕ) (result : Result A CodecRefused) → GivesAll result (whole form bytes) → IfErr result (IsCodecRefusal form bytes)
  refusal_told bytes (Ok value) is = tt
  refusal_told bytes (Err NoForm) is = none_there bytes is
  refusal_told bytes (Err OutOfMemory) is = tt
