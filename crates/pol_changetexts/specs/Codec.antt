-- What is told of bytes: what they are the form of, or that they are the form of nothing.
use Rattle.std.specs.Prelude.{◌≡◌, ◌⊎◌, ℕ, List, codes}
use Rattle.hex.specs.Hex.{encode_lower}
use Rattle.pol_forms.specs.Form.{Form, IsFormOf}

-- a value's text where they are its form, and else that no value has it
abbrev pub TellsForm : {A : Type 0} → Form A → (A → List ℕ) → List ℕ → List ℕ → Type 0
TellsForm {A} form text bytes told =
    ((value : A) × IsFormOf form value bytes × (told ≡ text value))
    ⊎ (((value : A) → IsFormOf form value bytes → ⊥) × (told ≡ codes "no form"))

-- the hexadecimal digits of what is written of the value that they are read as
abbrev pub TellsAgain : {A : Type 0} → Form A → List ℕ → List ℕ → Type 0
TellsAgain form = TellsForm form (λ value. encode_lower (form.write value))
