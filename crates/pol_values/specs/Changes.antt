-- What the questions on bytes of changes tell of their digits.
use Rattle.std.specs.Prelude.{◌≡◌, ℕ, ◌==◌, List, filter, not, Ok}
use Rattle.hex.specs.Hex.{decode_of}
use Rattle.pol_changecodec.specs.Change.{changes}
use Rattle.pol_codec.specs.Objects.{object_change}
use Rattle.pol_changetexts.specs.Change.{changes_text, object_change_text}
use Rattle.pol_changetexts.specs.Codec.{TellsAgain, TellsForm}

-- the digits of a text, in which spaces may stand
abbrev pub digits_of : List ℕ → List ℕ
digits_of text = filter (λ byte. not (byte == 0x20)) text

-- what is told of the bytes of digits
abbrev OfDigits : (List ℕ → List ℕ → Type 0) → List ℕ → List ℕ → Type 0
OfDigits Tells text told = (bytes : List ℕ) × (decode_of (digits_of text) ≡ Ok bytes) × Tells bytes told

abbrev pub TellsChanges : List ℕ → List ℕ → Type 0
TellsChanges = OfDigits (TellsForm changes changes_text)

abbrev pub TellsChangesAgain : List ℕ → List ℕ → Type 0
TellsChangesAgain = OfDigits (TellsAgain changes)

abbrev pub TellsObjectChange : List ℕ → List ℕ → Type 0
TellsObjectChange = OfDigits (TellsForm object_change object_change_text)
