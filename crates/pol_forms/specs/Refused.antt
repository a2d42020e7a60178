-- Why bytes weren't read.
use Rattle.std.specs.Prelude.{◌≡◌, ℕ, List, Option, Some, None, Result, Ok, Err, ⊤, codes}
use Rattle.pol_forms.specs.Form.{Form, IsFormOf}
use Rattle.pol_forms.specs.declared.refused.CodecRefused.{CodecRefused}
use Rattle.pol_forms.specs.declared.refused.CodecRefused.TheVariants.{NoForm, OutOfMemory}

-- the text of a refusal
abbrev pub refusal_text : CodecRefused → List ℕ
refusal_text NoForm = codes "no value has these bytes as its form"
refusal_text OutOfMemory = codes "out of memory"

-- what a reader of a whole text of bytes may answer in place of a value: that none has these bytes as its form, or
-- that memory is wanting, for which no clause names a cause
abbrev pub IsCodecRefusal : {A : Type 0} → Form A → List ℕ → CodecRefused → Type 0
IsCodecRefusal {A} form bytes NoForm = (value : A) → IsFormOf form value bytes → ⊥
IsCodecRefusal form bytes OutOfMemory = ⊤

-- what such a reader answers: just what the bytes are read as, or that memory is wanting
abbrev pub GivesAll : {A : Type 0} → Result A CodecRefused → Option A → Type 0
GivesAll (Ok value) read = read ≡ Some value
GivesAll (Err NoForm) read = read ≡ None
GivesAll (Err OutOfMemory) read = ⊤
