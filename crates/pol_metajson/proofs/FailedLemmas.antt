-- An error, seen from one step further out, is one.
use Rattle.std.proofs.Common.{Err, IsErr, Ok, Result, refl}
use Rattle.pol_readers.specs.Reading.{Gives, Reading, bad, under}
use Rattle.pol_readers.specs.declared.error.ReadError.{ReadError}
use Rattle.pol_readers.specs.declared.error.ReadError.TheVariants.{Field, OutOfMemory}
use Rattle.pol_readers.specs.declared.path.Step.{Step}

pub fails : {A : Type 0} (step : Step) (error : ReadError) (result : Result A ReadError)
    → ((reading : Reading A) → Gives (Err error) reading → Gives result (under step reading)) → IsErr result
fails step error (Err other) told = refl
fails step (Field path) (Ok value) told =
    let is = told (Err path) refl in
    absurd (cc)
fails step OutOfMemory (Ok value) told =
    let is = told bad tt in
    absurd (cc)
