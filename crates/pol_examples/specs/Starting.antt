-- What a disk holds at the start of a run.
use Rattle.std.specs.Prelude.{◌≡◌, []}
use Rattle.pol_examples.specs.declared.files.Start.{Start}
use Rattle.pol_examples.specs.declared.files.Start.TheVariants.{Said, Kept, Crashed}

-- it has no bytes
abbrev pub HoldsNothing : Start → Type 0
HoldsNothing (Said bytes) = bytes.items ≡ []
HoldsNothing Kept = ⊥
HoldsNothing (Crashed image) = ⊥
