-- How a reason is printed.
use Rattle.std.specs.Prelude.{ℕ, List, codes}
use Rattle.pol_meta.specs.declared.why.Why.{Why}
use Rattle.pol_meta.specs.declared.why.Why.TheVariants.{UuidDiffers, FormatVersion, IdsUsedUp, NoneAdded, NoSuchId, NoSuchField, FieldTwice, SnapshotThere, SequenceNotAbove, NoSuchSnapshot, MainNotBranch, BranchOnly, InUse}

-- the word by which a message names the reason
abbrev pub word_of : Why → List ℕ
word_of UuidDiffers = codes "UuidDiffers"
word_of FormatVersion = codes "FormatVersion"
word_of IdsUsedUp = codes "IdsUsedUp"
word_of NoneAdded = codes "NoneAdded"
word_of NoSuchId = codes "NoSuchId"
word_of NoSuchField = codes "NoSuchField"
word_of FieldTwice = codes "FieldTwice"
word_of SnapshotThere = codes "SnapshotThere"
word_of SequenceNotAbove = codes "SequenceNotAbove"
word_of NoSuchSnapshot = codes "NoSuchSnapshot"
word_of MainNotBranch = codes "MainNotBranch"
word_of BranchOnly = codes "BranchOnly"
word_of InUse = codes "InUse"
