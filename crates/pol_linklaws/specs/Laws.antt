-- Laws of served links.
use Rattle.std.specs.Prelude.{◌≡◌, ◌<◌, ◌≤◌, ◌-◌, ◌^◌, ⊤, ℕ, List, [], length, Some}
use Rattle.std.specs.List.{AllByRecursion}
use Rattle.pol_server.specs.Ends.{Ends}
use Rattle.pol_records.specs.declared.unwritten.Unwritten.{Unwritten}
use Rattle.pol_records.specs.declared.unwritten.Unwritten.TheVariants.{JournalFull, Unknown, DiskFault}
use Rattle.pol_server.specs.Link.{ServesLink, taken_bound}
use Rattle.pol_server.specs.Both.{BothGoOnAlone, SeenBoth}
use Rattle.pol_server.specs.Turn.{Case, Turn, acted, full, stepped, unacted, undrawn, unplanned, unstored, untold, unwritten, without_memory}
use Rattle.pol_server.specs.declared.served.Ending.{Ending}
use Rattle.pol_server.specs.declared.served.Ending.TheVariants.{Ended, Cut, Closed, ReadFault, WriteFault, Spent, NoMemory}
use Rattle.pol_server.specs.declared.served.Served.{Served}

-- a count of faults that did not rise, and stands below its last value
pub record HasNoFault (before after : ℕ) : Type 0 where
  pub kept : after ≤ before
  pub below : after < 2 ^ 64 - 1

-- no end of a link failed
pub record NoEndFails (before after : Ends) : Type 0 where
  pub source : HasNoFault before.source_faults after.source_faults
  pub sink : HasNoFault before.sink_faults after.sink_faults
  pub draw : HasNoFault before.draw_faults after.draw_faults

-- the link ended by its input, or for want of memory
abbrev pub NeedsNoFault : Ending → Type 0
NeedsNoFault Ended = ⊤
NeedsNoFault Cut = ⊤
NeedsNoFault Closed = ⊤
NeedsNoFault ReadFault = ⊥
NeedsNoFault WriteFault = ⊥
NeedsNoFault Spent = ⊥
NeedsNoFault NoMemory = ⊤

-- no disk failed
abbrev pub IsUnfailed : Unwritten → Type 0
IsUnfailed (JournalFull end wanted) = ⊤
IsUnfailed Unknown = ⊥
IsUnfailed DiskFault = ⊥

-- no call of the passes was failed by a disk
pub record NoMarkIsMade (old new : SeenBoth) : Type 0 where
  pub catalogue : new.catalogue.failed ≤ old.catalogue.failed
  pub objects : new.objects.failed ≤ old.objects.failed

-- a message that lacks no word, and whose change no disk failed to write
abbrev pub LacksNothing : Case → Type 0
LacksNothing unplanned = ⊤
LacksNothing undrawn = ⊥
LacksNothing (stepped place) = ⊤
LacksNothing (full count) = ⊤
LacksNothing (unwritten why count) = IsUnfailed why
LacksNothing (acted access entry) = ⊤
LacksNothing (untold access entry) = ⊤
LacksNothing (unacted access) = ⊤
LacksNothing (unstored why access count) = IsUnfailed why
LacksNothing without_memory = ⊤

-- where no end fails, no call of the passes was failed by a disk, and fewer bytes are taken than may be, the link ends by
-- its input or for want of memory, each message has its words, none is told that a disk failed, and all that was to be
-- written was given
abbrev pub FaultsHaveCauses : Type 0
FaultsHaveCauses =
    (before after : Ends) (old new : SeenBoth) (served : Served)
    → (link : ServesLink before after old new served) → NoEndFails before after → NoMarkIsMade old new
    → length link.taken < taken_bound
    → NeedsNoFault served.ending × AllByRecursion (λ turn. LacksNothing turn.case) link.turns × (link.missing ≡ [])

-- what an end tells before the link is served
pub record IsKnown (ends : Ends) : Type 0 where
  pub bytes : List ℕ
  pub moments : ℕ → ℕ
  pub words : ℕ → ℕ
  pub left_is : ends.left ≡ Some bytes
  pub moments_are : ends.moments ≡ Some moments
  pub words_are : ends.words ≡ Some words

-- the link ended by its input, or since it had taken all bytes that it may
abbrev pub IsByInput : Ending → Type 0
IsByInput Ended = ⊤
IsByInput Cut = ⊤
IsByInput Closed = ⊤
IsByInput ReadFault = ⊥
IsByInput WriteFault = ⊥
IsByInput Spent = ⊤
IsByInput NoMemory = ⊥

-- neither a draw nor a disk failed, nor was memory wanting
abbrev pub IsUnhindered : Case → Type 0
IsUnhindered unplanned = ⊤
IsUnhindered undrawn = ⊥
IsUnhindered (stepped place) = ⊤
IsUnhindered (full count) = ⊤
IsUnhindered (unwritten why count) = IsUnfailed why
IsUnhindered (acted access entry) = ⊤
IsUnhindered (untold access entry) = ⊥
IsUnhindered (unacted access) = ⊥
IsUnhindered (unstored why access count) = IsUnfailed why
IsUnhindered without_memory = ⊥

-- neither was the link's end nor a turn of it owed to a fault or to want of memory
pub record IsServedByInput (ending : Ending) (turns : List Turn) : Type 0 where
  pub by_input : IsByInput ending
  pub unhindered : AllByRecursion (λ turn. IsUnhindered turn.case) turns

-- where nobody else enters anything, what is given, the places, the ending and both histories follow from what was seen
-- before, and from the bytes, moments and words that come
abbrev pub OneOutput : Type 0
OneOutput =
    (before after other_after : Ends) (old new other_new : SeenBoth) (served other_served : Served)
    → (link : ServesLink before after old new served)
    → (other : ServesLink before other_after old other_new other_served)
    → BothGoOnAlone old new → BothGoOnAlone old other_new
    → IsKnown before → IsServedByInput served.ending link.turns → IsServedByInput other_served.ending other.turns
    → (link.given ≡ other.given) × (served.places ≡ other_served.places) × (served.ending ≡ other_served.ending)
    × (new.catalogue.front ≡ other_new.catalogue.front) × (new.objects.front ≡ other_new.objects.front)
