-- Faults have causes: what follows where no end of a link failed, and no disk.
use Rattle.std.proofs.Common.{◌≡◌, ◌≢◌, ◌<◌, ℕ, List, [], ◌∷◌, length, inl, inr, arith}
use Rattle.std.specs.List.{AllByRecursion}
use Rattle.pol_wire.specs.Faults.{Rises}
use Rattle.pol_records.specs.declared.unwritten.Unwritten.{Unwritten}
use Rattle.pol_records.specs.declared.unwritten.Unwritten.TheVariants.{JournalFull, Unknown, DiskFault}
use Rattle.pol_server.specs.Ends.{Ends}
use Rattle.pol_linklaws.specs.Laws.{FaultsHaveCauses, HasNoFault, IsUnfailed, LacksNothing, NeedsNoFault, NoEndFails}
use Rattle.pol_server.specs.Link.{EndsBy, taken_bound}
use Rattle.pol_server.specs.Turn.{Case, Turn, acted, catalogue_marks_in, failed_draws, failed_in, full, marks_by, object_marks_in, stepped, total_of, unacted, undrawn, unplanned, unstored, untold, unwritten, without_memory}
use Rattle.pol_server.specs.declared.served.Ending.{Ending}
use Rattle.pol_server.specs.declared.served.Ending.TheVariants.{Ended, Cut, Closed, ReadFault, WriteFault, Spent, NoMemory}

-- a count that rose is no count without a fault
never-rises : (before after : ℕ) → HasNoFault before after → ¬ (Rises before after)
never-rises before after none (inl above) = omega (arith, none.kept, above)
never-rises before after none (inr last) = omega (arith, none.below, last)

needs-none : (ending : Ending) (before after : Ends) (turns : List Turn) (taken : ℕ) (rest text : List ℕ)
    → NoEndFails before after → taken < taken_bound → EndsBy ending before after turns taken rest text → NeedsNoFault ending
needs-none Ended before after turns taken rest text none few ends = tt
needs-none Cut before after turns taken rest text none few ends = tt
needs-none Closed before after turns taken rest text none few ends = tt
needs-none ReadFault before after turns taken rest text none few ends = never-rises before.source_faults after.source_faults none.source ends.1
needs-none WriteFault before after turns taken rest text none few ends = never-rises before.sink_faults after.sink_faults none.sink ends.0
needs-none Spent before after turns taken rest text none few ends = omega (arith, few, ends.1)
needs-none NoMemory before after turns taken rest text none few ends = tt

is-unfailed : (why : Unwritten) → marks_by why ≡ 0 → IsUnfailed why
is-unfailed (JournalFull end wanted) none = tt
is-unfailed Unknown none = omega (arith, none)
is-unfailed DiskFault none = omega (arith, none)

lacks-nothing : (case : Case) → failed_in case ≡ 0 → catalogue_marks_in case ≡ 0 → object_marks_in case ≡ 0 → LacksNothing case
lacks-nothing unplanned drawn marked stored = tt
lacks-nothing undrawn drawn marked stored = omega (arith, drawn)
lacks-nothing (stepped place) drawn marked stored = tt
lacks-nothing (full count) drawn marked stored = tt
lacks-nothing (unwritten why count) drawn marked stored = is-unfailed why marked
lacks-nothing (acted access entry) drawn marked stored = tt
lacks-nothing (untold access entry) drawn marked stored = tt
lacks-nothing (unacted access) drawn marked stored = tt
lacks-nothing (unstored why access count) drawn marked stored = is-unfailed why stored
lacks-nothing without_memory drawn marked stored = tt

each-lacks-nothing : (turns : List Turn) → failed_draws turns ≡ 0 → total_of catalogue_marks_in turns ≡ 0 → total_of object_marks_in turns ≡ 0
    → AllByRecursion (λ turn. LacksNothing turn.case) turns
each-lacks-nothing [] drawn marked stored = tt
each-lacks-nothing (turn ∷ turns) drawn marked stored = (
  lacks-nothing turn.case (omega (arith, drawn)) (omega (arith, marked)) (omega (arith, stored)),
  each-lacks-nothing turns (omega (arith, drawn)) (omega (arith, marked)) (omega (arith, stored)),
)

no-write-fault : (ending : Ending) → NeedsNoFault ending → ending ≢ WriteFault
no-write-fault Ended needs is = cc
no-write-fault Cut needs is = cc
no-write-fault Closed needs is = cc
no-write-fault ReadFault needs is = needs
no-write-fault WriteFault needs is = needs
no-write-fault Spent needs is = needs
no-write-fault NoMemory needs is = cc

pub faults_have_causes : FaultsHaveCauses
faults_have_causes before after old new served link none unmarked few =
    let needs = needs-none served.ending before after link.turns (length link.taken) link.rest link.text none few link.ends in
    let drawn : failed_draws link.turns ≡ 0 = omega (arith, link.draws none.draw.below, none.draw.kept) in
    let marked : total_of catalogue_marks_in link.turns ≡ 0 = omega (arith, link.marked.catalogue, unmarked.catalogue) in
    let stored : total_of object_marks_in link.turns ≡ 0 = omega (arith, link.marked.objects, unmarked.objects) in
    (needs, each-lacks-nothing link.turns drawn marked stored, link.complete (no-write-fault served.ending needs))
