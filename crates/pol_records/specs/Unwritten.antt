-- Why a body isn't written, and what that leaves.
use Rattle.std.specs.Prelude.{ℕ, ◌≡◌, ◌+◌, ◌-◌, ◌^◌, ◌<◌, ◌≤◌, min, List, [], ◌∷◌, ◌++◌, length}
use Rattle.pol_wire.specs.Faults.{Rises}
use Rattle.pol_journal.specs.Journal.{JournalState, IsReady, HasFailed}
use Rattle.pol_journal.specs.declared.refused.JournalRefused.{JournalRefused}
use Rattle.pol_journal.specs.declared.refused.JournalRefused.TheVariants as refused
use Rattle.pol_records.specs.Holding.{Lost, lost_behind}
use Rattle.pol_records.specs.declared.unwritten.Unwritten.{Unwritten}
use Rattle.pol_records.specs.declared.unwritten.Unwritten.TheVariants.{JournalFull, Unknown, DiskFault}

-- an append is refused where the journal is full, and else what it leaves is unknown
abbrev pub unwritten_of : JournalRefused → Unwritten
unwritten_of (refused.JournalFull end wanted) = JournalFull end wanted
unwritten_of refused.Unknown = Unknown
unwritten_of refused.NotAJournal = Unknown
unwritten_of refused.JournalThere = Unknown
unwritten_of (refused.BadRecord at) = Unknown
unwritten_of refused.DiskFault = Unknown
unwritten_of refused.OutOfMemory = Unknown

-- the appends that failed, after a body wasn't written: it is one of them where that is unknown
abbrev pub lost_by : Unwritten → List (List ℕ) → List ℕ → List Lost → List Lost
lost_by (JournalFull end wanted) written body lost = lost
lost_by Unknown written body lost = lost ++ lost_behind written body ∷ []
lost_by DiskFault written body lost = lost

-- the place behind the closed gate with this body
abbrev pub wanted_with : {D : Type 0} → JournalState D → List ℕ → ℕ
wanted_with journal body = journal.gate + 10 + length body

-- The journal would reach too far with the body, and no append that failed is left unrepaired. Or the disk failed in
-- this call: while the body was appended, or, where an append had failed before, in its repair.
abbrev pub IsUnwritten : {D : Type 0} → (D → ℕ) → JournalState D → List ℕ → JournalState D → Unwritten → Type 0
IsUnwritten fault_count old body new (JournalFull end wanted) =
    (end ≡ old.gate + 1) × (wanted ≡ min (wanted_with old body) (2 ^ 64 - 1)) × (2 ^ 40 < wanted_with old body) × IsReady new
IsUnwritten fault_count old body new Unknown =
    (wanted_with old body ≤ 2 ^ 40) × HasFailed new × Rises (fault_count old.disk) (fault_count new.disk)
IsUnwritten fault_count old body new DiskFault =
    HasFailed old × HasFailed new × Rises (fault_count old.disk) (fault_count new.disk)
