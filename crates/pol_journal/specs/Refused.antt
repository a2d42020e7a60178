-- Why each call of a journal may be refused.
use Rattle.std.specs.Prelude.{ℕ, ◌≡◌, ◌≢◌, ◌^◌, ◌-◌, ◌<◌, ◌≤◌, ◌++◌, min, List, Option, IfSome, ⊤, codes, decimal}
use Rattle.pol_wire.specs.Faults.{Rises}
use Rattle.pol_journal.specs.Format.{IsNoJournal, IsBadAt, IsBroken}
use Rattle.pol_journal.specs.declared.kind.Kind.{Kind}
use Rattle.pol_journal.specs.declared.refused.JournalRefused.{JournalRefused}
use Rattle.pol_journal.specs.declared.refused.JournalRefused.TheVariants.{NotAJournal, JournalThere, BadRecord, JournalFull, Unknown, DiskFault, OutOfMemory}

-- the text of a refusal
abbrev pub refusal_text : JournalRefused → List ℕ
refusal_text NotAJournal = codes "not a journal"
refusal_text JournalThere = codes "a journal is there"
refusal_text (BadRecord at) = codes "bad record at " ++ decimal at
refusal_text (JournalFull length wanted) =
    codes "journal of " ++ (decimal length ++ (codes " bytes is full for " ++ decimal wanted))
refusal_text Unknown = codes "the record may be there or not"
refusal_text DiskFault = codes "the disk failed"
refusal_text OutOfMemory = codes "out of memory"

-- the disk has bytes, or it failed in this call
abbrev pub CreateRefused : Option ℕ → ℕ → ℕ → JournalRefused → Type 0
CreateRefused size old new NotAJournal = ⊥
CreateRefused size old new JournalThere = IfSome size (λ size. size ≢ 0)
CreateRefused size old new (BadRecord at) = ⊥
CreateRefused size old new (JournalFull length wanted) = ⊥
CreateRefused size old new Unknown = ⊥
CreateRefused size old new DiskFault = Rises old new
CreateRefused size old new OutOfMemory = ⊥

-- its bytes are no journal, or it failed in this call
abbrev pub OpenRefused : Kind → Option (List ℕ) → ℕ → ℕ → JournalRefused → Type 0
OpenRefused kind seen old new NotAJournal = IfSome seen (IsNoJournal kind)
OpenRefused kind seen old new JournalThere = ⊥
OpenRefused kind seen old new (BadRecord at) = ⊥
OpenRefused kind seen old new (JournalFull length wanted) = ⊥
OpenRefused kind seen old new Unknown = ⊥
OpenRefused kind seen old new DiskFault = Rises old new
OpenRefused kind seen old new OutOfMemory = ⊥

-- the record at this gate is bad, the disk failed in this call, or there was no memory
abbrev pub NextRefused : ℕ → ℕ → ℕ → JournalRefused → Type 0
NextRefused gate old new NotAJournal = ⊥
NextRefused gate old new JournalThere = ⊥
NextRefused gate old new (BadRecord at) = at ≡ gate
NextRefused gate old new (JournalFull length wanted) = ⊥
NextRefused gate old new Unknown = ⊥
NextRefused gate old new DiskFault = Rises old new
NextRefused gate old new OutOfMemory = ⊤

-- a record is bad for these bytes alone
abbrev pub IsBadIn : Kind → List ℕ → JournalRefused → Type 0
IsBadIn kind file NotAJournal = ⊤
IsBadIn kind file JournalThere = ⊤
IsBadIn kind file (BadRecord at) = IsBadAt kind at file
IsBadIn kind file (JournalFull length wanted) = ⊤
IsBadIn kind file Unknown = ⊤
IsBadIn kind file DiskFault = ⊤
IsBadIn kind file OutOfMemory = ⊤

-- a record is bad where one is broken here
abbrev pub IsBrokenIn : List ℕ → JournalRefused → Type 0
IsBrokenIn tail NotAJournal = ⊤
IsBrokenIn tail JournalThere = ⊤
IsBrokenIn tail (BadRecord at) = IsBroken tail
IsBrokenIn tail (JournalFull length wanted) = ⊤
IsBrokenIn tail Unknown = ⊤
IsBrokenIn tail DiskFault = ⊤
IsBrokenIn tail OutOfMemory = ⊤

-- a journal of this end would reach too far, or else the disk failed in this call
abbrev pub AppendRefused : ℕ → ℕ → ℕ → ℕ → JournalRefused → Type 0
AppendRefused end wanted old new NotAJournal = ⊥
AppendRefused end wanted old new JournalThere = ⊥
AppendRefused end wanted old new (BadRecord at) = ⊥
AppendRefused end wanted old new (JournalFull length reached) =
    (length ≡ end) × (reached ≡ min wanted (2 ^ 64 - 1)) × (2 ^ 40 < wanted)
AppendRefused end wanted old new Unknown = (wanted ≤ 2 ^ 40) × Rises old new
AppendRefused end wanted old new DiskFault = ⊥
AppendRefused end wanted old new OutOfMemory = ⊥

-- the disk failed in this call
abbrev pub RepairRefused : ℕ → ℕ → JournalRefused → Type 0
RepairRefused old new NotAJournal = ⊥
RepairRefused old new JournalThere = ⊥
RepairRefused old new (BadRecord at) = ⊥
RepairRefused old new (JournalFull length wanted) = ⊥
RepairRefused old new Unknown = ⊥
RepairRefused old new DiskFault = Rises old new
RepairRefused old new OutOfMemory = ⊥
