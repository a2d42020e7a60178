use Rattle.std.proofs.Common.{◌≡◌, ◌-◌, ◌^◌, ℕ, List}
use Rattle.pol_journal.specs.Journal.{IsReading}
use Rattle.pol_state.specs.Sound.{IsSound}
use Rattle.pol_opening.specs.Reading.{IsReadSome, ReadsOn}
use Rattle.pol_opening.proofs.opening.read_on.Given as goal

-- where one record was read at first, one was read now
abbrev pub invariant-loop : goal.invariant-loop
invariant-loop g l =
    let d = g.D.Disk in record {
      reading : IsReading l.journal;
      sound : IsSound l.state.rows;
      charged : l.state.rows.charged ≡ l.initial.state.rows.charged;
      read : (file : List ℕ)
          → IsReadSome d.seen d.may_leave d.clock d.left_since d.fault_count file l.initial.journal l.initial.state.rows
          → IsReadSome d.seen d.may_leave d.clock d.left_since d.fault_count file l.journal l.state.rows;
      reads : ReadsOn d.clock d.left_since d.may_leave d.seen d.size d.fault_count l.initial.journal l.journal;
    }

-- the gates rise
abbrev pub decreases-loop : goal.decreases-loop
decreases-loop g l = 2 ^ 64 - l.journal.gate
