use Rattle.std.proofs.Common.{◌≡◌, ℕ, List, [], IfSome, refl, ap, subst, arith}
use Rattle.pol_journal.specs.Format.{IsNoJournal, StandsFor}
use Rattle.pol_journal.specs.Journal.{JournalState}
use Rattle.pol_journal.specs.declared.kind.Kind.{Kind}
use Rattle.pol_journal.specs.declared.kind.Kind.TheVariants.{Objects}
use Rattle.pol_journal.proofs.ReadLemmas.{when_told}
use Rattle.pol_object_store.specs.Reading.{IsReadSoFar}
use Rattle.pol_object_store.specs.Reopened.{IsRefusedAt}
use Rattle.pol_object_store.specs.ObjectRecords.{object_records, object_size_of}
use Rattle.pol_object_store.proofs.HistoryLemmas.{no_records}
use Rattle.pol_object_store.proofs.LeadLemmas.{lead_nowhere}
use Rattle.pol_object_store.proofs.ReadingLemmas.{refused_map}
use Rattle.pol_object_store.proofs.kept.KeptObjects.open.Goals as goal

pub returns-in-Ok-read_state-clause-opened : goal.returns-in-Ok-read_state-clause-opened
returns-in-Ok-read_state-clause-opened g c file told =
    let d = g.D.Disk in
    let whole = c.in-Ok-read_state.ensures.read file
    (record { kind = ap (λ (j : JournalState g.row.D.Denot). j.kind) c.in-Ok.ensures.made; read = c.in-Ok.ensures.opened file told; leads = lead_nowhere [] }) in
    rw c.of.ensures.log (record {
      bodies = whole.bodies;
      stands = subst (λ (k : Kind). StandsFor k whole.bodies file) whole.kind whole.met.stands;
      leads = whole.leads;
      ended =
          let size : object_size_of (object_records c.in-Ok-read_state.state []) ≡ 0 = ap object_size_of (no_records c.in-Ok-read_state.state [] refl) in
          omega (arith, whole.met.at_rest.stands.place, size);
      images = c.of.ensures.images whole.bodies whole.met.at_rest whole.met.since;
    })

pub returns-in-Err-read_state-clause-refused : goal.returns-in-Err-read_state-clause-refused
returns-in-Err-read_state-clause-refused g c =
    let d = g.D.Disk in
    let seen = d.seen c.args.disk in
    rw c.close.ensures
    (refused_map (IfSome seen (IsNoJournal Objects))
    (λ (at : ℕ). (file : List ℕ) → IsReadSoFar d.seen d.may_leave d.clock d.left_since d.fault_count file [] c.in-Ok.journal [] → IsRefusedAt at file)
    (λ (at : ℕ). IfSome seen (IsRefusedAt at))
    (λ at bad. when_told seen (IsRefusedAt at) (λ file told. bad file
    (record { kind = ap (λ (j : JournalState g.row.D.Denot). j.kind) c.in-Ok.ensures.made; read = c.in-Ok.ensures.opened file told; leads = lead_nowhere [] })))
    _ _ _ c.in-Ok.ensures.kept c.in-Err-read_state.why c.in-Err-read_state.ensures.refused)
