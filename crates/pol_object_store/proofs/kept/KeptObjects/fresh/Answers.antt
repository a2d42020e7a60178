use Rattle.std.proofs.Common.{◌≡◌, ◌+◌, ℕ, [], ◌∷◌, length, refl, sym, ap, subst, arith}
use Rattle.pol_journal.specs.Format.{StandsFor, area_of, records_of}
use Rattle.pol_journal.specs.Journal.{JournalState, SinceOpening}
use Rattle.pol_journal.specs.declared.kind.Kind.{Kind}
use Rattle.pol_object_store.specs.ObjectRecords.{object_records, object_size_of}
use Rattle.pol_object_store.proofs.HistoryLemmas.{no_records}
use Rattle.pol_object_store.proofs.kept.KeptObjects.fresh.Goals as goal

area_none : 0 ∷ [] ≡ area_of []
unfolding records_of
area_none = refl

pub returns-in-Ok-clause-images : goal.returns-in-Ok-clause-images
returns-in-Ok-clause-images g c blank =
    let d = g.D.Disk in
    let kind = ap (λ (j : JournalState g.row.D.Denot). j.kind) c.in-Ok.ensures.made in
    rw c.of.ensures.log
    (c.of.ensures.images [] (c.in-Ok.ensures.at_rest [] area_none blank)
    (subst (λ (k : Kind). SinceOpening d.clock d.left_since d.fault_count (StandsFor k []) c.in-Ok.journal) (sym kind) (c.in-Ok.ensures.since [] area_none blank)))

pub returns-in-Ok-clause-moments : goal.returns-in-Ok-clause-moments
returns-in-Ok-clause-moments g c blank = rw c.of.ensures.log (c.in-Ok.ensures.moments [] area_none blank)

pub returns-in-Ok-clause-opened : goal.returns-in-Ok-clause-opened
returns-in-Ok-clause-opened g c =
    let gate : c.in-Ok.journal.gate ≡ 63 + length {A = ℕ} (0 ∷ []) = ap (λ (j : JournalState g.row.D.Denot). j.gate) c.in-Ok.ensures.made in
    let size : object_size_of (object_records c.empty.result []) ≡ 0 = ap object_size_of (no_records c.empty.result [] refl) in
    rw c.of.ensures.log (omega (arith, gate, size))

pub returns-in-Err-clause-moments : goal.returns-in-Err-clause-moments
returns-in-Err-clause-moments g c blank = c.in-Err.ensures.moments [] area_none blank
