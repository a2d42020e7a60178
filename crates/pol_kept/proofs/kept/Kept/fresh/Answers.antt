use Rattle.std.proofs.Common.{◌≡◌, ◌+◌, ◌-◌, [], length, sym, ap, subst, ◌∙◌, rules}
use Rattle.pol_journal.specs.Format.{StandsFor, area_of}
use Rattle.pol_journal.specs.Journal.{JournalState, SinceOpening}
use Rattle.pol_journal.specs.declared.kind.Kind.TheVariants.{Catalogue}
use Rattle.pol_state.specs.Rows.{fresh_state}
use Rattle.pol_kept.specs.History.{records, size_of}
use Rattle.pol_kept.specs.Opened.{fresh_bodies}
use Rattle.pol_kept.proofs.OpenedLemmas.{area-end}
use Rattle.pol_kept.proofs.kept.Kept.fresh.Goals as goal

pub returns-in-Ok-made-clause-images : goal.returns-in-Ok-made-clause-images
returns-in-Ok-made-clause-images g c blank =
    let d = g.D.Disk in
    let secret = c.args.root_secret.now in
    let base_is : c.in-Ok.state.rows ≡ fresh_state secret = search rules in
    let first_is : c.as_slice.result.now ≡ area_of (fresh_bodies secret) = c.as_slice.ensures.value ∙ c.in-Ok-first_record.ensures.record secret base_is in
    let kind_is : c.in-Ok-made.journal.kind ≡ Catalogue = ap (λ (j : JournalState g.row.D.Denot). j.kind) c.in-Ok-made.ensures.made in
    rw c.of.ensures.log
    (c.of.ensures.images (fresh_bodies secret) (c.in-Ok-made.ensures.at_rest (fresh_bodies secret) first_is blank)
    (subst (λ kind. SinceOpening d.clock d.left_since d.fault_count (StandsFor kind (fresh_bodies secret)) c.in-Ok-made.journal) (sym kind_is)
    (c.in-Ok-made.ensures.since (fresh_bodies secret) first_is blank)))

pub returns-in-Ok-made-clause-moments : goal.returns-in-Ok-made-clause-moments
returns-in-Ok-made-clause-moments g c blank =
    let secret = c.args.root_secret.now in
    let base_is : c.in-Ok.state.rows ≡ fresh_state secret = search rules in
    let first_is : c.as_slice.result.now ≡ area_of (fresh_bodies secret) = c.as_slice.ensures.value ∙ c.in-Ok-first_record.ensures.record secret base_is in
    rw c.of.ensures.log (c.in-Ok-made.ensures.moments (fresh_bodies secret) first_is blank)

pub returns-in-Err-clause-moments : goal.returns-in-Err-clause-moments
returns-in-Err-clause-moments g c blank =
    let secret = c.args.root_secret.now in
    let base_is : c.in-Ok.state.rows ≡ fresh_state secret = search rules in
    let first_is : c.as_slice.result.now ≡ area_of (fresh_bodies secret) = c.as_slice.ensures.value ∙ c.in-Ok-first_record.ensures.record secret base_is in
    c.in-Err.ensures.moments (fresh_bodies secret) first_is blank

pub returns-in-Ok-made-clause-opened : goal.returns-in-Ok-made-clause-opened
returns-in-Ok-made-clause-opened g c =
    let secret = c.args.root_secret.now in
    let base_is : c.in-Ok.state.rows ≡ fresh_state secret = search rules in
    let first_is : c.as_slice.result.now ≡ area_of (fresh_bodies secret) = c.as_slice.ensures.value ∙ c.in-Ok-first_record.ensures.record secret base_is in
    let gate_is : c.in-Ok-made.journal.gate ≡ 63 + length c.as_slice.result.now = ap (λ (j : JournalState g.row.D.Denot). j.gate) c.in-Ok-made.ensures.made in
    rw c.of.ensures.log
    (ap (λ gate. (gate + 1) - size_of (records c.in-Ok.state.rows [])) gate_is
    ∙ area-end (fresh_bodies secret) c.as_slice.result.now c.in-Ok.state.rows first_is)
