use Rattle.std.proofs.Common.{◌∙◌, ◌+◌, drop, subst, sym}
use Rattle.std.proofs.lemmas.Result.{err_from_is_err_and}
use Rattle.pol_locations.specs.Location.{texts}
use Rattle.pol_locations.proofs.Segments.{HaveRead, have_read_more, next_at, no_segments, refused_behind}
use Rattle.pol_locations.proofs.location.read_segments.Goals as goal

pub returns-then-is_empty-clause-refused : goal.returns-then-is_empty-clause-refused
returns-then-is_empty-clause-refused c = no_segments c.args.segments.now (sym c.is_empty.ensures ∙ c.if-is_empty.true)

pub returns-in_err-read_segment-clause-refused : goal.returns-in_err-read_segment-clause-refused
returns-in_err-read_segment-clause-refused c =
    let p = err_from_is_err_and c.from_residual-in_err-read_segment.result c.from_residual-in_err-read_segment.ensures.1 in
    rw (p.1, p.2)
    (refused_behind (texts c.args.segments.now) c.loop-segment.read.items (texts (drop (c.loop-segment.segment-index + 1) c.args.segments.now)) _ _
    (subst (λ rest. HaveRead (texts c.args.segments.now) c.loop-segment.read.items rest) (next_at c.args.segments.now c.loop-segment.segment-index _ c.loop-segment-test.true) c.loop-segment.invariant)
    c.requires c.in_err-read_segment.ensures.refused)

pub loop-segment-preserved : goal.loop-segment-preserved
loop-segment-preserved c =
    rw c.in_ok-read_segment.ensures.read
    (have_read_more (texts c.args.segments.now) c.loop-segment.read.items (texts (drop (c.loop-segment.segment-index + 1) c.args.segments.now)) _
    (subst (λ rest. HaveRead (texts c.args.segments.now) c.loop-segment.read.items rest) (next_at c.args.segments.now c.loop-segment.segment-index _ c.loop-segment-test.true) c.loop-segment.invariant)
    c.in_ok-read_segment.ensures.segmented)
