use Rattle.std.proofs.Common.{◌≡◌, [], arith, drop, refl, subst}
use Rattle.std.proofs.lemmas.Grind.{common_steps}
use Rattle.pol_locations.specs.Location.{texts}
use Rattle.pol_locations.proofs.Lengths.{HaveMeasured, not_too_long, too_long_at}
use Rattle.pol_locations.proofs.location.is_too_long.Goals as goal

pub returns-then-segment-length : goal.returns-then-segment-length
returns-then-segment-length c =
    ((λ _. too_long_at c.args.segments.now c.loop-segment.segment-index _ c.loop-segment.length c.loop-segment.invariant c.loop-segment-test.true c.if-segment-length.true), (λ _. refl))

pub returns : goal.returns
returns c =
    let none : texts (drop c.loop-segment.segment-index c.args.segments.now) ≡ [] = grind (arith, common_steps) in
    let all = not_too_long (texts c.args.segments.now) c.loop-segment.length (subst (λ rest. HaveMeasured (texts c.args.segments.now) rest c.loop-segment.length) none c.loop-segment.invariant) in
    ((λ holds. cc), (λ long. absurd (omega arith)))
