use Rattle.std.proofs.Common.{◌≡◌, rules, arith, take}
use Rattle.pol_examples.proofs.Places.{shorter_differs}
use Rattle.pol_examples.proofs.comparing.first_difference.Goals as goal

pub returns-clause-place : goal.returns-clause-place
returns-clause-place c =
    let wanted = c.args.wanted.now in
    let got = c.args.got.now in
    let same : take c.min-shorter.result wanted ≡ take c.min-shorter.result got = grind (arith, c.loop-place.invariant, c.loop-place-test.false, c.loop-place.auto.place-end) in
    record { before = same; there = shorter_differs wanted got c.min-shorter.result (search rules) same (search rules) }
