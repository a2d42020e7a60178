use Rattle.std.proofs.Common.{◌≡◌, take}
use Rattle.pol_examples.proofs.comparing.first_difference.Given as goal

abbrev pub invariant-loop-place : goal.invariant-loop-place
invariant-loop-place l = take l.place l.wanted ≡ take l.place l.got
