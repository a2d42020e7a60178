use Rattle.std.proofs.Common.{◌∷◌, take}
use Rattle.std.specs.Fmt.{HasWritten, IsPlainFormatter}
use Rattle.std.specs.List.{flat_map}
use Rattle.pol_locations.proofs.location.PathDisplay.fmt.Given as goal

abbrev pub invariant-loop-segment : goal.invariant-loop-segment
invariant-loop-segment g l =
    IsPlainFormatter l.initial.f
    → HasWritten g.W.Write.write_str_gives l.initial.f (flat_map (λ other. 0x2F ∷ other) (take l.segment-index l.others)) l.f
