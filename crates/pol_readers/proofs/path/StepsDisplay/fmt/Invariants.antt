use Rattle.std.proofs.Common.{◌≡◌, List, ℕ, ◌++◌, length, reverse}
use Rattle.std.specs.Fmt.{HasWritten, IsPlainFormatter}
use Rattle.std.specs.List.{flat_map}
use Rattle.pol_readers.specs.Path.{step_text}
use Rattle.pol_readers.proofs.path.StepsDisplay.fmt.Given as goal

abbrev pub invariant-loop-step : goal.invariant-loop-step
invariant-loop-step g l =
    IsPlainFormatter l.initial.f
    → (done : List ℕ)
    × (HasWritten g.W.Write.write_str_gives l.initial.f done l.f)
    × (flat_map step_text (reverse l.self.0.now) ≡ done ++ flat_map step_text (reverse l.left))

abbrev pub decreases-loop-step : goal.decreases-loop-step
decreases-loop-step g l = length l.left
