use Rattle.std.proofs.Common.{◌-◌, length}
use Rattle.pol_cli.proofs.TextLemmas.{GivesFront}
use Rattle.pol_cli.proofs.told.give_all.Given as goal

abbrev pub invariant-loop-count : goal.invariant-loop-count
invariant-loop-count g l = GivesFront (g.K.Sink.given l.fn.sink) (g.K.Sink.given l.sink) (g.K.Sink.faults l.fn.sink) (g.K.Sink.faults l.sink) l.text l.count

abbrev pub decreases-loop-count : goal.decreases-loop-count
decreases-loop-count g l = length l.text - l.count
