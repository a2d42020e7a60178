use Rattle.pol_turn.proofs.Rests.{Waits}
use Rattle.pol_turn.proofs.turns.Turns.take.Given as goal

abbrev pub invariant-loop : goal.invariant-loop
invariant-loop g l = Waits l.pass-inside.number l.pass-inside.made l.ticket l.fn.pass l.pass-inside.seat
