use Rattle.std.proofs.Common.{◌≡◌, ◌+◌, length}
use Rattle.pol_turn.proofs.tests.enter_many.Given as goal

abbrev pub invariant-loop-amount : goal.invariant-loop-amount
invariant-loop-amount g l = (l.pass ≡ record l.initial.pass { front = l.pass.front; own = l.pass.own }) × (length l.pass.own ≡ length l.initial.pass.own + l.amount)
