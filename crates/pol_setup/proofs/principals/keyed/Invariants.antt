use Rattle.pol_setup.proofs.SetupLemmas.{IsKeyedTo}
use Rattle.pol_setup.proofs.principals.keyed.Given as goal

abbrev pub invariant-loop-principal : goal.invariant-loop-principal
invariant-loop-principal l = IsKeyedTo l.words l.principals l.keyed.items l.drawn l.principal-index
