use Rattle.std.proofs.Common.{◌-◌, length}
use Rattle.pol_server.proofs.EndsLemmas.{GivesFront}
use Rattle.pol_server.proofs.ends.give_all.Given as goal

abbrev pub invariant-loop-given : goal.invariant-loop-given
invariant-loop-given g l = GivesFront (g.L.Linked.ends l.fn.link) (g.L.Linked.ends l.link) l.text l.given

abbrev pub decreases-loop-given : goal.decreases-loop-given
decreases-loop-given g l = length l.text - l.given
