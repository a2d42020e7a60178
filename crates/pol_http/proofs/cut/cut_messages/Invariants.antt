use Rattle.std.proofs.Common.{length}
use Rattle.pol_http.proofs.CutLemmas.{CutSoFar}
use Rattle.pol_http.proofs.cut.cut_messages.Given as goal

abbrev pub invariant-messages : goal.invariant-messages
invariant-messages l = CutSoFar l.fn.bytes l.lengths.items l.rest

abbrev pub decreases-messages : goal.decreases-messages
decreases-messages l = length l.rest
