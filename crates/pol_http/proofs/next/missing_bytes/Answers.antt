use Rattle.std.proofs.lemmas.Bool.{false≢true}
use Rattle.pol_http.proofs.NextLemmas.{missing_exactly, refused_unknown}
use Rattle.pol_http.proofs.next.missing_bytes.Goals as goal

pub returns-in-Whole-clause-exact : goal.returns-in-Whole-clause-exact
returns-in-Whole-clause-exact c = λ more.
    let front = c.in-Whole.ensures in
    rw c.saturating_sub.ensures
    (missing_exactly c.args.bytes.now c.in-Whole.head c.in-Whole.taken c.in-Whole.body front.0 front.1 more)

pub returns-in-Refused-clause-known : goal.returns-in-Refused-clause-known
returns-in-Refused-clause-known c = (
  λ is. absurd (false≢true is),
  λ known. absurd (refused_unknown c.args.bytes.now c.in-Refused.field-0 c.in-Refused.ensures known),
)
