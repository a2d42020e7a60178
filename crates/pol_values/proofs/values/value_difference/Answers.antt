use Rattle.std.proofs.Common.{sym}
use Rattle.pol_values.proofs.values.value_difference.Goals as goal

pub returns-in-Some-clause-differs : goal.returns-in-Some-clause-differs
returns-in-Some-clause-differs c =
    let shown = rw c.in-Some.is at c.in_ok-difference.ensures.differs in
    (c.loop-value.value-index, c.value-item.result, c.loop-value-test.true, sym c.value-item.is, (sym shown.0, shown.1))
