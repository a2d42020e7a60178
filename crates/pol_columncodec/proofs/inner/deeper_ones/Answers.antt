use Rattle.std.proofs.Common.{sym, ◌∙◌}
use Rattle.pol_columncodec.proofs.InnerLemmas.{found_none}
use Rattle.pol_columncodec.proofs.inner.deeper_ones.Goals as goal

pub returns-in-None : goal.returns-in-None
returns-in-None c = found_none c.args.depth c.args.columns.now (sym c.first_beside.ensures ∙ c.in-None.is)
