use Rattle.std.proofs.Common.{◌∙◌, rules, tests}
use Rattle.std.proofs.lemmas.Iterator.{YieldsList-from_slice}
use Rattle.std.proofs.lemmas.Iterator.Consumers.{count_from_yields_List, YieldsList-from_filter}
use Rattle.std.proofs.lemmas.List.Sums.{length-filter}
use Rattle.pol_content.specs.Change.{puts}
use Rattle.pol_state.proofs.state.count_put.Goals as goal

pub returns : goal.returns
returns c =
    count_from_yields_List _ c.count.result c.count.ensures.ran (YieldsList-from_filter _ (puts c.args.kind) (YieldsList-from_slice c.args.changes.now cc) c.filter.ensures.closure (λ x b q k. search (rules, tests)))
    ∙ length-filter (puts c.args.kind) c.args.changes.now
