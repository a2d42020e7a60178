use Rattle.std.proofs.Common.{◌∙◌, ap, nat_eq}
use Rattle.std.specs.List.{list_any}
use Rattle.pol_commit_actions.proofs.OverlapLemmas.{among-at}
use Rattle.pol_commit_actions.proofs.locations.all_apart.Goals as goal

pub apart-requires-clause-among : goal.apart-requires-clause-among
apart-requires-clause-among c =
    ap (list_any (λ owner. nat_eq owner c.table-item.result.after.id)) (c.as_slice.ensures.value ∙ c.in_ok-ids.ensures)
    ∙ among-at c.args.tables.now c.loop-table.table-index c.table-item.result c.loop-table-test.true c.table-item.is
