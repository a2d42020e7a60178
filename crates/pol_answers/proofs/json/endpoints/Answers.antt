use Rattle.pol_answers.proofs.JsonLemmas.{endpoints_more}
use Rattle.pol_answers.proofs.json.endpoints.Goals as goal

pub loop-row-preserved : goal.loop-row-preserved
loop-row-preserved c =
    endpoints_more c.loop-row.texts.items c.add_endpoint.new.texts.items c.args.rows.now c.loop-row.row-index _ c.loop-row-test.true c.loop-row.invariant c.in_ok-add_endpoint.ensures
