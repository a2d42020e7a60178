use Rattle.pol_cli.proofs.TextLemmas.{front-failed, front-more, rest-whole}
use Rattle.pol_cli.proofs.told.give_all.Goals as goal

pub returns-in_err-count-clause-given : goal.returns-in_err-count-clause-given
returns-in_err-count-clause-given g c =
    front-failed _ _ _ _ _ _ c.args.text.now c.loop-count.count c.loop-count.invariant _ c.in_err-count.ensures.bytes c.in_err-count.ensures.count

pub loop-count-preserved : goal.loop-count-preserved
loop-count-preserved g c =
    front-more _ _ _ _ _ _ c.args.text.now c.loop-count.count c.loop-count.invariant _ c.in_ok-count.field-0 (rest-whole c.args.text.now c.loop-count.count) c.in_ok-count.ensures.bytes c.in_ok-count.ensures.count c.in_ok-count.ensures.bound
