use Rattle.pol_init.proofs.SetUpLemmas.{none-yet, one-more, refused-by}
use Rattle.pol_init.proofs.setup.pass_all.Goals as goal

pub loop-index-init : goal.loop-index-init
loop-index-init c = none-yet c.args.state.now.rows c.args.commands.now c.requires.sound

pub returns-in-Err-clause-refused : goal.returns-in-Err-clause-refused
returns-in-Err-clause-refused c =
    refused-by _ _ _ _ c.loop-index.invariant _ _ c.loop-index-test.true c.index-commands-index.is c.in-Err.undone c.refused_at.result c.in-Err.ensures.refused c.refused_at.ensures

pub loop-index-preserved : goal.loop-index-preserved
loop-index-preserved c =
    one-more _ _ _ _ c.loop-index.invariant _ _ c.loop-index-test.true c.index-commands-index.is c.pass.new.state.rows c.in_default.ensures.rows c.in_default.ensures.sound c.in_default.ensures.passed
