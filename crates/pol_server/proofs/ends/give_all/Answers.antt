use Rattle.pol_server.proofs.EndsLemmas.{front-failed, front-more, rest-whole}
use Rattle.pol_server.proofs.ends.give_all.Goals as goal

pub returns-in_err-given : goal.returns-in_err-given
returns-in_err-given g c =
    front-failed _ _ _ c.args.text.now _ c.loop-given.given _ c.from_residual.result c.from_residual.ensures.0 c.loop-given.invariant c.in_err-given.ensures.given

pub loop-given-preserved : goal.loop-given-preserved
loop-given-preserved g c =
    front-more _ _ _ c.args.text.now _ c.loop-given.given c.in_ok-given.field-0 (rest-whole c.args.text.now c.loop-given.given) c.loop-given.invariant c.in_ok-given.ensures.given c.in_ok-given.ensures.bound
