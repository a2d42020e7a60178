use Rattle.pol_http.proofs.FrontLemmas.{refused_over_limit, may_within, open_within}
use Rattle.pol_http.proofs.head.unfinished.Goals as goal

pub returns-then-bytes-gt-HEAD_LIMIT : goal.returns-then-bytes-gt-HEAD_LIMIT
returns-then-bytes-gt-HEAD_LIMIT c = refused_over_limit c.args.bytes.now c.if-bytes-gt-HEAD_LIMIT.true c.requires.none

pub ends_in_bad_target-requires : goal.ends_in_bad_target-requires
ends_in_bad_target-requires c = may_within c.args.bytes.now c.if-bytes-gt-HEAD_LIMIT.false c.requires.some

pub returns : goal.returns
returns c =
    open_within c.args.bytes.now c.if-bytes-gt-HEAD_LIMIT.false c.requires.none c.if-ends_in_bad_target.ensures.good
