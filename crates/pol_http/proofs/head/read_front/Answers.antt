use Rattle.std.proofs.Common.{length, arith, length-take, ap}
use Rattle.pol_http.specs.declared.head.TheConstants.{HEAD_LIMIT}
use Rattle.pol_http.proofs.FrontLemmas.{Judges-take, refused_never}
use Rattle.pol_http.proofs.head.read_front.Goals as goal

pub judged-requires-clause-short : goal.judged-requires-clause-short
judged-requires-clause-short c = omega (arith, ap length c.front_of-front.ensures, length-take HEAD_LIMIT c.args.bytes.now)

pub returns-in-Ok-Complete : goal.returns-in-Ok-Complete
returns-in-Ok-Complete c = Judges-take c.args.bytes.now c.judged.result (rw (← c.front_of-front.ensures) c.judged.ensures)

pub returns-in_default : goal.returns-in_default
returns-in_default c =
    refused_never c.args.bytes.now (rw (← c.front_of-front.ensures) (c.in-Err.ensures.invalid c.in_default.not-TooManyHeaders))
