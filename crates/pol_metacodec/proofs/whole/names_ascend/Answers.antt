use Rattle.std.proofs.Common.{◌≡◌, false, arith}
use Rattle.pol_metacodec.specs.Whole.{is_below}
use Rattle.pol_metacodec.proofs.WholeLemmas.{all_neighbours_tell, ref_refuses}
use Rattle.pol_metacodec.proofs.whole.names_ascend.Goals as goal

pub returns-then-not-is_below : goal.returns-then-not-is_below
returns-then-not-is_below c =
    let wrong : false ≡ is_below c.index-refs-i.result c.index-refs-i-in-loop-i.result = cc in
    ref_refuses c.args.refs.now c.loop-i.i c.index-refs-i.result c.index-refs-i-in-loop-i.result c.loop-i.auto.i c.loop-i-test.true c.index-refs-i.is c.index-refs-i-in-loop-i.is wrong

pub returns : goal.returns
returns c = all_neighbours_tell c.args.refs.now (λ k d more. c.loop-i.invariant k d (omega (arith, more, c.loop-i-test.false)))
