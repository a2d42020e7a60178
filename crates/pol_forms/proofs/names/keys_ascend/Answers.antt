use Rattle.std.proofs.Common.{◌≡◌, false, arith}
use Rattle.pol_forms.specs.Names.{is_below}
use Rattle.pol_forms.proofs.PropertyLemmas.{all_neighbours_tell, pair_refuses}
use Rattle.pol_forms.proofs.names.keys_ascend.Goals as goal

pub returns-then-not-is_below : goal.returns-then-not-is_below
returns-then-not-is_below c =
    let wrong : false ≡ is_below c.index-pairs-i.result c.index-pairs-i-in-loop-i.result = cc in
    pair_refuses c.args.pairs.now c.loop-i.i c.index-pairs-i.result c.index-pairs-i-in-loop-i.result c.loop-i.auto.i c.loop-i-test.true c.index-pairs-i.is c.index-pairs-i-in-loop-i.is wrong

pub returns : goal.returns
returns c = all_neighbours_tell c.args.pairs.now (λ k d more. c.loop-i.invariant k d (omega (arith, more, c.loop-i-test.false)))
