use Rattle.std.proofs.Common.{◌≡◌, length, arith}
use Rattle.pol_columncodec.proofs.DistinctLemmas.{counted}
use Rattle.pol_columncodec.proofs.distinct.differ.Goals as goal

pub returns : goal.returns
returns g c =
    let long : c.len-count.result ≡ length c.args.keys.items = omega (arith, c.len-count.ensures, c.args.keys.ok) in
    rw (c.len.ensures.len, long) (counted g.met.K.Eq.laws c.args.keys.items c.in_ok-set.set c.in_ok-set.ensures)
