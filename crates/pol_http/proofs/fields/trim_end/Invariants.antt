use Rattle.std.proofs.Common.{◌≡◌, length, reverse}
use Rattle.httparse.specs.Grammar.{skip_ows}
use Rattle.pol_http.proofs.fields.trim_end.Given as goal

abbrev pub invariant-back : goal.invariant-back
invariant-back l = skip_ows (reverse l.rest) ≡ skip_ows (reverse l.fn.bytes)

abbrev pub decreases-back : goal.decreases-back
decreases-back l = length l.rest
