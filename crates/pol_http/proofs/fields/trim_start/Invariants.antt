use Rattle.std.proofs.Common.{◌≡◌, length}
use Rattle.httparse.specs.Grammar.{skip_ows}
use Rattle.pol_http.proofs.fields.trim_start.Given as goal

abbrev pub invariant-front : goal.invariant-front
invariant-front l = skip_ows l.rest ≡ skip_ows l.fn.bytes

abbrev pub decreases-front : goal.decreases-front
decreases-front l = length l.rest
