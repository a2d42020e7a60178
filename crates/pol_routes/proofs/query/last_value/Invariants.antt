use Rattle.std.proofs.Common.{◌≡◌, option_map, take, length}
use Rattle.form_urlencoded.specs.Form.{decode, parse}
use Rattle.pol_routes.proofs.QueryLemmas.{last_of}
use Rattle.pol_routes.proofs.query.last_value.Given as goal

abbrev pub invariant-loop-name : goal.invariant-loop-name
invariant-loop-name l = option_map (λ value. decode value.now) l.last ≡ last_of l.key (take (length l.yielded) (parse l.query))
