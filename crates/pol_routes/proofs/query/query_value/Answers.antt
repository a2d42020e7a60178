use Rattle.std.proofs.Common.{List, ℕ, option_map, sym, ap, ◌∙◌}
use Rattle.std.specs.Borrow.{Bor}
use Rattle.form_urlencoded.specs.Form.{decode}
use Rattle.pol_routes.specs.Query.{readable}
use Rattle.pol_routes.proofs.query.query_value.Goals as goal

pub returns-in-None : goal.returns-in-None
unfolding readable
returns-in-None c =
    sym (ap (readable c.args.key.now)
    (ap (option_map (λ (value : Bor (List ℕ)). decode value.now)) (sym c.in-None.is) ∙ c.in_ok-value.ensures))
