use Rattle.std.proofs.Common.{ℕ, Ok, ◌∙◌, rules, tests}
use Rattle.std.proofs.lemmas.Iterator.{items_from_collect, YieldsList-from_slice}
use Rattle.std.proofs.lemmas.Iterator.Consumers.{YieldsList-from_filter_map}
use Rattle.pol_rules.specs.Rules.{held_role}
use Rattle.pol_content_actions.proofs.scopes.held_roles.Goals as goal

pub returns : goal.returns
returns c =
    c.from.ensures
    ∙ items_from_collect {E = ℕ} (Ok c.in_ok-roles.roles) c.in_ok-roles.ensures.ran (YieldsList-from_filter_map _ (held_role c.args.access.now.rows c.args.principal) (YieldsList-from_slice c.args.scopes.now cc) c.filter_map.ensures.closure (λ x r q k. search (rules, tests)))
