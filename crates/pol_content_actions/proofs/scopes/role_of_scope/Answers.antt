use Rattle.std.proofs.Common.{sym, ◌∙◌}
use Rattle.pol_access.specs.Access.{principal_role_name}
use Rattle.pol_rules.specs.Rules.{role_of_scope}
use Rattle.pol_content_actions.proofs.ScopesLemmas.{find-no_scope, find-scope}
use Rattle.pol_content_actions.proofs.scopes.role_of_scope.Goals as goal

pub returns-in_err-name : goal.returns-in_err-name
unfolding role_of_scope
returns-in_err-name c =
    rw (c.from_residual.ensures) (sym (find-no_scope principal_role_name c.args.scope.now c.args.access.now.rows.principal_roles c.in_err-name.ensures))

pub returns : goal.returns
unfolding role_of_scope
returns c =
    c.principal_role_named.ensures.only c.requires ∙ sym (find-scope principal_role_name c.args.scope.now c.in_ok-name.name.now c.args.access.now.rows.principal_roles c.in_ok-name.ensures)
