use Rattle.std.proofs.Common.{◌∙◌}
use Rattle.pol_state.proofs.FreshLemmas.{fresh-access}
use Rattle.pol_state.proofs.state.fresh_access.Goals as goal

pub returns : goal.returns
returns c =
    fresh-access c.args.root_secret.now c.in_ok-root.root c.in_ok-service_admin.service_admin c.reserve.new.self.rows c.put_principal.new.self.rows c.put_principal_role.new.self.rows c.put_member.new.self.rows
    c.in_ok-root.ensures c.in_ok-service_admin.ensures (c.reserve.ensures.rows ∙ c.new-access.ensures) c.put_principal.ensures.rows c.put_principal_role.ensures.rows c.put_member.ensures.rows
