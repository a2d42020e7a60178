use Rattle.std.proofs.Common.{◌≡◌, true, false}
use Rattle.std.specs.List.{list_all}
use Rattle.pol_rules.specs.Rules.{is_scope}
use Rattle.pol_content_actions.proofs.ScopesLemmas.{scopes-passed, scopes-refused}
use Rattle.pol_content_actions.proofs.scopes.scopes_there.Goals as goal

pub returns-then-not-are_scopes : goal.returns-then-not-are_scopes
returns-then-not-are_scopes c =
    let refused : list_all (is_scope c.args.asked.now.state.now.rows.access c.args.principal) c.args.scopes.now ≡ false = cc in
    scopes-refused c.args.asked.now.state.now.rows c.args.principal c.args.scopes.now refused

pub returns : goal.returns
returns c =
    let passed : list_all (is_scope c.args.asked.now.state.now.rows.access c.args.principal) c.args.scopes.now ≡ true = cc in
    (scopes-passed c.args.asked.now.state.now.rows c.args.principal c.args.scopes.now passed, tt)
