use Rattle.std.proofs.Common.{[], ◌∷◌, ◌+◌, sym, ◌∙◌}
use Rattle.pol_content.specs.declared.change.Change.TheVariants.{Time, NextId, PutCatalogRole, PutGrant, PutJoin}
use Rattle.pol_rules.specs.Rules.{time_of}
use Rattle.pol_content_actions.proofs.ChangesLemmas.{admin-last, changes-with_catalog}
use Rattle.pol_content_actions.proofs.catalogs.creation_changes.Goals as goal

pub returns : goal.returns
returns c =
    let s = c.args.asked.now.state.now.rows in
    let command = c.args.asked.now.command.now in
    let new = admin-last s c.requires.sound c.args.row.id c.args.service.now.id c.requires.id in
    let admin = rw (c.in_ok-admin.ensures.first) at c.catalog_admin-admin.ensures in
    let put = rw (c.in_ok-admin.ensures.second) at c.put_catalog.ensures in
    c.from.ensures
    ∙ c.in_ok-vec.ensures.items
    ∙ (λ i. Time (c.time_of.ensures i) ∷ NextId (c.requires.id i + 2) ∷ put i ∷ PutCatalogRole (admin i) ∷ PutJoin (record { principal_role = c.args.service.now.id; catalog_role = (admin i).id }) ∷ PutGrant (c.admin_grant.ensures i) ∷ PutGrant (c.admin_grant-2.ensures i) ∷ [])
    ∙ sym (changes-with_catalog s c.requires.sound (time_of s command) (s.charged + command.charge) c.args.row c.args.service.now c.requires.id new.0 new.1)
