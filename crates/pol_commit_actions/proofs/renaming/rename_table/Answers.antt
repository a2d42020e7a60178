use Rattle.pol_content.specs.Content.{part_named}
use Rattle.pol_content.proofs.SoundLemmas.{part-free}
use Rattle.pol_rules.proofs.RulesLemmas.{name-free}
use Rattle.pol_commit_actions.proofs.RenamedLemmas.{other-name}
use Rattle.pol_commit_actions.proofs.renaming.rename_table.Goals as goal

pub renamed_changes-requires-clause-other : goal.renamed_changes-requires-clause-other
renamed_changes-requires-clause-other c =
    let content = c.args.asked.now.state.now.rows.content in
    let namespace = c.in_ok-namespace.namespace.now.id in
    let name = c.args.destination.now.name in
    other-name content.tables c.in_ok-row.row.now namespace name c.in_ok-row.ensures.1.1 (part-free namespace name content (name-free (part_named namespace name content) name c.in_ok-name_free.ensures.0)).0
