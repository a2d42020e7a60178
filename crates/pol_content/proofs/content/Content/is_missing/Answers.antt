use Rattle.pol_content.specs.Content.{is_namespace_named, namespace_id}
use Rattle.pol_content.proofs.NamesLemmas.{none-found}
use Rattle.pol_content.proofs.content.Content.is_missing.Goals as goal

pub returns : goal.returns
returns c =
    none-found namespace_id (is_namespace_named c.args.catalog c.args.levels.now) c.args.self.now.rows.namespaces c.namespace.result c.is_none.result c.is_none.ensures c.namespace.ensures.found
