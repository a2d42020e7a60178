use Rattle.std.specs.Option.{option_copied}
use Rattle.pol_content.specs.Content.{namespace_id, is_namespace_named}
use Rattle.pol_access.proofs.NamesLemmas.{first_found}
use Rattle.pol_content.proofs.NamesLemmas.{namespaces_alike}
use Rattle.pol_content.proofs.content.Content.namespace.Goals as goal

pub returns-clause-first : goal.returns-clause-first
returns-clause-first c differ =
    rw (← c.self.view_is) (first_found namespace_id (is_namespace_named c.args.catalog c.args.levels.now) (λ left right. is_namespace_named left.catalog left.levels right) (namespaces_alike c.args.catalog c.args.levels.now) c.self.inside.namespaces.rows (rw (← c.self.view_is) at differ) (option_copied c.named.result) c.named.ensures)
