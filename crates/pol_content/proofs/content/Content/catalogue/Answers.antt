use Rattle.std.specs.Option.{option_copied}
use Rattle.pol_content.specs.Content.{catalog_id, is_catalog_named}
use Rattle.pol_access.proofs.NamesLemmas.{first_found}
use Rattle.pol_content.proofs.NamesLemmas.{catalogs_alike}
use Rattle.pol_content.proofs.content.Content.catalogue.Goals as goal

pub returns-clause-first : goal.returns-clause-first
returns-clause-first c differ =
    rw (← c.self.view_is) (first_found catalog_id (is_catalog_named c.args.name.now) (λ left right. is_catalog_named left.name right) (catalogs_alike c.args.name.now) c.self.inside.catalogs.rows (rw (← c.self.view_is) at differ) (option_copied c.named.result) c.named.ensures)
