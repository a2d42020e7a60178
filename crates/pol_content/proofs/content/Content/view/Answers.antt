use Rattle.std.specs.Option.{option_copied}
use Rattle.pol_access.proofs.NamesLemmas.{first_found}
use Rattle.pol_view_rows.specs.Views.{is_view_named, view_id}
use Rattle.pol_view_rows.proofs.NamesLemmas.{views_alike}
use Rattle.pol_content.proofs.content.Content.view.Goals as goal

pub returns-clause-first : goal.returns-clause-first
returns-clause-first c differ =
    rw (← c.self.view_is) (first_found view_id (is_view_named c.args.namespace c.args.name.now) (λ left right. is_view_named left.namespace left.name right) (views_alike c.args.namespace c.args.name.now) c.self.inside.views.rows (rw (← c.self.view_is) at differ) (option_copied c.named.result) c.named.ensures)
