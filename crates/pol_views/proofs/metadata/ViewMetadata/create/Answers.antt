-- What is made is the metadata of a new view, which is valid, and weighs as much as what the view is asked for with.
use Rattle.std.proofs.Common.{rules, ◌≡◌, sym, subst}
use Rattle.pol_views.specs.Creation.{created_view}
use Rattle.pol_views.specs.Valid.{IsValidView}
use Rattle.pol_views.specs.Weight.{asked_view_weight, view_weight}
use Rattle.pol_views.proofs.ValidLemmas.{created_valid}
use Rattle.pol_views.proofs.WeightLemmas.{created_weight}
use Rattle.pol_views.proofs.metadata.ViewMetadata.create.Goals as goal

pub returns-clause-valid : goal.returns-clause-valid
unfolding created_view
returns-clause-valid c asked =
    let value : c.in_ok-assembled.field-0 ≡ created_view c.args.uuid c.args.location.now c.args.schema c.args.version c.args.properties c.args.moment = search rules in
    subst IsValidView (sym value) (created_valid c.args.uuid c.args.location.now c.args.schema c.args.version c.args.properties c.args.moment asked)

pub returns-clause-weight : goal.returns-clause-weight
unfolding created_view
returns-clause-weight c =
    let value : c.in_ok-assembled.field-0 ≡ created_view c.args.uuid c.args.location.now c.args.schema c.args.version c.args.properties c.args.moment = search rules in
    subst (λ meta. view_weight meta ≡ asked_view_weight c.args.location.now c.args.schema c.args.version c.args.properties)
    (sym value) (created_weight c.args.uuid c.args.location.now c.args.schema c.args.version c.args.properties c.args.moment)
