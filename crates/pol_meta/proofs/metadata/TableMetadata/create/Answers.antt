-- What is made is the metadata of a new table, which is valid, and weighs as much as what the table is asked for with.
use Rattle.std.proofs.Common.{rules, ◌≡◌, sym, subst}
use Rattle.pol_meta.specs.Creation.{created}
use Rattle.pol_meta.specs.Valid.{IsValid}
use Rattle.pol_meta.specs.Weight.{asked_weight, metadata_weight}
use Rattle.pol_meta.proofs.ValidLemmas.{created_valid}
use Rattle.pol_meta.proofs.WeightLemmas.{created_weight}
use Rattle.pol_meta.proofs.metadata.TableMetadata.create.Goals as goal

pub returns-clause-valid : goal.returns-clause-valid
unfolding created
returns-clause-valid c asked =
    let value : c.in_ok-assembled.field-0 ≡ created c.args.uuid c.args.location.now c.args.schema c.args.spec c.args.order c.args.properties c.args.moment = search rules in
    subst IsValid (sym value) (created_valid c.args.uuid c.args.location.now c.args.schema c.args.spec c.args.order c.args.properties c.args.moment asked c.in_ok-highest.ensures.passes)

pub returns-clause-weight : goal.returns-clause-weight
unfolding created
returns-clause-weight c =
    let value : c.in_ok-assembled.field-0 ≡ created c.args.uuid c.args.location.now c.args.schema c.args.spec c.args.order c.args.properties c.args.moment = search rules in
    subst (λ meta. metadata_weight meta ≡ asked_weight c.args.location.now c.args.schema c.args.spec c.args.order c.args.properties)
    (sym value) (created_weight c.args.uuid c.args.location.now c.args.schema c.args.spec c.args.order c.args.properties c.args.moment)
