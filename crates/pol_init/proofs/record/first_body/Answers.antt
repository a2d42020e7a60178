use Rattle.std.proofs.Common.{◌≡◌, rules}
use Rattle.pol_rules.specs.Live.{live_part}
use Rattle.pol_state.specs.Changes.{changes_between}
use Rattle.pol_state.specs.Rows.{empty_state}
use Rattle.pol_init.proofs.FormLemmas.{form-told}
use Rattle.pol_init.proofs.record.first_body.Goals as goal

pub returns-clause-form : goal.returns-clause-form
returns-clause-form c =
    let s = c.args.state.now.rows in
    let list : c.as_slice.result.now ≡ changes_between empty_state (live_part s) = search rules in
    form-told s c.as_slice.result.now c.in_ok-body.body.items c.requires list c.in_ok-body.ensures.form
