use Rattle.std.proofs.Common.{◌≡◌, true, sym, ap, ◌∙◌}
use Rattle.pol_content.specs.Content.{ContentRows}
use Rattle.pol_content.specs.declared.change.Change.TheVariants.{PutView}
use Rattle.pol_sound_access.proofs.FoundLemmas.{if_ok}
use Rattle.pol_access_steps.specs.Counters.{counted}
use Rattle.pol_content_steps.specs.Views.{may_place_view, may_replace_view}
use Rattle.pol_access_steps.proofs.CountersLemmas.{counted-sound}
use Rattle.pol_content_steps.proofs.ViewLemmas.{placed-view-sound, replaced-view-sound}
use Rattle.pol_state.specs.Applied.{changed}
use Rattle.pol_state.specs.Sound.{IsSound}
use Rattle.pol_tables.specs.Table.{row_of}
use Rattle.pol_view_rows.specs.Views.{view_id}
use Rattle.pol_content_steps.proofs.views.may_put_view.Goals as goal

pub returns-in_default : goal.returns-in_default
returns-in_default c =
    let s = c.args.state.now.rows in
    let row = c.args.row.now in
    if_ok (λ may. may ≡ may_place_view s c.args.counters row) (λ sound. sound ≡ true → IsSound (changed (counted s c.args.counters) (PutView row))) c.may_place_view.result
    (λ may is passes. placed-view-sound s c.requires.sound c.args.counters c.requires.follows row c.requires.valid (sym is ∙ passes)) c.may_place_view.ensures

pub returns : goal.returns
returns c =
    let s = c.args.state.now.rows in
    let row = c.args.row.now in
    let found = sym (c.in-Some.ensures ∙ ap (λ (rows : ContentRows). row_of view_id row.id rows.views) c.content.ensures) in
    let old = c.in-Some.old.now in
    let base = counted-sound s c.requires.sound c.args.counters c.requires.follows in
    if_ok (λ may. may ≡ may_replace_view s old row) (λ sound. sound ≡ true → IsSound (changed (counted s c.args.counters) (PutView row))) c.may_replace_view.result
    (λ may is passes. replaced-view-sound (counted s c.args.counters) base old row found c.requires.valid (sym is ∙ passes)) c.may_replace_view.ensures
