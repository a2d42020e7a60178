use Rattle.std.proofs.Common.{◌≡◌, true, sym, ap, subst, ◌∙◌}
use Rattle.pol_content.specs.declared.change.Change.{Change}
use Rattle.pol_content.specs.declared.change.Change.TheVariants.{PutTable, PutToken}
use Rattle.pol_sound_access.proofs.FoundLemmas.{if_ok}
use Rattle.pol_access_steps.specs.Counters.{counted}
use Rattle.pol_sound_steps.specs.Steps.{may_place_table}
use Rattle.pol_sound_steps.proofs.TableLemmas.{placed-sound}
use Rattle.pol_sound_steps.proofs.TokenLemmas.{issued_of-sound}
use Rattle.pol_state.specs.Applied.{changed}
use Rattle.pol_state.specs.Sound.{IsSound}
use Rattle.pol_sound_steps.proofs.steps.is_sound_pair.Goals as goal

pub returns : goal.returns
returns c =
    let s = c.args.state.now.rows in
    let at = counted s c.args.counters in
    let table = c.row-row.result.now in
    let token = c.row-2.result.now in
    let first : c.args.first.now ≡ PutTable table = c.in-PutTable-PutToken.is-0 ∙ ap PutTable (sym (c.row-row.ensures ∙ c.row.ensures)) in
    let second : c.args.second.now ≡ PutToken token = c.in-PutTable-PutToken.is-1 ∙ ap PutToken (sym c.row-2.ensures) in
    let issued = sym c.may_issue_of.ensures ∙ c.if-not-may_issue_of.false in
    if_ok (λ may. may ≡ may_place_table s c.args.counters table) (λ sound. sound ≡ true → IsSound (changed (changed at c.args.first.now) c.args.second.now)) c.may_place_table.result
    (λ may is passes.
    let placed = placed-sound s c.requires.sound c.args.counters c.requires.follows table (c.requires.change.table table first) (sym is ∙ passes) in
    subst (λ (put : Change). IsSound (changed (changed at put) c.args.second.now)) (sym first) (subst (λ (put : Change). IsSound (changed (changed at (PutTable table)) put)) (sym second) (issued_of-sound s c.requires.sound c.args.counters c.requires.follows table token placed issued))) c.may_place_table.ensures
