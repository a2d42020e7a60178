use Rattle.std.proofs.Common.{List, sym, subst}
use Rattle.std.specs.List.{fold}
use Rattle.pol_content.specs.declared.change.Change.{Change}
use Rattle.pol_access_steps.specs.Counters.{counted}
use Rattle.pol_state.specs.Applied.{changed}
use Rattle.pol_state.specs.Sound.{IsSound}
use Rattle.pol_content_steps.proofs.drops.is_sound_drop.Goals as goal

pub returns-in-Some : goal.returns-in-Some
returns-in-Some c =
    let at = counted c.args.state.now.rows c.args.counters in
    λ passes. subst (λ (changes : List Change). IsSound (fold changed at changes)) (sym c.in-Some.ensures.cases.0) (c.may_drop.ensures passes)
