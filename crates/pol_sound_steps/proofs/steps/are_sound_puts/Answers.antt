use Rattle.std.proofs.Common.{◌≡◌, List, true, sym, subst, IfOk}
use Rattle.pol_content.specs.declared.change.Change.{Change}
use Rattle.pol_access_steps.specs.Counters.{counted}
use Rattle.pol_sound_steps.proofs.ItemsLemmas.{one-item, two-items}
use Rattle.pol_soundness.specs.Base.{rows_after}
use Rattle.pol_state.specs.Sound.{IsSound}
use Rattle.pol_sound_steps.proofs.steps.are_sound_puts.Goals as goal

pub returns-then-is_sound_drop : goal.returns-then-is_sound_drop
unfolding rows_after
returns-then-is_sound_drop c = λ is. c.is_sound_drop.ensures c.if-is_sound_drop.true

pub returns-then-is_sound_catalog : goal.returns-then-is_sound_catalog
unfolding rows_after
returns-then-is_sound_catalog c = λ is. c.is_sound_catalog.ensures c.if-is_sound_catalog.true

pub returns-in-len1 : goal.returns-in-len1
unfolding rows_after
returns-in-len1 c =
    let at = counted c.args.state.now.rows c.args.counters in
    let is = one-item c.args.puts.now c.only-item.result c.in-len1.len_at_least c.in-len1.len_below c.only-item.is in
    subst (λ (puts : List Change). IfOk c.is_sound_put.result (λ sound. sound ≡ true → IsSound (rows_after puts at))) (sym is) c.is_sound_put.ensures

pub returns-then-branch : goal.returns-then-branch
unfolding rows_after
returns-then-branch c =
    let at = counted c.args.state.now.rows c.args.counters in
    let is = two-items c.args.puts.now c.first-item.result c.second-item.result c.in-len2.len_at_least c.in-len2.len_below c.first-item.is c.second-item.is in
    λ passes. subst (λ (puts : List Change). IsSound (rows_after puts at)) (sym is) (c.in_ok-is_sound_pair-in-len2.ensures c.if-branch.true)
