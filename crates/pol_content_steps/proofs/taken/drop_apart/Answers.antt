use Rattle.std.proofs.Common.{◌&&◌, not, sym, ap, ◌∙◌}
use Rattle.std.proofs.lemmas.List.{nil_from_length}
use Rattle.pol_content_steps.specs.Taken.{drops_same}
use Rattle.pol_content_steps.proofs.taken.drop_apart.Goals as goal
use Rattle.pol_sound_access.specs.Judged.{all_differ}

pub returns-then-drop_again : goal.returns-then-drop_again
unfolding all_differ
returns-then-drop_again c =
    let others = all_differ drops_same c.in-Some.rest.now in
    sym (c.loop-first.invariant ∙ ap (all_differ drops_same) c.in-Some.ensures.cases.0 ∙ ap (λ again. not again && others) (sym c.drop_again.ensures ∙ c.if-drop_again.true))

pub loop-first-preserved : goal.loop-first-preserved
unfolding all_differ
loop-first-preserved c =
    let others = all_differ drops_same c.in-Some.rest.now in
    c.loop-first.invariant ∙ ap (all_differ drops_same) c.in-Some.ensures.cases.0 ∙ ap (λ again. not again && others) (sym c.drop_again.ensures ∙ c.if-drop_again.false)

pub returns : goal.returns
unfolding all_differ
returns c =
    sym (c.loop-first.invariant ∙ ap (all_differ drops_same) (nil_from_length c.loop-first.left.now c.in_default.ensures.cases))
