use Rattle.std.proofs.Common.{sym, ◌∙◌, true≢false}
use Rattle.pol_content_steps.proofs.AlongLemmas.{all-along}
use Rattle.pol_content_steps.proofs.taken.drop_all.Goals as goal
use Rattle.pol_content_steps.proofs.taken.drop_all.Goals.{then-is_named_by_at_most, else-is_named_by_at_most}

pub returns-then-drop_known : goal.returns-then-drop_known
returns-then-drop_known c = elim c.if-is_named_by_at_most.branch [
  | then-is_named_by_at_most w ↦
      let known = sym w.drop_known.ensures ∙ sym w.value-is ∙ c.if-drop_known.true in
      let few = c.is_named_by_at_most.ensures w.if-is_named_by_at_most.true in
      λ apart. all-along c.args.access.now.rows c.args.one c.args.changes.now c.requires known (sym c.drop_apart.ensures ∙ apart) few
  | else-is_named_by_at_most w ↦ absurd (true≢false (sym c.if-drop_known.true ∙ w.value-is ∙ w.if-is_named_by_at_most.false))
]
