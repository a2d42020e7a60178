use Rattle.std.proofs.Common.{ap, sym, ◌∙◌}
use Rattle.pol_objects.proofs.Sizes.{new, there}
use Rattle.pol_objects.specs.Rules.{size_refusal}
use Rattle.pol_objects.proofs.object_state.ObjectState.put_refusal.Goals as goal

pub returns-then-branch : goal.returns-then-branch
returns-then-branch c = there c.args.self.now c.args.path.now c.args.bytes.now (sym c.in_ok-contains.ensures ∙ c.if-branch.true)

pub returns : goal.returns
returns c =
    c.size_refusal.ensures ∙ ap (size_refusal c.args.self.now.counted) c.len.ensures
    ∙ new c.args.self.now c.args.path.now c.args.bytes.now (sym c.in_ok-contains.ensures ∙ c.if-branch.false)
