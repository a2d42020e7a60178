use Rattle.std.proofs.Common.{◌∙◌}
use Rattle.pol_blocks.specs.Blocks.{flat}
use Rattle.pol_objects.proofs.Kept.{there}
use Rattle.pol_objects.proofs.object_map.ObjectMap.contains.Goals as goal

pub returns : goal.returns
returns c =
    rw (← c.self.view_is)
    (c.contains.ensures
    ∙ there (flat c.self.inside.by_text) c.as_bytes.result.now c.args.path.now c.self.invariant c.in_ok-text.ensures.located (c.as_bytes.ensures ∙ c.in_ok-text.ensures.text))
