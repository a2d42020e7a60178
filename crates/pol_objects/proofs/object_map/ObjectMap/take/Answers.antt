use Rattle.std.proofs.Common.{◌∙◌}
use Rattle.pol_blocks.specs.Blocks.{flat}
use Rattle.pol_objects.proofs.Kept.{removed, there}
use Rattle.pol_objects.proofs.object_map.ObjectMap.take.Goals as goal

pub invariant_of-self : goal.invariant_of-self
invariant_of-self c =
    (removed (flat c.self.inside.by_text) (flat c.remove.new.entries) c.as_bytes.result.now c.requires.0 c.self.invariant (c.as_bytes.ensures ∙ c.requires.1)
    c.remove.ensures.without c.remove.ensures.rising).kept

pub returns-clause-taken : goal.returns-clause-taken
returns-clause-taken c path location is =
    rw (← c.self.view_is)
    (c.remove.ensures.taken ∙ there (flat c.self.inside.by_text) c.as_bytes.result.now path c.self.invariant location (c.as_bytes.ensures ∙ is))

pub returns-clause-without : goal.returns-clause-without
returns-clause-without c path is =
    rw (← c.self.view_is)
    (removed (flat c.self.inside.by_text) (flat c.remove.new.entries) c.as_bytes.result.now path c.self.invariant (c.as_bytes.ensures ∙ is)
    c.remove.ensures.without c.remove.ensures.rising).holds
