use Rattle.std.proofs.Common.{◌∙◌}
use Rattle.pol_blocks.specs.Blocks.{flat}
use Rattle.pol_objects.specs.Entries.{bytes_under}
use Rattle.pol_objects.specs.Objects.{kept_objects, object_at}
use Rattle.pol_objects.proofs.Kept.{found, if-found}
use Rattle.pol_objects.proofs.object_map.ObjectMap.get.Goals as goal

pub returns-clause-found : goal.returns-clause-found
returns-clause-found c =
    let entries = flat c.self.inside.by_text in
    let text = c.as_bytes.result.now in
    let path = c.args.path.now in
    rw (← c.self.view_is)
    (if-found path (bytes_under entries text) (object_at (kept_objects entries) path) c.share.result
    (found entries text path c.self.invariant c.in_ok-text.ensures.located (c.as_bytes.ensures ∙ c.in_ok-text.ensures.text)) c.share.ensures.found)
