use Rattle.std.proofs.Common.{◌++◌, ◌∙◌, ap}
use Rattle.pol_blocks.specs.Blocks.{flat}
use Rattle.pol_objects.specs.Entries.{bytes_under}
use Rattle.pol_objects.specs.Objects.{path_of, paths_behind}
use Rattle.pol_objects.proofs.Covered.{listed}
use Rattle.pol_objects.proofs.object_map.ObjectMap.paths_under.Goals as goal

pub returns : goal.returns
returns c =
    rw (← c.self.view_is)
    (c.from.ensures ∙ c.in_ok-push_below.ensures
    ∙ ap (λ front. front ++ paths_behind c.in_ok-text.text (flat c.self.inside.by_text))
    (c.in_ok-push_at.ensures ∙ ap (λ front. front ++ path_of c.args.path.now (bytes_under (flat c.self.inside.by_text) c.in_ok-text.text)) c.new-paths.ensures.items)
    ∙ listed (flat c.self.inside.by_text) c.in_ok-text.text c.args.path.now c.self.invariant c.in_ok-text.ensures.text c.in_ok-text.ensures.located)
