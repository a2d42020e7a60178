use Rattle.std.proofs.Common.{◌∙◌}
use Rattle.pol_objects.proofs.Searches.{there}
use Rattle.pol_objects.proofs.entries.contains.Goals as goal

pub returns : goal.returns
returns c = c.is_some.ensures ∙ there c.args.text.now c.args.entries.now c.seek.result c.seek.ensures
