use Rattle.pol_blocks.specs.Blocks.{flat}
use Rattle.pol_objects.proofs.Searches.{below-parted}
use Rattle.pol_objects.proofs.entries.place_of.Goals as goal

pub place_of-requires : goal.place_of-requires
place_of-requires c = below-parted c.args.text.now (flat c.args.entries.now) c.requires
