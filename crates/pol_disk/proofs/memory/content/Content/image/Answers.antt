use Rattle.std.proofs.Common.{sym, subst}
use Rattle.pol_disk.specs.Content.{IsImage}
use Rattle.pol_disk.proofs.ImagesLemmas.{overlay_is_image}
use Rattle.pol_disk.proofs.memory.content.Content.image.Goals as goal

pub returns-clause-image : goal.returns-clause-image
returns-clause-image c =
    subst (IsImage c.args.self.now) (sym c.in_ok-image.ensures)
    (overlay_is_image c.args.self.now c.args.filling.now c.requires.no_shorter c.requires.no_longer)
