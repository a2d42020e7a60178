use Rattle.pol_viewcodec.specs.Views.{view}
use Rattle.pol_viewcodec.proofs.laws.views_are_read_back.Goals as goal

pub returns : goal.returns
returns c = view.reads_back
