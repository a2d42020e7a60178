use Rattle.pol_routes.proofs.TableLemmas.{each_served}
use Rattle.pol_routes.proofs.laws.each_row_is_served.Goals as goal

pub returns : goal.returns
returns c = each_served
