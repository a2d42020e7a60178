use Rattle.pol_sound_bounds.proofs.BoundLemmas.{bounds-told}
use Rattle.pol_sound_bounds.proofs.bounds.is_within_bounds.Goals as goal

pub returns-clause-within : goal.returns-clause-within
returns-clause-within c =
    bounds-told c.args.access.now.rows c.args.content.now.rows c.args.next_id c.args.next_serial c.passes.result c.passes.ensures
