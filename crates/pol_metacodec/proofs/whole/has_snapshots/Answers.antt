use Rattle.std.proofs.Common.{◌∙◌}
use Rattle.pol_metacodec.proofs.IdLemmas.{named_snapshots}
use Rattle.pol_metacodec.proofs.whole.has_snapshots.Goals as goal

pub returns : goal.returns
returns c =
    c.are_named.ensures ∙ named_snapshots c.in_ok-ids.ids.keys c.args.meta.now c.args.meta.now.refs c.in_ok-ids.ensures
