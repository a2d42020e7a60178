use Rattle.std.proofs.Common.{sym, subst}
use Rattle.pol_state.specs.Sound.{IsSound}
use Rattle.pol_state.proofs.FreshLemmas.{fresh-made, fresh-sound}
use Rattle.pol_state.proofs.state.State.fresh.Goals as goal

pub returns : goal.returns
returns c =
    let made = fresh-made c.args.root_secret.now c.in_ok-fresh_access.field-0.rows c.new.result.rows c.new-2.result.rows c.in_ok-fresh_access.ensures c.new.ensures c.new-2.ensures in
    record { rows = made; sound = subst IsSound (sym made) (fresh-sound c.args.root_secret.now) }
