use Rattle.std.proofs.Common.{ℕ, ◌-◌, ap}
use Rattle.pol_objects.proofs.Machines.{taken_back_state}
use Rattle.pol_objects.proofs.object_state.ObjectState.take_back.Goals as goal

pub returns : goal.returns
returns c before path bytes key long accepted was =
    taken_back_state before c.args.self.now path bytes _ _ accepted was (c.take.ensures.without path key) (ap (λ (n : ℕ). c.args.self.now.counted - n) long)
