use Rattle.std.proofs.Common.{◌≡◌, ◌≤◌, ◌+◌, length, arith}
use Rattle.pol_objects.proofs.Machines.{absent, fits}
use Rattle.pol_objects.proofs.object_state.ObjectState.store.Goals as goal

pub insert-requires : goal.insert-requires
insert-requires c =
    record { new = absent c.args.self.now c.args.path.now c.args.bytes.now c.requires }

pub overflow_add-self : goal.overflow_add-self
overflow_add-self c =
    let bound : c.args.self.now.counted + length c.args.bytes.now ≤ 268435456 = fits c.args.self.now c.args.path.now c.args.bytes.now c.requires in
    let same : c.len.result ≡ length c.args.bytes.now = c.len.ensures in
    omega arith
