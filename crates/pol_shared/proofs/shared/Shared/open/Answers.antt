use Rattle.pol_shared.proofs.OpenedLemmas.{opened-at}
use Rattle.pol_shared.proofs.shared.Shared.open.Goals as goal

pub returns-in-Ok-clause-opened : goal.returns-in-Ok-clause-opened
returns-in-Ok-clause-opened g c file told =
    let reopens = c.in-Ok.ensures.opened file told in
    record {
      bodies = reopens.bodies;
      some = reopens.some;
      leads = reopens.leads;
      stands = reopens.stands;
      opened = opened-at g.D.Disk.seen g.D.Disk.may_leave g.D.Disk.clock g.D.Disk.left_since g.D.Disk.fault_count file c.in-Ok.kept c.in-Ok.ensures.new.history reopens;
      images = reopens.images;
    }
