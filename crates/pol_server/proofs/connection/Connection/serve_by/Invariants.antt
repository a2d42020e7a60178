use Rattle.pol_server.specs.Stores.{KeepsCatalogue, KeepsObjects, seen_of}
use Rattle.pol_server.specs.Serving.{work_of}
use Rattle.pol_server.proofs.ServeLemmas.{IsServed}
use Rattle.pol_server.proofs.connection.Connection.serve_by.Given as goal

abbrev pub invariant-loop-ending : goal.invariant-loop-ending
invariant-loop-ending g l = record {
  served : IsServed (g.L.Linked.ends l.fn.link) (g.L.Linked.ends l.link) (seen_of l.fn.stores) (seen_of l.stores) l.fn.self l.self;
  catalogue : KeepsCatalogue g.D.Disk.seen g.D.Disk.may_leave g.D.Disk.clock g.D.Disk.left_since g.D.Disk.fault_count l.fn.stores.catalogue l.stores.catalogue;
  objects : KeepsObjects g.O.Disk.seen g.O.Disk.may_leave g.O.Disk.clock g.O.Disk.left_since g.O.Disk.fault_count l.fn.stores.objects l.stores.objects;
}

abbrev pub decreases-loop-ending : goal.decreases-loop-ending
decreases-loop-ending g l = work_of l.self
