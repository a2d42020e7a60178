use Rattle.std.proofs.Common.{refl}
use Rattle.pol_server.specs.Stores.{seen_of}
use Rattle.pol_server.specs.Serving.{standing}
use Rattle.pol_server.proofs.GoesLemmas.{finishes-after}
use Rattle.pol_server.proofs.StoresLemmas.{catalogue-same, catalogue-trans, objects-same, objects-trans}
use Rattle.pol_server.proofs.ServeLemmas.{served-on, served-start, stopped-on}
use Rattle.pol_server.proofs.connection.Connection.serve_by.Goals as goal

pub loop-ending-init : goal.loop-ending-init
loop-ending-init g c =
    let d = g.D.Disk in
    let o = g.O.Disk in record {
      served = served-start (g.L.Linked.ends c.args.link.now) (seen_of c.args.stores.now) c.args.self.now c.requires.stop c.requires.told;
      catalogue = catalogue-same d.seen d.may_leave d.clock d.left_since d.fault_count c.args.stores.now.catalogue;
      objects = objects-same o.seen o.may_leave o.clock o.left_since o.fault_count c.args.stores.now.objects;
    }

pub loop-ending-preserved : goal.loop-ending-preserved
loop-ending-preserved g c =
    let ends = g.L.Linked.ends in
    let d = g.D.Disk in
    let o = g.O.Disk in
    let kept = c.loop-ending.invariant in record {
      served = served-on (ends c.args.link.now) (ends c.loop-ending.link) (ends c.advance.new.link) (seen_of c.args.stores.now) (seen_of c.loop-ending.stores) (seen_of c.advance.new.stores) c.args.self.now c.loop-ending.self c.advance.new.self
          kept.served c.in_default.ensures.moves (c.in_default.ensures.told refl) c.in_default.ensures.stops;
      catalogue = catalogue-trans d.seen d.may_leave d.clock d.left_since d.fault_count c.args.stores.now.catalogue c.loop-ending.stores.catalogue c.advance.new.stores.catalogue kept.catalogue c.in_default.ensures.catalogue;
      objects = objects-trans o.seen o.may_leave o.clock o.left_since o.fault_count c.args.stores.now.objects c.loop-ending.stores.objects c.advance.new.stores.objects kept.objects c.in_default.ensures.objects;
    }

pub returns-in-Some-clause-finishes : goal.returns-in-Some-clause-finishes
returns-in-Some-clause-finishes g c =
    let ends = g.L.Linked.ends in
    finishes-after c.in-Some.ending (standing (ends c.args.link.now) (seen_of c.args.stores.now) c.args.self.now) (standing (ends c.loop-ending.link) (seen_of c.loop-ending.stores) c.loop-ending.self) (standing (ends c.advance.new.link) (seen_of c.advance.new.stores) c.advance.new.self)
    c.loop-ending.invariant.served.goes c.in-Some.ensures.moves

pub returns-in-Some-clause-stopped : goal.returns-in-Some-clause-stopped
returns-in-Some-clause-stopped g c =
    let ends = g.L.Linked.ends in
    let served = c.loop-ending.invariant.served in
    stopped-on (ends c.args.link.now) (ends c.loop-ending.link) (ends c.advance.new.link) c.loop-ending.self c.advance.new.self served.goes.goes.source_faults served.stopped c.in-Some.ensures.stops

pub returns-in-Some-clause-catalogue : goal.returns-in-Some-clause-catalogue
returns-in-Some-clause-catalogue g c =
    let d = g.D.Disk in
    catalogue-trans d.seen d.may_leave d.clock d.left_since d.fault_count c.args.stores.now.catalogue c.loop-ending.stores.catalogue c.advance.new.stores.catalogue c.loop-ending.invariant.catalogue c.in-Some.ensures.catalogue

pub returns-in-Some-clause-objects : goal.returns-in-Some-clause-objects
returns-in-Some-clause-objects g c =
    let o = g.O.Disk in
    objects-trans o.seen o.may_leave o.clock o.left_since o.fault_count c.args.stores.now.objects c.loop-ending.stores.objects c.advance.new.stores.objects c.loop-ending.invariant.objects c.in-Some.ensures.objects
