use Rattle.std.proofs.Common.{inl, inr, ap, refl, ◌∙◌}
use Rattle.pol_server.specs.Ends.{Ends, ends_of}
use Rattle.pol_cli.specs.Disks.{Tells, tells_of}
use Rattle.pol_cli.specs.Reasons.{reason_not_opened, report_of}
use Rattle.pol_cli.specs.Files.{RunsFiles}
use Rattle.pol_cli.proofs.FilesLemmas.{cause-files, planned-files, serves-files, status-files}
use Rattle.pol_cli.proofs.files.exec_files.Goals as goal

pub returns-in-Ok : goal.returns-in-Ok
returns-in-Ok g c =
    let d : Tells g.row.D.Denot = tells_of g.D.Disk.seen g.D.Disk.size g.D.Disk.may_leave g.D.Disk.clock g.D.Disk.left_since g.D.Disk.fault_count in
    let o : Tells g.row.O.Denot = tells_of g.O.Disk.seen g.O.Disk.size g.O.Disk.may_leave g.O.Disk.clock g.O.Disk.left_since g.O.Disk.fault_count in
    let before : Ends = ends_of g.S.Source.left g.S.Source.faults g.K.Sink.given g.K.Sink.faults g.C.Clock.moments g.W.Draw.words g.W.Draw.faults c.args.link.now in
    let after : Ends = ends_of g.S.Source.left g.S.Source.faults g.K.Sink.given g.K.Sink.faults g.C.Clock.moments g.W.Draw.words g.W.Draw.faults c.exec-report.new.link in
    let report = c.exec-report.result in
    let stores = c.exec-report.new.stores in
    let runs : RunsFiles d o c.args.catalogue c.close_both-catalogue.result.0 c.args.objects c.close_both-catalogue.result.1 before after report =
    inr (serves-files d o c.args.catalogue c.close_both-catalogue.result.0 c.args.objects c.close_both-catalogue.result.1 before after report
    c.in-Ok.stores.catalogue stores.catalogue c.in-Ok.stores.objects stores.objects c.in-Ok.ensures.catalogue c.in-Ok.ensures.objects
    c.exec-report.ensures.serves c.exec-report.ensures.catalogue c.exec-report.ensures.objects c.close_both-catalogue.ensures.catalogue c.close_both-catalogue.ensures.objects
    c.close_both-catalogue.ensures.passes c.close_both-catalogue.ensures.object_passes c.close_both-catalogue.ensures.marked c.close_both-catalogue.ensures.objects_marked
    (λ none. ap (λ stores. stores.catalogue) (c.exec-report.ensures.unserved none)) (λ none. ap (λ stores. stores.objects) (c.exec-report.ensures.unserved none))) in
    record {
      runs = runs;
      untouched = c.exec-report.ensures.untouched;
      cause = cause-files d o c.args.catalogue c.close_both-catalogue.result.0 c.args.objects c.close_both-catalogue.result.1 before after report runs;
      status = status-files d o c.args.catalogue c.close_both-catalogue.result.0 c.args.objects c.close_both-catalogue.result.1 before after report runs;
      planned = planned-files d o c.args.catalogue c.close_both-catalogue.result.0 c.args.objects c.close_both-catalogue.result.1 before after report runs;
    }

pub returns-in-Err : goal.returns-in-Err
returns-in-Err g c =
    let d : Tells g.row.D.Denot = tells_of g.D.Disk.seen g.D.Disk.size g.D.Disk.may_leave g.D.Disk.clock g.D.Disk.left_since g.D.Disk.fault_count in
    let o : Tells g.row.O.Denot = tells_of g.O.Disk.seen g.O.Disk.size g.O.Disk.may_leave g.O.Disk.clock g.O.Disk.left_since g.O.Disk.fault_count in
    let ends : Ends = ends_of g.S.Source.left g.S.Source.faults g.K.Sink.given g.K.Sink.faults g.C.Clock.moments g.W.Draw.words g.W.Draw.faults c.args.link.now in
    let report = c.of.result in
    let unopened = c.in-Err.field-0 in
    let runs : RunsFiles d o c.args.catalogue unopened.catalogue c.args.objects unopened.objects ends ends report =
    inl (record {
      at_objects = unopened.at_objects;
      why = unopened.why;
      fails = c.in-Err.ensures.refused;
      link = refl;
      report_is = c.of.ensures ∙ ap (λ reason. report_of reason c.new.result.items) c.reason_not_opened-reason.ensures ∙ ap (report_of (reason_not_opened unopened.at_objects unopened.why)) c.new.ensures.items;
    }) in
    record {
      runs = runs;
      untouched = λ none. refl;
      cause = cause-files d o c.args.catalogue unopened.catalogue c.args.objects unopened.objects ends ends report runs;
      status = status-files d o c.args.catalogue unopened.catalogue c.args.objects unopened.objects ends ends report runs;
      planned = planned-files d o c.args.catalogue unopened.catalogue c.args.objects unopened.objects ends ends report runs;
    }
