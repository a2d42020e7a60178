use Rattle.std.proofs.Common.{ap, refl, ◌∙◌}
use Rattle.pol_server.specs.Stores.{seen_of}
use Rattle.pol_server.specs.Ends.{Ends, ends_of}
use Rattle.pol_cli.specs.Reasons.{report_of}
use Rattle.pol_cli.specs.declared.reason.Reason.TheVariants.{NoMemory}
use Rattle.pol_cli.specs.Serving.{RunsLink}
use Rattle.pol_cli.proofs.ServingLemmas.{cause-link, planned-link, runs-fresh, runs-nothing, status-link}
use Rattle.pol_cli.proofs.fresh.exec_fresh.Goals as goal

pub returns-in-Ok : goal.returns-in-Ok
returns-in-Ok g c =
    let before : Ends = ends_of g.S.Source.left g.S.Source.faults g.K.Sink.given g.K.Sink.faults g.C.Clock.moments g.W.Draw.words g.W.Draw.faults c.args.link.now in
    let after : Ends = ends_of g.S.Source.left g.S.Source.faults g.K.Sink.given g.K.Sink.faults g.C.Clock.moments g.W.Draw.words g.W.Draw.faults c.exec-report.new.link in
    let report = c.exec-report.result in
    let runs : RunsLink c.args.root_secret.now before after report =
    runs-fresh c.args.root_secret.now before after report (seen_of c.in-Ok.stores) (seen_of c.exec-report.new.stores) _ _ c.in-Ok.ensures
    c.close_both.ensures.passes c.close_both.ensures.object_passes c.close_both.ensures.marked c.close_both.ensures.objects_marked c.exec-report.ensures.serves in
    record {
      runs = runs;
      untouched = c.exec-report.ensures.untouched;
      cause = λ disks. cause-link c.args.root_secret.now before after report disks runs;
      status = status-link c.args.root_secret.now before after report runs;
      planned = planned-link c.args.root_secret.now before after report runs;
    }

pub returns-in-Err : goal.returns-in-Err
returns-in-Err g c =
    let ends : Ends = ends_of g.S.Source.left g.S.Source.faults g.K.Sink.given g.K.Sink.faults g.C.Clock.moments g.W.Draw.words g.W.Draw.faults c.args.link.now in
    let runs : RunsLink c.args.root_secret.now ends ends c.of.result = runs-nothing c.args.root_secret.now ends c.of.result (c.of.ensures ∙ ap (report_of NoMemory) c.new.ensures.items) in
    record {
      runs = runs;
      untouched = λ none. refl;
      cause = λ disks. cause-link c.args.root_secret.now ends ends c.of.result disks runs;
      status = status-link c.args.root_secret.now ends ends c.of.result runs;
      planned = planned-link c.args.root_secret.now ends ends c.of.result runs;
    }
