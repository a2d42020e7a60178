use Rattle.std.proofs.Common.{◌≡◌, [], inl, inr, refl, sym, ap, subst, ◌∙◌}
use Rattle.pol_server.specs.Ends.{Ends, ends_of}
use Rattle.pol_cli.specs.Disks.{Tells, both_told, tells_of}
use Rattle.pol_cli.specs.Reasons.{report_of}
use Rattle.pol_cli.specs.declared.reason.Reason.TheVariants.{NoMemory, Usage}
use Rattle.pol_cli.proofs.CauseLemmas.{decided, status-told}
use Rattle.pol_cli.proofs.ServingLemmas.{runs-nothing}
use Rattle.pol_words.specs.Words.{IsReadAs, Means, MeansNothing}
use Rattle.pol_words.specs.declared.plan.Plan.TheVariants.{Exec, ExecFresh, Init}
use Rattle.pol_cli.proofs.RunLemmas.{cause-does, cause-quiet, does-meant, does-nothing, exec-untouched, other-does, reports-none, status-does, uncalled}
use Rattle.pol_cli.proofs.program.run.Goals as goal

pub returns-in-Ok-Some : goal.returns-in-Ok-Some
returns-in-Ok-Some g c =
    let d : Tells _ = tells_of g.D.Disk.seen g.D.Disk.size g.D.Disk.may_leave g.D.Disk.clock g.D.Disk.left_since g.D.Disk.fault_count in
    let o : Tells _ = tells_of g.O.Disk.seen g.O.Disk.size g.O.Disk.may_leave g.O.Disk.clock g.O.Disk.left_since g.O.Disk.fault_count in
    let before : Ends = ends_of g.S.Source.left g.S.Source.faults g.K.Sink.given g.K.Sink.faults g.C.Clock.moments g.W.Draw.words g.W.Draw.faults c.args.devices.link in
    let after : Ends = ends_of g.S.Source.left g.S.Source.faults g.K.Sink.given g.K.Sink.faults g.C.Clock.moments g.W.Draw.words g.W.Draw.faults c.run_plan.result.1.link in
    let old = c.args.devices in
    let new = c.run_plan.result.1 in
    let report = c.run_plan.result.0 in
    let plan = c.in-Ok-Some.plan in
    let meant : Means c.args.words.now.list plan = subst (IsReadAs c.args.words.now.list) c.in-Ok-Some.field-0-is c.in-Ok-Some.ensures.plan in
    let does = c.run_plan.ensures.does in
    let done = does-meant d o old.catalogue new.catalogue old.objects new.objects before after report c.args.words.now.list plan meant does in
    let cause = cause-does d o old.catalogue new.catalogue old.objects new.objects before after report plan does in
    record {
      usage = λ nothing. absurd (nothing plan meant);
      exec_fresh = λ secret means. (done (ExecFresh secret) means).runs;
      apart = λ secret means. ((done (ExecFresh secret) means).catalogue, (done (ExecFresh secret) means).objects);
      exec = λ catalogue objects means. inr (done (Exec catalogue objects) means);
      init = λ catalogue objects means. inr (done (Init catalogue objects) means);
      untouched = exec-untouched d o old.catalogue new.catalogue old.objects new.objects before after report c.args.words.now.list plan meant does c.run_plan.ensures.untouched;
      cause = cause;
      complete = λ unfailing. decided before after (both_told d o old.catalogue new.catalogue old.objects new.objects) report.reason cause unfailing;
      status = status-does d o old.catalogue new.catalogue old.objects new.objects before after report plan does;
      faulty = λ is. absurd (other-does d o old.catalogue new.catalogue old.objects new.objects before after report plan does is);
    }

pub returns-in-Ok-None : goal.returns-in-Ok-None
returns-in-Ok-None g c =
    let d : Tells _ = tells_of g.D.Disk.seen g.D.Disk.size g.D.Disk.may_leave g.D.Disk.clock g.D.Disk.left_since g.D.Disk.fault_count in
    let o : Tells _ = tells_of g.O.Disk.seen g.O.Disk.size g.O.Disk.may_leave g.O.Disk.clock g.O.Disk.left_since g.O.Disk.fault_count in
    let ends : Ends = ends_of g.S.Source.left g.S.Source.faults g.K.Sink.given g.K.Sink.faults g.C.Clock.moments g.W.Draw.words g.W.Draw.faults c.args.devices.link in
    let old = c.args.devices in
    let report = c.of.result in
    let is : report ≡ report_of Usage [] = reports-none Usage c.new.result.items report c.of.ensures c.new.ensures.items in
    let nothing : MeansNothing c.args.words.now.list = subst (IsReadAs c.args.words.now.list) c.in-Ok-None.field-0-is c.in-Ok-None.ensures.plan in
    let cause = cause-quiet d o old.catalogue old.catalogue old.objects old.objects ends ends report (inl is) in
    let done = does-nothing d o old.catalogue old.catalogue old.objects old.objects ends ends report c.args.words.now.list nothing in
    record {
      usage = λ _. (is, refl);
      exec_fresh = λ secret means. (done (ExecFresh secret) means).runs;
      apart = λ secret means. (refl, refl);
      exec = λ catalogue objects means. inr (done (Exec catalogue objects) means);
      init = λ catalogue objects means. inr (done (Init catalogue objects) means);
      untouched = λ plan means _ _. refl;
      cause = cause;
      complete = λ unfailing. decided ends ends (both_told d o old.catalogue old.catalogue old.objects old.objects) report.reason cause unfailing;
      status = status-told Usage [] report is;
      faulty = λ _. nothing;
    }

pub returns-in-Err : goal.returns-in-Err
returns-in-Err g c =
    let d : Tells _ = tells_of g.D.Disk.seen g.D.Disk.size g.D.Disk.may_leave g.D.Disk.clock g.D.Disk.left_since g.D.Disk.fault_count in
    let o : Tells _ = tells_of g.O.Disk.seen g.O.Disk.size g.O.Disk.may_leave g.O.Disk.clock g.O.Disk.left_since g.O.Disk.fault_count in
    let ends : Ends = ends_of g.S.Source.left g.S.Source.faults g.K.Sink.given g.K.Sink.faults g.C.Clock.moments g.W.Draw.words g.W.Draw.faults c.args.devices.link in
    let old = c.args.devices in
    let report = c.of-in-Err.result in
    let is : report ≡ report_of NoMemory [] = reports-none NoMemory c.new-in-Err.result.items report c.of-in-Err.ensures c.new-in-Err.ensures.items in
    let cause = cause-quiet d o old.catalogue old.catalogue old.objects old.objects ends ends report (inr is) in
    record {
      usage = λ nothing. (let contrary = c.in-Err.ensures.none nothing in cc);
      exec_fresh = λ secret means. runs-nothing secret ends report is;
      apart = λ secret means. (refl, refl);
      exec = λ catalogue objects means. inl (uncalled old.catalogue old.objects ends report is);
      init = λ catalogue objects means. inl (uncalled old.catalogue old.objects ends report is);
      untouched = λ plan means _ _. refl;
      cause = cause;
      complete = λ unfailing. decided ends ends (both_told d o old.catalogue old.catalogue old.objects old.objects) report.reason cause unfailing;
      status = status-told NoMemory [] report is;
      faulty = λ usage. (let contrary : NoMemory ≡ Usage = sym (ap (λ report. report.reason) is) ∙ usage in cc);
    }
