use Rattle.std.proofs.Common.{◌≡◌, ◌⊎◌, ℕ, List, [], inl, inr, refl, ap, ◌∙◌}
use Rattle.std.specs.IoError.{error_kind}
use Rattle.pol_cli.proofs.ServingLemmas.{runs-nothing}
use Rattle.pol_cli.specs.Serving.{RunsLink}
use Rattle.pol_server.specs.Ends.{Ends, ends_of}
use Rattle.pol_cli.specs.Disks.{Tells, both_told, tells_of}
use Rattle.pol_cli.specs.Reasons.{report_of}
use Rattle.pol_cli.specs.declared.reason.Reason.TheVariants.{NoMemory, Usage}
use Rattle.pol_cli.proofs.CauseLemmas.{decided, status-told}
use Rattle.pol_words.specs.Words.{Means, MeansNothing}
use Rattle.pol_words.specs.declared.plan.Plan.{Plan}
use Rattle.pol_words.specs.declared.plan.Plan.TheVariants.{Exec, ExecFresh, Init}
use Rattle.pol_cli.specs.Given.{why_not_given}
use Rattle.pol_cli.specs.Run.{IsExec, RunsExec, RunsInit}
use Rattle.pol_cli.proofs.GivenLemmas.{read-given, read-line, unread-line, unread-none, unread-reason}
use Rattle.pol_cli.proofs.RunLemmas.{cause-quiet, report-quiet, reports-none, uncalled}
use Rattle.pol_cli.proofs.program.run_given.Goals as goal

pub returns-in-Ok : goal.returns-in-Ok
returns-in-Ok g c =
    let d : Tells _ = tells_of g.D.Disk.seen g.D.Disk.size g.D.Disk.may_leave g.D.Disk.clock g.D.Disk.left_since g.D.Disk.fault_count in
    let o : Tells _ = tells_of g.O.Disk.seen g.O.Disk.size g.O.Disk.may_leave g.O.Disk.clock g.O.Disk.left_since g.O.Disk.fault_count in
    let before : Ends = ends_of g.S.Source.left g.S.Source.faults g.K.Sink.given g.K.Sink.faults g.C.Clock.moments g.W.Draw.words g.W.Draw.faults c.args.devices.link in
    let after : Ends = ends_of g.S.Source.left g.S.Source.faults g.K.Sink.given g.K.Sink.faults g.C.Clock.moments g.W.Draw.words g.W.Draw.faults c.run-ran.result.1.link in
    let report = c.run-ran.result.0 in
    let old = c.args.devices in
    let new = c.run-ran.result.1 in
    record {
      none = read-given c.args.given c.in-Ok.words (λ error. (report ≡ report_of (why_not_given (error_kind error)) []) × (new ≡ old)) c.in-Ok.ensures.none;
      usage = read-line c.args.given c.in-Ok.words (λ words. MeansNothing words → ((report ≡ report_of Usage []) ⊎ (report ≡ report_of NoMemory [])) × (new ≡ old)) c.in-Ok.ensures.words
          (λ nothing. (inl (c.run-ran.ensures.usage nothing).0, (c.run-ran.ensures.usage nothing).1));
      exec_fresh = read-line c.args.given c.in-Ok.words (λ words. (secret : List ℕ) → Means words (ExecFresh secret) → RunsLink secret before after report) c.in-Ok.ensures.words
          c.run-ran.ensures.exec_fresh;
      apart = read-line c.args.given c.in-Ok.words (λ words. (secret : List ℕ) → Means words (ExecFresh secret) → (new.catalogue ≡ old.catalogue) × (new.objects ≡ old.objects)) c.in-Ok.ensures.words
          c.run-ran.ensures.apart;
      exec = read-line c.args.given c.in-Ok.words (λ words. (catalogue objects : List ℕ) → Means words (Exec catalogue objects) → RunsExec d o old.catalogue new.catalogue old.objects new.objects before after report)
          c.in-Ok.ensures.words c.run-ran.ensures.exec;
      init = read-line c.args.given c.in-Ok.words (λ words. (catalogue objects : List ℕ) → Means words (Init catalogue objects) → RunsInit d o old.catalogue new.catalogue old.objects new.objects before after report)
          c.in-Ok.ensures.words c.run-ran.ensures.init;
      untouched = read-line c.args.given c.in-Ok.words (λ words. (plan : Plan) → Means words plan → IsExec plan → report.served ≡ [] → new.link ≡ old.link) c.in-Ok.ensures.words
          c.run-ran.ensures.untouched;
      cause = c.run-ran.ensures.cause;
      complete = c.run-ran.ensures.complete;
      status = c.run-ran.ensures.status;
    }

pub returns-in-Err : goal.returns-in-Err
returns-in-Err g c =
    let d : Tells _ = tells_of g.D.Disk.seen g.D.Disk.size g.D.Disk.may_leave g.D.Disk.clock g.D.Disk.left_since g.D.Disk.fault_count in
    let o : Tells _ = tells_of g.O.Disk.seen g.O.Disk.size g.O.Disk.may_leave g.O.Disk.clock g.O.Disk.left_since g.O.Disk.fault_count in
    let ends : Ends = ends_of g.S.Source.left g.S.Source.faults g.K.Sink.given g.K.Sink.faults g.C.Clock.moments g.W.Draw.words g.W.Draw.faults c.args.devices.link in
    let old = c.args.devices in
    let report = c.of.result in
    let is : report ≡ report_of c.in-Err.reason [] = reports-none c.in-Err.reason c.new.result.items report c.of.ensures c.new.ensures.items in
    let which = unread-reason c.args.given c.in-Err.reason c.in-Err.ensures.words c.in-Err.ensures.none in
    let cause = cause-quiet d o old.catalogue old.catalogue old.objects old.objects ends ends report (report-quiet c.in-Err.reason report is which) in
    record {
      none = unread-none c.args.given c.in-Err.reason (λ reason. (report ≡ report_of reason []) × (old ≡ old)) c.in-Err.ensures.none (is, refl);
      usage = unread-line c.args.given c.in-Err.reason (λ reason words. MeansNothing words → ((report ≡ report_of Usage []) ⊎ (report ≡ report_of NoMemory [])) × (old ≡ old)) c.in-Err.ensures.words
          (λ words memory nothing. (inr (is ∙ ap (λ reason. report_of reason []) memory), refl));
      exec_fresh = unread-line c.args.given c.in-Err.reason (λ reason words. (secret : List ℕ) → Means words (ExecFresh secret) → RunsLink secret ends ends report) c.in-Err.ensures.words
          (λ words memory secret means. runs-nothing secret ends report (is ∙ ap (λ reason. report_of reason []) memory));
      apart = unread-line c.args.given c.in-Err.reason (λ reason words. (secret : List ℕ) → Means words (ExecFresh secret) → (old.catalogue ≡ old.catalogue) × (old.objects ≡ old.objects)) c.in-Err.ensures.words
          (λ words memory secret means. (refl, refl));
      exec = unread-line c.args.given c.in-Err.reason (λ reason words. (catalogue objects : List ℕ) → Means words (Exec catalogue objects) → RunsExec d o old.catalogue old.catalogue old.objects old.objects ends ends report) c.in-Err.ensures.words
          (λ words memory catalogue objects means. inl (uncalled old.catalogue old.objects ends report (is ∙ ap (λ reason. report_of reason []) memory)));
      init = unread-line c.args.given c.in-Err.reason (λ reason words. (catalogue objects : List ℕ) → Means words (Init catalogue objects) → RunsInit d o old.catalogue old.catalogue old.objects old.objects ends ends report) c.in-Err.ensures.words
          (λ words memory catalogue objects means. inl (uncalled old.catalogue old.objects ends report (is ∙ ap (λ reason. report_of reason []) memory)));
      untouched = unread-line c.args.given c.in-Err.reason (λ reason words. (plan : Plan) → Means words plan → IsExec plan → report.served ≡ [] → old.link ≡ old.link) c.in-Err.ensures.words
          (λ words memory plan means _ _. refl);
      cause = cause;
      complete = λ unfailing. decided ends ends (both_told d o old.catalogue old.catalogue old.objects old.objects) report.reason cause unfailing;
      status = status-told c.in-Err.reason [] report is;
    }
