-- What the reason of a run tells of its devices, by what was done.
use Rattle.std.proofs.Common.{◌≡◌, ◌≢◌, ◌⊎◌, ℕ, List, [], refl, sym, ap, subst, ◌∙◌, inl, inr}
use Rattle.pol_cli.proofs.FilesLemmas.{cause-files, planned-files, status-files}
use Rattle.pol_cli.proofs.ServingLemmas.{cause-link, planned-link, status-link}
use Rattle.pol_init.specs.Prepared.{IsNotPrepared}
use Rattle.pol_init.specs.declared.journals.NotMade.{NotMade}
use Rattle.pol_init.specs.declared.journals.NotMade.TheVariants as unmade
use Rattle.pol_init.specs.declared.prepared.NotPrepared.{NotPrepared}
use Rattle.pol_init.specs.declared.prepared.NotPrepared.TheVariants as unprepared
use Rattle.pol_init.specs.declared.prepared.Prepared.{Prepared}
use Rattle.pol_server.specs.Ends.{Ends}
use Rattle.pol_cli.specs.Causes.{HasCause}
use Rattle.pol_cli.specs.Disks.{Tells, both_told}
use Rattle.pol_cli.specs.Reasons.{reason_not_made, reason_not_prepared, report_of, status_of}
use Rattle.pol_cli.specs.declared.reason.Reason.{Reason}
use Rattle.pol_cli.specs.declared.reason.Reason.TheVariants.{Done, NoMemory, Usage, WriteFault}
use Rattle.pol_cli.specs.declared.report.Report.{Report}
use Rattle.pol_cli.specs.declared.report.ServedLink.{ServedLink}
use Rattle.pol_cli.proofs.CauseLemmas.{cause-unmade, status-told}
use Rattle.pol_words.specs.declared.plan.Plan.{Plan}
use Rattle.pol_words.specs.declared.plan.Plan.TheVariants.{Exec, ExecFresh, Init}
use Rattle.pol_words.specs.Words.{Means, MeansNothing}
use Rattle.pol_words.proofs.LineLemmas.{means-one}
use Rattle.pol_cli.specs.Init.{Initialises, IsMade, IsRefused, Writes, inputs, sink}
use Rattle.pol_cli.specs.Run.{Does, IsExec, IsUncalled}

not-prepared-other : (why : NotPrepared) → reason_not_prepared why ≢ Usage
not-prepared-other unprepared.ReadFault is = cc
not-prepared-other (unprepared.BadDeclaration fault) is = cc
not-prepared-other unprepared.DrawFault is = cc
not-prepared-other (unprepared.Refused index why) is = cc
not-prepared-other unprepared.OutOfMemory is = cc

not-made-other : (why : NotMade) → reason_not_made why ≢ Usage
not-made-other (unmade.JournalThere objects) is = cc
not-made-other (unmade.DiskFault objects) is = cc

module _ {D O : Type 0} (d : Tells D) (o : Tells O) (old new : D) (objects_old objects_new : O) (before after : Ends) where
  abbrev Caused : Reason → Type 0
  Caused reason = HasCause before after (both_told d o old new objects_old objects_new) reason

  cause-unprepared : (why : NotPrepared) → IsNotPrepared (inputs before) (inputs after) why → Caused (reason_not_prepared why)
  cause-unprepared unprepared.ReadFault is = is.0
  cause-unprepared (unprepared.BadDeclaration fault) is = tt
  cause-unprepared unprepared.DrawFault is = is.caused
  cause-unprepared (unprepared.Refused index why) is = tt
  cause-unprepared unprepared.OutOfMemory is = tt

  cause-writes : (output : List ℕ) (reason : Reason) → Writes (sink before) (sink after) output reason → Caused reason
  cause-writes output reason (inl done) = subst Caused (sym done.0) tt
  cause-writes output reason (inr failed) = subst Caused (sym failed.0) failed.1

  cause-comes : (body : List ℕ) (prepared : Prepared) (reason : Reason)
      → IsRefused d o old new objects_old objects_new (sink before) (sink after) reason ⊎ IsMade d o old new objects_old objects_new (sink before) (sink after) body prepared reason
      → Caused reason
  cause-comes body prepared reason (inl refused) =
      subst Caused (sym refused.reason_is) (cause-unmade before after (both_told d o old new objects_old objects_new) refused.why refused.cause)
  cause-comes body prepared reason (inr made) = cause-writes prepared.output reason made.writes

  -- a run of `init`
  pub cause-init : (reason : Reason) → Initialises d o old new objects_old objects_new before after reason → Caused reason
  cause-init reason (inl none) = subst Caused (sym none.reason_is) (cause-unprepared none.why none.refused)
  cause-init reason (inr makes) = cause-comes makes.prepares.ready.body makes.prepared reason makes.makes.comes

  comes-other : (body : List ℕ) (prepared : Prepared) (reason : Reason)
      → IsRefused d o old new objects_old objects_new (sink before) (sink after) reason ⊎ IsMade d o old new objects_old objects_new (sink before) (sink after) body prepared reason
      → reason ≢ Usage
  comes-other body prepared reason (inl refused) is = not-made-other refused.why (sym refused.reason_is ∙ is)
  comes-other body prepared reason (inr made) is = writes-other made.writes is where
    writes-other : Writes (sink before) (sink after) prepared.output reason → reason ≢ Usage
    writes-other (inl done) usage = let contrary : Done ≡ Usage = sym done.0 ∙ usage in cc
    writes-other (inr failed) usage = let contrary : WriteFault ≡ Usage = sym failed.0 ∙ usage in cc

  -- is no faulty line
  pub init-other : (reason : Reason) → Initialises d o old new objects_old objects_new before after reason → reason ≢ Usage
  init-other reason (inl none) is = not-prepared-other none.why (sym none.reason_is ∙ is)
  init-other reason (inr makes) is = comes-other makes.prepares.ready.body makes.prepared reason makes.makes.comes is

  module _ (report : Report) where
    -- of a run that did what its plan asks for
    pub cause-does : (plan : Plan) → Does d o old new objects_old objects_new before after report plan → Caused report.reason
    cause-does (ExecFresh secret) does = cause-link secret before after report (both_told d o old new objects_old objects_new) does.runs
    cause-does (Exec catalogue objects) does = cause-files d o old new objects_old objects_new before after report does
    cause-does (Init catalogue objects) does = subst Caused (sym (ap (λ report. report.reason) does.report_is)) (cause-init does.reason does.initialises)

    pub other-does : (plan : Plan) → Does d o old new objects_old objects_new before after report plan → report.reason ≢ Usage
    other-does (ExecFresh secret) does is = planned-link secret before after report does.runs is
    other-does (Exec catalogue objects) does is = planned-files d o old new objects_old objects_new before after report does is
    other-does (Init catalogue objects) does is = init-other does.reason does.initialises (sym (ap (λ report. report.reason) does.report_is) ∙ is)

    pub status-does : (plan : Plan) → Does d o old new objects_old objects_new before after report plan → report.status ≡ status_of report.reason
    status-does (ExecFresh secret) does = status-link secret before after report does.runs
    status-does (Exec catalogue objects) does = status-files d o old new objects_old objects_new before after report does
    status-does (Init catalogue objects) does = status-told does.reason [] report does.report_is

    -- words that mean nothing ask for nothing
    pub does-nothing : (words : List (List ℕ)) → MeansNothing words → (plan : Plan) → Means words plan → Does d o old new objects_old objects_new before after report plan
    does-nothing words nothing plan means = absurd (nothing plan means)

    -- what is done by one plan is done by each that the words mean
    module _ (words : List (List ℕ)) (plan : Plan) (meant : Means words plan) (does : Does d o old new objects_old objects_new before after report plan) where
      pub does-meant : (other : Plan) → Means words other → Does d o old new objects_old objects_new before after report other
      does-meant other means = subst (Does d o old new objects_old objects_new before after report) (means-one words plan other meant means) does

      pub exec-untouched : {P : Type 0} → (IsExec plan → P) → (other : Plan) → Means words other → IsExec other → P
      exec-untouched untouched other means is = untouched (subst IsExec (means-one words other plan means meant) is)

  -- of one that called nothing
  pub cause-quiet : (report : Report) → (report ≡ report_of Usage []) ⊎ (report ≡ report_of NoMemory []) → Caused report.reason
  cause-quiet report (inl is) = subst Caused (sym (ap (λ report. report.reason) is)) tt
  cause-quiet report (inr is) = subst Caused (sym (ap (λ report. report.reason) is)) tt

pub report-quiet : (reason : Reason) (report : Report) → report ≡ report_of reason [] → (reason ≡ Usage) ⊎ (reason ≡ NoMemory) → (report ≡ report_of Usage []) ⊎ (report ≡ report_of NoMemory [])
report-quiet reason report is (inl usage) = inl (is ∙ ap (λ reason. report_of reason []) usage)
report-quiet reason report is (inr memory) = inr (is ∙ ap (λ reason. report_of reason []) memory)

pub uncalled : {D O : Type 0} (disk : D) (objects : O) (ends : Ends) (report : Report) → report ≡ report_of NoMemory [] → IsUncalled disk disk objects objects ends ends report
uncalled disk objects ends report is = record { link = refl; catalogue = refl; objects = refl; report_is = is }

-- a report without links
pub reports-none : (reason : Reason) (served : List ServedLink) (report : Report) → report ≡ report_of reason served → served ≡ [] → report ≡ report_of reason []
reports-none reason served report is none = is ∙ ap (report_of reason) none
