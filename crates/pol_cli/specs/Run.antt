-- What a run reports, and what it does to its devices, by the plan that its words ask for.
use Rattle.std.specs.Prelude.{◌≡◌, ◌⊎◌, ⊤, ℕ, List, []}
use Rattle.pol_cli.specs.Files.{RunsFiles}
use Rattle.pol_cli.specs.Serving.{RunsLink}
use Rattle.pol_server.specs.Ends.{Ends}
use Rattle.pol_cli.specs.Disks.{Tells}
use Rattle.pol_cli.specs.Reasons.{report_of}
use Rattle.pol_cli.specs.declared.reason.Reason.{Reason}
use Rattle.pol_cli.specs.declared.reason.Reason.TheVariants.{NoMemory}
use Rattle.pol_cli.specs.declared.report.Report.{Report}
use Rattle.pol_words.specs.declared.plan.Plan.{Plan}
use Rattle.pol_words.specs.declared.plan.Plan.TheVariants.{Exec, ExecFresh, Init}
use Rattle.pol_cli.specs.Init.{Initialises}

-- memory was wanting for the plan, and nothing was called
pub record IsUncalled {D O : Type 0} (old new : D) (objects_old objects_new : O) (before after : Ends) (report : Report) : Type 0 where
  pub link : after ≡ before
  pub catalogue : new ≡ old
  pub objects : objects_new ≡ objects_old
  pub report_is : report ≡ report_of NoMemory []

-- a run of `exec` on files
abbrev pub RunsExec : {D O : Type 0} → Tells D → Tells O → D → D → O → O → Ends → Ends → Report → Type 0
RunsExec d o old new objects_old objects_new before after report =
    IsUncalled old new objects_old objects_new before after report
    ⊎ RunsFiles d o old new objects_old objects_new before after report

-- `init` was done, and is reported by why it ended
pub record ReportsInit {D O : Type 0} (d : Tells D) (o : Tells O) (old new : D) (objects_old objects_new : O) (before after : Ends) (report : Report) : Type 0 where
  pub reason : Reason
  pub initialises : Initialises d o old new objects_old objects_new before after reason
  pub report_is : report ≡ report_of reason []

-- a run of `init`
abbrev pub RunsInit : {D O : Type 0} → Tells D → Tells O → D → D → O → O → Ends → Ends → Report → Type 0
RunsInit d o old new objects_old objects_new before after report =
    IsUncalled old new objects_old objects_new before after report
    ⊎ ReportsInit d o old new objects_old objects_new before after report

-- a run of `exec --root-secret`: its link is served over disks of its own
pub record RunsApart {D O : Type 0} (old new : D) (objects_old objects_new : O) (secret : List ℕ) (before after : Ends) (report : Report) : Type 0 where
  pub runs : RunsLink secret before after report
  pub catalogue : new ≡ old
  pub objects : objects_new ≡ objects_old

-- what is done where words ask for a plan, and memory was there for it
abbrev pub Does : {D O : Type 0} → Tells D → Tells O → D → D → O → O → Ends → Ends → Report → Plan → Type 0
Does d o old new objects_old objects_new before after report (ExecFresh secret) = RunsApart old new objects_old objects_new secret before after report
Does d o old new objects_old objects_new before after report (Exec catalogue objects) = RunsFiles d o old new objects_old objects_new before after report
Does d o old new objects_old objects_new before after report (Init catalogue objects) = ReportsInit d o old new objects_old objects_new before after report

-- a plan asks for a link to be served
abbrev pub IsExec : Plan → Type 0
IsExec (ExecFresh secret) = ⊤
IsExec (Exec catalogue objects) = ⊤
IsExec (Init catalogue objects) = ⊥
