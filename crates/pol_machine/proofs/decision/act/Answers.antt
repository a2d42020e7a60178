use Rattle.std.proofs.Common.{sym, subst}
use Rattle.pol_rules.specs.Judged.{Acts}
use Rattle.pol_machine.specs.Machine.{acting}
use Rattle.pol_commands.specs.declared.command.Action.{Action}
use Rattle.pol_machine.proofs.decision.act.Goals as goal

pub returns-in-CreateCatalog : goal.returns-in-CreateCatalog
returns-in-CreateCatalog c =
    subst (λ (action : Action). Acts c.args.asked.now (λ s command. acting s command action) c.create_catalog.result) (sym c.in-CreateCatalog.is) c.create_catalog.ensures

pub returns-in-ListJoins : goal.returns-in-ListJoins
returns-in-ListJoins c =
    subst (λ (action : Action). Acts c.args.asked.now (λ s command. acting s command action) c.list_joins.result) (sym c.in-ListJoins.is) c.list_joins.ensures

pub returns-in-CreatePrincipal : goal.returns-in-CreatePrincipal
returns-in-CreatePrincipal c =
    subst (λ (action : Action). Acts c.args.asked.now (λ s command. acting s command action) c.create_principal.result) (sym c.in-CreatePrincipal.is) c.create_principal.ensures

pub returns-in-CreateTable : goal.returns-in-CreateTable
returns-in-CreateTable c =
    subst (λ (action : Action). Acts c.args.asked.now (λ s command. acting s command action) c.creating.result) (sym c.in-CreateTable.is) c.creating.ensures

pub returns-in-CommitTable : goal.returns-in-CommitTable
returns-in-CommitTable c =
    subst (λ (action : Action). Acts c.args.asked.now (λ s command. acting s command action) c.commit_table.result) (sym c.in-CommitTable.is) c.commit_table.ensures

pub returns-in-CreateView : goal.returns-in-CreateView
returns-in-CreateView c =
    subst (λ (action : Action). Acts c.args.asked.now (λ s command. acting s command action) c.create_view.result) (sym c.in-CreateView.is) c.create_view.ensures

pub returns-in-ReplaceView : goal.returns-in-ReplaceView
returns-in-ReplaceView c =
    subst (λ (action : Action). Acts c.args.asked.now (λ s command. acting s command action) c.replace_view.result) (sym c.in-ReplaceView.is) c.replace_view.ensures
