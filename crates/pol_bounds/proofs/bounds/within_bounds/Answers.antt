use Rattle.std.proofs.Common.{Option, ap, sym, subst, ◌∙◌}
use Rattle.std.specs.Bool.{⊤}
use Rattle.std.specs.Option.{option_or}
use Rattle.pol_commands.specs.declared.reply.Refusal.{Refusal}
use Rattle.pol_state.specs.Bounds.{first_refusal}
use Rattle.pol_bounds.specs.Counted.{limits_of, limits_put}
use Rattle.pol_rules.specs.Judged.{Sees}
use Rattle.pol_bounds.proofs.BoundsLemmas.{limits-after}
use Rattle.pol_rules.proofs.JudgedLemmas.{seen-stopped}
use Rattle.pol_bounds.proofs.bounds.within_bounds.Goals as goal

pub returns-in_err-counts_within : goal.returns-in_err-counts_within
returns-in_err-counts_within c after charge orderly is leads =
    let changes = c.args.changes.now in
    seen-stopped (λ _. ⊤) _ c.in_err-counts_within.field-0.0 c.from_residual.result c.from_residual.ensures.1
    (limits-after c.args.state.now.rows c.requires after charge changes orderly is leads
    ∙ ap (λ counts. option_or (first_refusal (limits_of counts)) (first_refusal (limits_put changes))) (sym c.counts_after.ensures)
    ∙ ap (λ first. option_or first (first_refusal (limits_put changes))) c.in_err-counts_within.ensures)

pub returns : goal.returns
returns c after charge orderly is leads =
    let changes = c.args.changes.now in
    subst (λ (rule : Option Refusal). Sees rule (λ _. ⊤) c.numbers_within.result) (sym (
    limits-after c.args.state.now.rows c.requires after charge changes orderly is leads
    ∙ ap (λ counts. option_or (first_refusal (limits_of counts)) (first_refusal (limits_put changes))) (sym c.counts_after.ensures)
    ∙ ap (λ first. option_or first (first_refusal (limits_put changes))) c.in_ok-counts_within.ensures.0))
    c.numbers_within.ensures
