-- The changes of an action lead to the rows after it.
use Rattle.std.proofs.Common.{◌≡◌, ◌+◌, Bool, true, false, not, List, [], ◌∷◌, Option, None, Some, refl, sym, ap, subst, ◌∙◌}
use Rattle.std.specs.List.{fold}
use Rattle.pol_content.specs.declared.change.Change.{Change}
use Rattle.pol_content.specs.declared.change.Change.TheVariants.{Time}
use Rattle.pol_commands.specs.declared.command.Command.{Command}
use Rattle.pol_commands.specs.declared.reply.Refusal.{Refusal}
use Rattle.pol_state.specs.Changes.{changes_between}
use Rattle.pol_state.specs.Rows.{Rows}
use Rattle.pol_state.specs.Applied.{applied, changed}
use Rattle.pol_state.proofs.ChangesLemmas.{changes-timed}
use Rattle.pol_rules.specs.Acting.{stamped, rows_by}
use Rattle.pol_rules.specs.Rules.{time_of}

pub no_changes : (s : Rows) (command : Command) → changes_between s (stamped s command s) ≡ []
no_changes s command = changes-timed s (time_of s command) (s.charged + command.charge)

module _ (s : Rows) (command : Command) where
  -- the changes of an action lead to the rows after it
  abbrev pub Leads : Rows → Type 0
  Leads after = applied (changes_between s (stamped s command after)) (time_of s command) command.charge s ≡ stamped s command after

  pub leads-same : Leads s
  leads-same = ap (λ changes. applied changes (time_of s command) command.charge s) (no_changes s command)

  pub leads-first : (first : Option Refusal) (after : Rows) → Leads after → Leads (rows_by first s after)
  leads-first None after leads = leads
  leads-first (Some why) after leads = leads-same

  pub leads-by : (after : Rows) (changes : List Change) → changes_between s (stamped s command after) ≡ changes → fold changed s changes ≡ record after { time = time_of s command; charged = s.charged } → Leads after
  leads-by after changes is so =
      ap (λ made. applied made (time_of s command) command.charge s) is ∙ ap (λ (now : Rows). record now { time = time_of s command; charged = now.charged + command.charge }) so

  -- one change, or none where a test shows that the rows stay
  pub leads-one : (after : Rows) (change : Change) (at test : Bool) → (test ≡ at → after ≡ s) → (test ≡ not at → changes_between s (stamped s command after) ≡ Time (time_of s command) ∷ change ∷ []) → changed (record s { time = time_of s command }) change ≡ record after { time = time_of s command; charged = s.charged } → Leads after
  leads-one after change true true same other so = subst Leads (sym (same refl)) leads-same
  leads-one after change true false same other so = leads-by after (Time (time_of s command) ∷ change ∷ []) (other refl) so
  leads-one after change false true same other so = leads-by after (Time (time_of s command) ∷ change ∷ []) (other refl) so
  leads-one after change false false same other so = subst Leads (sym (same refl)) leads-same
